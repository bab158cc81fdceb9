-- All members are set: the keys that are missing come first, and then each value takes its place.
use Rattle.std.proofs.Common.{◌≡◌, ◌≢◌, ℕ, List, [], ◌∷◌, ◌++◌, length, take, refl, ap, sym, ◌∙◌, subst, arith, append_assoc, Bool, true, false}
use Rattle.std.specs.Prelude.{Option, Some, None, is_some, if◌then◌else◌}
use Rattle.std.proofs.lemmas.Bool.{cond-true, cond-false}
use Rattle.std.proofs.lemmas.List.{append-nil, length-take, take-append-le}
use Rattle.prop_values.specs.Changes.{with_member, merged}
use Rattle.prop_values.specs.Data.{Data, null, pairs_of}
use Rattle.prop_values.specs.Keys.{LacksKey, HasDistinctKeys, keys}
use Rattle.prop_values.specs.Equality.{same_text, at_key}
use Rattle.prop_values.proofs.KeyLaws.{texts_same, texts_differ}
use Rattle.prop_values.specs.MergeSteps.{with_key, with_keys, replaced, all_replaced}
use Rattle.prop_values.proofs.Replacing.{keys_replaced}

abbrev has : List ℕ → List (List ℕ × Data) → Bool
has key ps = is_some (at_key key (pairs_of ps))

-- whether a list of keys has one
abbrev is_listed : List ℕ → List (List ℕ) → Bool
is_listed key [] = false
is_listed key (k ∷ ks) = if same_text k key then true else is_listed key ks

listed_step : (d : Data) (rest : Option Data) (same : Bool) → is_some (if same then Some d else rest) ≡ (if same then true else is_some rest)
listed_step d rest true = refl
listed_step d rest false = refl

has_listed : (key : List ℕ) (ps : List (List ℕ × Data)) → has key ps ≡ is_listed key (keys ps)
has_listed key [] = refl
has_listed key (p ∷ ps) = listed_step p.1 (at_key key (pairs_of ps)) (same_text p.0 key) ∙ ap (λ b. if same_text p.0 key then true else b) (has_listed key ps)

has_replaced : (key q : List ℕ) (d : Data) (ps : List (List ℕ × Data)) → has key (replaced q d ps) ≡ has key ps
has_replaced key q d ps = has_listed key (replaced q d ps) ∙ (ap (is_listed key) (keys_replaced q d ps) ∙ sym (has_listed key ps))

-- where a key is there, what follows the entries stays after them
push_step : (q : List ℕ) (d : Data) (p x : List ℕ × Data) (ps : List (List ℕ × Data)) (same : Bool) → is_some (if same then Some p.1 else at_key q (pairs_of ps)) ≡ true → (has q ps ≡ true → replaced q d (ps ++ x ∷ []) ≡ replaced q d ps ++ x ∷ []) → (if same then (p.0, d) ∷ (ps ++ x ∷ []) else p ∷ replaced q d (ps ++ x ∷ [])) ≡ (if same then (p.0, d) ∷ ps else p ∷ replaced q d ps) ++ x ∷ []
push_step q d p x ps true h go = refl
push_step q d p x ps false h go = ap (λ xs. p ∷ xs) (go h)

replaced_push : (q : List ℕ) (d : Data) (ps : List (List ℕ × Data)) (x : List ℕ × Data) → has q ps ≡ true → replaced q d (ps ++ x ∷ []) ≡ replaced q d ps ++ x ∷ []
replaced_push q d [] x h = absurd (cc)
replaced_push q d (p ∷ ps) x h = push_step q d p x ps (same_text p.0 q) h (replaced_push q d ps x)

has_step : (d : Data) (a b : Option Data) (same : Bool) → is_some (if same then Some d else a) ≡ true → (is_some a ≡ true → is_some b ≡ true) → is_some (if same then Some d else b) ≡ true
has_step d a b true h go = refl
has_step d a b false h go = go h

has_push : (q : List ℕ) (ps : List (List ℕ × Data)) (x : List ℕ × Data) → has q ps ≡ true → has q (ps ++ x ∷ []) ≡ true
has_push q [] x h = absurd (cc)
has_push q (p ∷ ps) x h = has_step p.1 (at_key q (pairs_of ps)) (at_key q (pairs_of (ps ++ x ∷ []))) (same_text p.0 q) h (has_push q ps x)

abbrev added : Bool → List ℕ → List (List ℕ × Data) → List (List ℕ × Data)
added there key ps = if there then ps else ps ++ (key, null) ∷ []

has_added : (q key : List ℕ) (ps : List (List ℕ × Data)) (there : Bool) → has q ps ≡ true → has q (added there key ps) ≡ true
has_added q key ps true h = h
has_added q key ps false h = has_push q ps (key, null) h

replaced_added : (q : List ℕ) (d : Data) (key : List ℕ) (ps : List (List ℕ × Data)) (there : Bool) → has q ps ≡ true → replaced q d (added there key ps) ≡ added there key (replaced q d ps)
replaced_added q d key ps true h = refl
replaced_added q d key ps false h = replaced_push q d ps (key, null) h

-- a value takes its place before or after further keys are added
replaced_before : (q : List ℕ) (d : Data) (key : List ℕ) (ps : List (List ℕ × Data)) → has q ps ≡ true → replaced q d (with_key key ps) ≡ with_key key (replaced q d ps)
replaced_before q d key ps h = replaced_added q d key ps (has key ps) h ∙ ap (λ there. added there key (replaced q d ps)) (sym (has_replaced key q d ps))

replaced_first : (q : List ℕ) (d : Data) (qs ps : List (List ℕ × Data)) → has q ps ≡ true → replaced q d (with_keys ps qs) ≡ with_keys (replaced q d ps) qs
replaced_first q d [] ps h = refl
replaced_first q d (r ∷ qs) ps h = replaced_first q d qs (with_key r.0 ps) (has_added q r.0 ps (has r.0 ps) h) ∙ ap (λ xs. with_keys xs qs) (replaced_before q d r.0 ps h)

there_step : (q : List ℕ) (d : Data) (p : List ℕ × Data) (ps : List (List ℕ × Data)) (same : Bool) → is_some (if same then Some p.1 else at_key q (pairs_of ps)) ≡ true → (has q ps ≡ true → replaced q d ps ≡ with_member q d ps) → (if same then (p.0, d) ∷ ps else p ∷ replaced q d ps) ≡ (if same then (p.0, d) ∷ ps else p ∷ with_member q d ps)
there_step q d p ps true h go = refl
there_step q d p ps false h go = ap (λ xs. p ∷ xs) (go h)

-- A member whose key is there replaces the data.
pub member_there : (q : List ℕ) (d : Data) (ps : List (List ℕ × Data)) → has q ps ≡ true → replaced q d ps ≡ with_member q d ps
member_there q d [] h = absurd (cc)
member_there q d (p ∷ ps) h = there_step q d p ps (same_text p.0 q) h (member_there q d ps)

lacking_step : (q : List ℕ) (d : Data) (p : List ℕ × Data) (ps xs : List (List ℕ × Data)) (same : Bool) → is_some (if same then Some p.1 else at_key q (pairs_of ps)) ≡ false → (has q ps ≡ false → replaced q d xs ≡ with_member q d ps) → (if same then (p.0, d) ∷ xs else p ∷ replaced q d xs) ≡ (if same then (p.0, d) ∷ ps else p ∷ with_member q d ps)
lacking_step q d p ps xs true h go = absurd (cc)
lacking_step q d p ps xs false h go = ap (λ rest. p ∷ rest) (go h)

member_lacking : (q : List ℕ) (d : Data) (ps : List (List ℕ × Data)) → has q ps ≡ false → replaced q d (ps ++ (q, null) ∷ []) ≡ with_member q d ps
member_lacking q d [] h = cond-true (same_text q q) ((q, d) ∷ []) ((q, null) ∷ []) (texts_same q q refl)
member_lacking q d (p ∷ ps) h = lacking_step q d p ps (ps ++ (q, null) ∷ []) (same_text p.0 q) h (member_lacking q d ps)

-- A member whose key is not there follows the others.
pub member_new : (q : List ℕ) (d : Data) (ps : List (List ℕ × Data)) → LacksKey q ps → with_member q d ps ≡ ps ++ (q, d) ∷ []
member_new q d [] h = refl
member_new q d (p ∷ ps) h = cond-false (same_text p.0 q) ((p.0, d) ∷ ps) (p ∷ with_member q d ps) (texts_differ p.0 q h.0) ∙ ap (λ xs. p ∷ xs) (member_new q d ps h.1)

set_added : (q : List ℕ) (d : Data) (ps : List (List ℕ × Data)) (there : Bool) → has q ps ≡ there → replaced q d (added there q ps) ≡ with_member q d ps
set_added q d ps true h = member_there q d ps h
set_added q d ps false h = member_lacking q d ps h

has_last : (q : List ℕ) (d : Data) (ps : List (List ℕ × Data)) → has q (ps ++ (q, d) ∷ []) ≡ true
has_last q d [] = ap is_some (cond-true (same_text q q) (Some d) None (texts_same q q refl))
has_last q d (p ∷ ps) = elim (same_text p.0 q) as (λ (same : Bool). is_some (if same then Some p.1 else at_key q (pairs_of (ps ++ (q, d) ∷ []))) ≡ true) [ true ↦ refl | false ↦ has_last q d ps ]

has_own : (q : List ℕ) (ps : List (List ℕ × Data)) (there : Bool) → has q ps ≡ there → has q (added there q ps) ≡ true
has_own q ps true h = h
has_own q ps false h = has_last q null ps

-- Keys first and then values: together each member is set.
pub all_merged : (qs ps : List (List ℕ × Data)) → all_replaced (with_keys ps qs) qs ≡ merged ps qs
all_merged [] ps = refl
all_merged (q ∷ qs) ps =
    ap (λ xs. all_replaced xs qs) (replaced_first q.0 q.1 qs (with_key q.0 ps) (has_own q.0 ps (has q.0 ps) refl)) ∙
    (ap (λ xs. all_replaced (with_keys xs qs) qs) (set_added q.0 q.1 ps (has q.0 ps) refl) ∙ all_merged qs (with_member q.0 q.1 ps))

last_lacks : (key : List ℕ) (ps : List (List ℕ × Data)) (q : List ℕ × Data) (qs : List (List ℕ × Data)) → LacksKey key (ps ++ q ∷ qs) → q.0 ≢ key
last_lacks key [] q qs h = h.0
last_lacks key (p ∷ ps) q qs h = last_lacks key ps q qs h.1

first_lacks : (ps : List (List ℕ × Data)) (q : List ℕ × Data) (qs : List (List ℕ × Data)) → HasDistinctKeys (ps ++ q ∷ qs) → LacksKey q.0 ps
first_lacks [] q qs h = tt
first_lacks (p ∷ ps) q qs h = ((λ e. last_lacks p.0 ps q qs h.0 (sym e)), first_lacks ps q qs h.1)

merged_behind : (qs ps : List (List ℕ × Data)) → HasDistinctKeys (ps ++ qs) → merged ps qs ≡ ps ++ qs
merged_behind [] ps h = sym (append-nil ps)
merged_behind (q ∷ qs) ps h =
    let joined = append_assoc ps (q ∷ []) qs in
    ap (λ xs. merged xs qs) (member_new q.0 q.1 ps (first_lacks ps q qs h)) ∙ (merged_behind qs (ps ++ q ∷ []) (subst HasDistinctKeys (sym joined) h) ∙ joined)

-- Members set where none are are those members.
pub merged_none : (qs : List (List ℕ × Data)) → HasDistinctKeys qs → merged [] qs ≡ qs
merged_none qs h = merged_behind qs [] h

-- What is first remains first.
pub first_stays : (old ps xs : List (List ℕ × Data)) → take (length old) ps ≡ old → take (length old) (ps ++ xs) ≡ old
first_stays old ps xs e = take-append-le (length old) ps xs (omega (arith, ap length e, length-take (length old) ps)) ∙ e

pub first_added : (old : List (List ℕ × Data)) (key : List ℕ) (ps : List (List ℕ × Data)) → take (length old) ps ≡ old → take (length old) (with_key key ps) ≡ old
first_added old key ps e = elim (has key ps) as (λ (there : Bool). take (length old) (added there key ps) ≡ old) [ true ↦ e | false ↦ first_stays old ps ((key, null) ∷ []) e ]
