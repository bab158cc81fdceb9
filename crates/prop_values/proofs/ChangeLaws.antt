-- For callers: what is at each key once entries have changed.
use Rattle.std.specs.Prelude.{◌≡◌, ℕ, List, [], ◌∷◌, Bool, true, false, Option, Some, None, if◌then◌else◌}
use Rattle.std.specs.Option.{option_or}
use Rattle.std.proofs.Common.{refl, ap, sym, ◌∙◌, subst}
use Rattle.std.proofs.lemmas.Bool.{both_ways}
use Rattle.key_index.specs.Keys.{last_of, but_last, last_first}
use Rattle.prop_values.specs.Changes.{with_member, merged, without_key}
use Rattle.prop_values.specs.Data.{Data, pairs_of}
use Rattle.prop_values.specs.Keys.{LacksKey, HasDistinctKeys}
use Rattle.prop_values.specs.Equality.{same_text, at_key}
use Rattle.prop_values.proofs.KeyLaws.{same_texts, texts_same, texts_differ, none_at_lacking}
use Rattle.prop_values.proofs.Removing.{last_differs}

-- two tests that do not both hold may be asked in either order
either_first : (a b : Bool) (x y z : Option Data) → (a ≡ true → b ≡ true → x ≡ y) → (if a then x else (if b then y else z)) ≡ (if b then y else (if a then x else z))
either_first true true x y z h = h refl refl
either_first true false x y z h = refl
either_first false true x y z h = refl
either_first false false x y z h = refl

-- a text is not the same as two texts that differ
not_both : {X : Type 0} (a b q : List ℕ) → same_text a b ≡ false → same_text a q ≡ true → same_text b q ≡ true → X
not_both a b q e f g = absurd (both_ways (same_text a b) e (texts_same a b (same_texts a q f ∙ sym (same_texts b q g))))

-- a test that is asked again
asked_again : (a b : Bool) (x y z : Option Data) → a ≡ b → (if a then x else z) ≡ (if b then x else (if a then y else z))
asked_again true true x y z e = refl
asked_again true false x y z e = absurd (cc)
asked_again false true x y z e = absurd (cc)
asked_again false false x y z e = refl

member_step : (key : List ℕ) (d : Data) (q : List ℕ) (p : List ℕ × Data) (ps : List (List ℕ × Data)) (same : Bool) → same_text p.0 key ≡ same → at_key q (pairs_of (with_member key d ps)) ≡ (if same_text key q then Some d else at_key q (pairs_of ps)) → at_key q (pairs_of (if same then (p.0, d) ∷ ps else p ∷ with_member key d ps)) ≡ (if same_text key q then Some d else (if same_text p.0 q then Some p.1 else at_key q (pairs_of ps)))
member_step key d q p ps true e h = asked_again (same_text p.0 q) (same_text key q) (Some d) (Some p.1) (at_key q (pairs_of ps)) (ap (λ k. same_text k q) (same_texts p.0 key e))
member_step key d q p ps false e h =
    ap (λ r. if same_text p.0 q then Some p.1 else r) h ∙ either_first (same_text p.0 q) (same_text key q) (Some p.1) (Some d) (at_key q (pairs_of ps)) (λ f g. not_both p.0 key q e f g)

-- A member has its data at its key, and at each other key is what was there.
pub at_member : (key : List ℕ) (d : Data) (ps : List (List ℕ × Data)) (q : List ℕ) → at_key q (pairs_of (with_member key d ps)) ≡ (if same_text key q then Some d else at_key q (pairs_of ps))
at_member key d [] q = refl
at_member key d (p ∷ ps) q = member_step key d q p ps (same_text p.0 key) refl (at_member key d ps q)

merged_step : (same : Bool) (d : Data) (later old : Option Data) → (same ≡ true → later ≡ None) → option_or later (if same then Some d else old) ≡ option_or (if same then Some d else later) old
merged_step true d later old h = ap (λ r. option_or r (Some d)) (h refl)
merged_step false d later old h = refl

-- Of members whose keys differ each has its data at its key, and at each other key is what was there.
pub at_merged : (ps qs : List (List ℕ × Data)) → HasDistinctKeys qs → (q : List ℕ) → at_key q (pairs_of (merged ps qs)) ≡ option_or (at_key q (pairs_of qs)) (at_key q (pairs_of ps))
at_merged ps [] h q = refl
at_merged ps (r ∷ qs) h q =
    at_merged (with_member r.0 r.1 ps) qs h.1 q ∙
    (ap (option_or (at_key q (pairs_of qs))) (at_member r.0 r.1 ps q) ∙
    merged_step (same_text r.0 q) r.1 (at_key q (pairs_of qs)) (at_key q (pairs_of ps)) (λ e. none_at_lacking q qs (subst (λ k. LacksKey k qs) (same_texts r.0 q e) h.0)))

gone_first : (a b : Bool) (x : Option Data) (z : Option Data) → a ≡ b → (a ≡ true → z ≡ None) → z ≡ (if b then None else (if a then x else z))
gone_first true true x z e h = h refl
gone_first true false x z e h = absurd (cc)
gone_first false true x z e h = absurd (cc)
gone_first false false x z e h = refl

apart_first : (a b q : List ℕ) (x y : Option Data) (z : Option Data) → same_text a b ≡ false → (if same_text a q then x else (if same_text b q then y else z)) ≡ (if same_text b q then y else (if same_text a q then x else z))
apart_first a b q x y z e = either_first (same_text a q) (same_text b q) x y z (λ f g. not_both a b q e f g)

-- The last entry may be looked at first.
at_last_first : (q : List ℕ) (p : List ℕ × Data) (ps : List (List ℕ × Data)) → HasDistinctKeys (p ∷ ps) → at_key q (pairs_of (last_first (p ∷ ps))) ≡ at_key q (pairs_of (p ∷ ps))
at_last_first q p [] h = refl
at_last_first q p (r ∷ ps) h =
    let last = last_of r ps in
    apart_first last.0 p.0 q (Some last.1) (Some p.1) (at_key q (pairs_of (but_last r ps))) (texts_differ last.0 p.0 (λ e. last_differs p r ps h (sym e))) ∙
    ap (λ x. if same_text p.0 q then Some p.1 else x) (at_last_first q r ps h.1)

at_moved : (q : List ℕ) (ps : List (List ℕ × Data)) → HasDistinctKeys ps → at_key q (pairs_of (last_first ps)) ≡ at_key q (pairs_of ps)
at_moved q [] h = refl
at_moved q (p ∷ ps) h = at_last_first q p ps h

without_step : (key q : List ℕ) (p : List ℕ × Data) (ps : List (List ℕ × Data)) (same : Bool) → same_text p.0 key ≡ same → LacksKey p.0 ps → HasDistinctKeys ps → at_key q (pairs_of (without_key key ps)) ≡ (if same_text key q then None else at_key q (pairs_of ps)) → at_key q (pairs_of (if same then last_first ps else p ∷ without_key key ps)) ≡ (if same_text key q then None else (if same_text p.0 q then Some p.1 else at_key q (pairs_of ps)))
without_step key q p ps true e l d h =
    at_moved q ps d ∙ gone_first (same_text p.0 q) (same_text key q) (Some p.1) (at_key q (pairs_of ps)) (ap (λ k. same_text k q) (same_texts p.0 key e)) (λ f. none_at_lacking q ps (subst (λ k. LacksKey k ps) (same_texts p.0 q f) l))
without_step key q p ps false e l d h =
    ap (λ r. if same_text p.0 q then Some p.1 else r) h ∙ either_first (same_text p.0 q) (same_text key q) (Some p.1) None (at_key q (pairs_of ps)) (λ f g. not_both p.0 key q e f g)

none_either : (b : Bool) (r : Option Data) → r ≡ None → r ≡ (if b then None else r)
none_either true r e = e
none_either false r e = refl

-- Without a key there is nothing at it, and at each other key is what was there.
pub at_without : (key : List ℕ) (ps : List (List ℕ × Data)) → HasDistinctKeys ps → (q : List ℕ) → at_key q (pairs_of (without_key key ps)) ≡ (if same_text key q then None else at_key q (pairs_of ps))
at_without key [] h q = none_either (same_text key q) None refl
at_without key (p ∷ ps) h q = without_step key q p ps (same_text p.0 key) refl h.0 h.1 (at_without key ps h.1 q)
