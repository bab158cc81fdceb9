-- The place of a key among entries, and what is there.
use Rattle.std.proofs.Common.{◌≡◌, ℕ, zero, suc, ◌+◌, ◌<◌, List, [], ◌∷◌, length, get_or, refl, ap, sym, ◌∙◌, arith, Bool, true, false}
use Rattle.std.specs.Prelude.{Option, Some, None, if◌then◌else◌}
use Rattle.std.proofs.lemmas.Bool.{cond-true, cond-false}
use Rattle.std.proofs.lemmas.List.{length-map}
use Rattle.key_index.proofs.Keys.{none_first}
use Rattle.prop_values.specs.Data.{Data, pairs_of}
use Rattle.prop_values.specs.Keys.{LacksKey, HasDistinctKeys, keys}
use Rattle.prop_values.specs.Equality.{same_text, at_key}
use Rattle.key_index.specs.Keys as index
use Rattle.key_index.specs.Keys.{place_from}
use Rattle.prop_values.specs.View.{data_of}
use Rattle.prop_values.specs.ViewParts.{entry_view, entries_view, entry_keys, pairs}
use Rattle.prop_values.specs.declared.value.Entry.{Entry}

-- the keys of entries, as those of what they are seen as
pub keys_seen : (es : List Entry) → keys (entries_view es) ≡ entry_keys es
keys_seen [] = refl
keys_seen (e ∷ es) = ap (λ ks. e.key ∷ ks) (keys_seen es)

pub lacks_entry_key : (key : List ℕ) (es : List Entry) → LacksKey key (entries_view es) → index.LacksKey key (entry_keys es)
lacks_entry_key key [] h = tt
lacks_entry_key key (e ∷ es) h = (h.0, lacks_entry_key key es h.1)

pub distinct_entry_keys : (es : List Entry) → HasDistinctKeys (entries_view es) → index.HasDistinctKeys (entry_keys es)
distinct_entry_keys [] h = tt
distinct_entry_keys (e ∷ es) h = (lacks_entry_key e.key es h.0, distinct_entry_keys es h.1)

-- nothing is at a key with no place
pub place_none : (i : ℕ) (q : List ℕ) (ps : List (List ℕ × Data)) → place_from i q (keys ps) ≡ None → at_key q (pairs_of ps) ≡ None
place_none i q [] e = refl
place_none i q (p ∷ ps) e =
    let parts = none_first i (place_from (i + 1) q (keys ps)) (same_text p.0 q) e in
    cond-false (same_text p.0 q) (Some p.1) (at_key q (pairs_of ps)) parts.0 ∙ place_none (i + 1) q ps parts.1

-- the place of a key, and what is there
pub record StandsAt (i : ℕ) (q : List ℕ) (ps : List (List ℕ × Data)) (k : ℕ) : Type 0 where
  pub offset : ℕ
  pub place : k ≡ i + offset
  pub within : offset < length ps
  pub value : (d : List ℕ × Data) → at_key q (pairs_of ps) ≡ Some (get_or ps offset d).1

stands_step : (i : ℕ) (q : List ℕ) (p : List ℕ × Data) (ps : List (List ℕ × Data)) (k : ℕ) (same : Bool) → same_text p.0 q ≡ same → (if same then Some i else place_from (i + 1) q (keys ps)) ≡ Some k → (place_from (i + 1) q (keys ps) ≡ Some k → StandsAt (i + 1) q ps k) → StandsAt i q (p ∷ ps) k
stands_step i q p ps k true e f go =
    let here : i ≡ k = cc in
    record { offset = 0; place = omega arith; within = omega arith; value = λ d. cond-true (same_text p.0 q) (Some p.1) (at_key q (pairs_of ps)) e }
stands_step i q p ps k false e f go =
    let later = go f in
    record { offset = suc later.offset; place = omega arith; within = omega arith; value = λ d. cond-false (same_text p.0 q) (Some p.1) (at_key q (pairs_of ps)) e ∙ later.value d }

pub stands : (i : ℕ) (q : List ℕ) (ps : List (List ℕ × Data)) (k : ℕ) → place_from i q (keys ps) ≡ Some k → StandsAt i q ps k
stands i q [] k e = absurd (cc)
stands i q (p ∷ ps) k e = stands_step i q p ps k (same_text p.0 q) refl e (λ f. stands (i + 1) q ps k f)

pub read_entry : (es : List Entry) (j : ℕ) (e : Entry) → get_or (entries_view es) j (entry_view e) ≡ entry_view (get_or es j e)
read_entry [] j e = refl
read_entry (x ∷ es) zero e = refl
read_entry (x ∷ es) (suc j) e = read_entry es j e

-- the place of a key is one of an entry
pub found_within : (q : List ℕ) (es : List Entry) (k : ℕ) → place_from 0 q (keys (entries_view es)) ≡ Some k → k < length es
found_within q es k e =
    let found = stands 0 q (entries_view es) k e in
    omega (arith, found.place, found.within, length-map es entry_view)

-- and what is there is the value of that entry
pub found_value : (q : List ℕ) (es : List Entry) (k : ℕ) (e : Entry) → place_from 0 q (keys (entries_view es)) ≡ Some k → e ≡ get_or es k e → at_key q (pairs es) ≡ Some (data_of e.value)
found_value q es k e f p =
    let found = stands 0 q (entries_view es) k f in
    let at_k : found.offset ≡ k = omega (arith, found.place) in
    found.value (entry_view e) ∙ (ap (λ (x : List ℕ × Data). Some x.1) (read_entry es found.offset e) ∙ (ap (λ n. Some (data_of (get_or es n e).value)) at_k ∙ ap (λ (x : Entry). Some (data_of x.value)) (sym p)))
