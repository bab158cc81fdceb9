-- The value at a key is replaced: the keys stay.
use Rattle.std.proofs.Common.{◌≡◌, ℕ, zero, suc, ◌+◌, List, [], ◌∷◌, get_or, set, refl, ap, ◌∙◌, subst, arith, Bool, true, false}
use Rattle.std.specs.Prelude.{Some, None, if◌then◌else◌}
use Rattle.std.proofs.lemmas.Bool.{cond-false}
use Rattle.prop_values.specs.Data.{Data}
use Rattle.prop_values.specs.Keys.{LacksKey, HasDistinctKeys, keys}
use Rattle.prop_values.specs.Equality.{same_text}
use Rattle.prop_values.specs.MergeSteps.{replaced}
use Rattle.key_index.specs.Keys.{place_from}
use Rattle.key_index.proofs.Keys.{none_first, not_below}
use Rattle.prop_values.specs.View.{data_of}
use Rattle.prop_values.specs.ViewParts.{entry_view, entries_view}
use Rattle.prop_values.specs.declared.value.Entry.{Entry}
use Rattle.prop_values.specs.declared.value.Value.{Value}

-- the entry at a place with another value
abbrev pub revalued : List Entry → ℕ → Value → Entry → List Entry
revalued es j v d = set es j (record (get_or es j d) { value = v })

replace_step : (i : ℕ) (q : List ℕ) (v : Value) (d e : Entry) (es : List Entry) (same : Bool) → same_text e.key q ≡ same → (j : ℕ) → (if same then Some i else place_from (i + 1) q (keys (entries_view es))) ≡ Some (i + j) → ((k : ℕ) → j ≡ suc k → place_from (i + 1) q (keys (entries_view es)) ≡ Some (i + 1 + k) → entries_view (revalued es k v d) ≡ replaced q (data_of v) (entries_view es)) → entries_view (revalued (e ∷ es) j v d) ≡ (if same then (e.key, data_of v) ∷ entries_view es else entry_view e ∷ replaced q (data_of v) (entries_view es))
replace_step i q v d e es true f zero p go = refl
replace_step i q v d e es true f (suc j) p go = absurd (let n : i ≡ i + suc j = cc in omega arith)
replace_step i q v d e es false f zero p go = absurd (not_below (i + 1) i q (keys (entries_view es)) (omega arith) (p ∙ ap Some (omega arith)))
replace_step i q v d e es false f (suc j) p go = ap (λ ps. entry_view e ∷ ps) (go j refl (p ∙ ap Some (omega arith)))

-- Where a key is at a place, a new value there is the new data at the key.
pub view_replaced : (i : ℕ) (q : List ℕ) (es : List Entry) (v : Value) (d : Entry) (j : ℕ) → place_from i q (keys (entries_view es)) ≡ Some (i + j) → entries_view (revalued es j v d) ≡ replaced q (data_of v) (entries_view es)
view_replaced i q [] v d j p = absurd (cc)
view_replaced i q (e ∷ es) v d j p = replace_step i q v d e es (same_text e.key q) refl j p (λ k g f. view_replaced (i + 1) q es v d k f)

-- Where the key is not there, nothing is replaced.
pub replaced_none : (i : ℕ) (q : List ℕ) (d : Data) (ps : List (List ℕ × Data)) → place_from i q (keys ps) ≡ None → replaced q d ps ≡ ps
replaced_none i q d [] e = refl
replaced_none i q d (p ∷ ps) e =
    let parts = none_first i (place_from (i + 1) q (keys ps)) (same_text p.0 q) e in
    cond-false (same_text p.0 q) ((p.0, d) ∷ ps) (p ∷ replaced q d ps) parts.0 ∙ ap (λ xs. p ∷ xs) (replaced_none (i + 1) q d ps parts.1)

pub keys_replaced : (q : List ℕ) (d : Data) (ps : List (List ℕ × Data)) → keys (replaced q d ps) ≡ keys ps
keys_replaced q d [] = refl
keys_replaced q d (p ∷ ps) = elim (same_text p.0 q) as (λ (same : Bool). keys (if same then (p.0, d) ∷ ps else p ∷ replaced q d ps) ≡ p.0 ∷ keys ps) [ true ↦ refl | false ↦ ap (λ ks. p.0 ∷ ks) (keys_replaced q d ps) ]

-- What is said of keys alone holds of all entries that have them.
lacks_same : (key : List ℕ) (ps rs : List (List ℕ × Data)) → keys ps ≡ keys rs → LacksKey key ps → LacksKey key rs
lacks_same key ps [] e h = tt
lacks_same key [] (r ∷ rs) e h = absurd (cc)
lacks_same key (p ∷ ps) (r ∷ rs) e h = let first : p.0 ≡ r.0 = cc in (λ q. h.0 (first ∙ q), lacks_same key ps rs (cc) h.1)

pub distinct_same : (ps rs : List (List ℕ × Data)) → keys ps ≡ keys rs → HasDistinctKeys ps → HasDistinctKeys rs
distinct_same ps [] e h = tt
distinct_same [] (r ∷ rs) e h = absurd (cc)
distinct_same (p ∷ ps) (r ∷ rs) e h = let first : p.0 ≡ r.0 = cc in (subst (λ key. LacksKey key rs) first (lacks_same p.0 ps rs (cc) h.0), distinct_same ps rs (cc) h.1)
