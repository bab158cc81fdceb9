-- An entry is taken out, whose place the last one takes.
use Rattle.std.proofs.Common.{◌≡◌, ◌≢◌, ℕ, zero, suc, ◌+◌, List, [], ◌∷◌, take, refl, ap, sym, ◌∙◌, subst, arith, Bool, true, false}
use Rattle.std.specs.Prelude.{Some, None, if◌then◌else◌}
use Rattle.std.proofs.lemmas.Bool.{cond-false}
use Rattle.std.proofs.lemmas.List.{take-map}
use Rattle.prop_values.specs.Changes.{without_key}
use Rattle.prop_values.specs.Data.{Data}
use Rattle.prop_values.specs.Keys.{LacksKey, HasDistinctKeys, keys}
use Rattle.prop_values.specs.Equality.{same_text}
use Rattle.key_index.specs.Keys.{place_from, last_of, but_last, last_first, taken_out}
use Rattle.key_index.proofs.Keys.{none_first, not_below}
use Rattle.prop_values.specs.ViewParts.{entry_view, entries_view}
use Rattle.prop_values.specs.declared.value.Entry.{Entry}
use Rattle.prop_values.proofs.Keys.{distinct-take}

taken_step : (i : ℕ) (q : List ℕ) (p : List ℕ × Data) (ps : List (List ℕ × Data)) (same : Bool) → (j : ℕ) → (if same then Some i else place_from (i + 1) q (keys ps)) ≡ Some (i + j) → ((k : ℕ) → j ≡ suc k → place_from (i + 1) q (keys ps) ≡ Some (i + 1 + k) → taken_out k ps ≡ without_key q ps) → taken_out j (p ∷ ps) ≡ (if same then last_first ps else p ∷ without_key q ps)
taken_step i q p ps true zero f go = refl
taken_step i q p ps true (suc j) f go = absurd (let n : i ≡ i + suc j = cc in omega arith)
taken_step i q p ps false zero f go = absurd (not_below (i + 1) i q (keys ps) (omega arith) (f ∙ ap Some (omega arith)))
taken_step i q p ps false (suc j) f go = ap (λ xs. p ∷ xs) (go j refl (f ∙ ap Some (omega arith)))

-- Where the entry of a key goes, its key goes.
pub taken_key : (i : ℕ) (q : List ℕ) (ps : List (List ℕ × Data)) (j : ℕ) → place_from i q (keys ps) ≡ Some (i + j) → taken_out j ps ≡ without_key q ps
taken_key i q [] j p = absurd (cc)
taken_key i q (p ∷ ps) j e = taken_step i q p ps (same_text p.0 q) j e (λ k g f. taken_key (i + 1) q ps k f)

-- Where no entry has the key, nothing goes.
pub without_none : (i : ℕ) (q : List ℕ) (ps : List (List ℕ × Data)) → place_from i q (keys ps) ≡ None → without_key q ps ≡ ps
without_none i q [] e = refl
without_none i q (p ∷ ps) e =
    let parts = none_first i (place_from (i + 1) q (keys ps)) (same_text p.0 q) e in
    cond-false (same_text p.0 q) (last_first ps) (p ∷ without_key q ps) parts.0 ∙ ap (λ xs. p ∷ xs) (without_none (i + 1) q ps parts.1)

lacks_last : (key : List ℕ) (p : List ℕ × Data) (ps : List (List ℕ × Data)) → LacksKey key (p ∷ ps) → (last_of p ps).0 ≢ key
lacks_last key p [] h = h.0
lacks_last key p (r ∷ ps) h = lacks_last key r ps h.1

lacks_but_last : (key : List ℕ) (p : List ℕ × Data) (ps : List (List ℕ × Data)) → LacksKey key (p ∷ ps) → LacksKey key (but_last p ps)
lacks_but_last key p [] h = tt
lacks_but_last key p (r ∷ ps) h = (h.0, lacks_but_last key r ps h.1)

lacks_last_first : (key : List ℕ) (ps : List (List ℕ × Data)) → LacksKey key ps → LacksKey key (last_first ps)
lacks_last_first key [] h = tt
lacks_last_first key (p ∷ ps) h = (lacks_last key p ps h, lacks_but_last key p ps h)

lacks_without : (key q : List ℕ) (ps : List (List ℕ × Data)) → LacksKey key ps → LacksKey key (without_key q ps)
lacks_without key q [] h = tt
lacks_without key q (p ∷ ps) h = elim (same_text p.0 q) as (λ (same : Bool). LacksKey key (if same then last_first ps else p ∷ without_key q ps)) [ true ↦ lacks_last_first key ps h.1 | false ↦ (h.0, lacks_without key q ps h.1) ]

last_is_new : (p : List ℕ × Data) (ps : List (List ℕ × Data)) → HasDistinctKeys (p ∷ ps) → LacksKey (last_of p ps).0 (but_last p ps)
last_is_new p [] h = tt
last_is_new p (r ∷ ps) h = (λ e. lacks_last p.0 r ps h.0 (sym e), last_is_new r ps h.1)

distinct_but_last : (p : List ℕ × Data) (ps : List (List ℕ × Data)) → HasDistinctKeys (p ∷ ps) → HasDistinctKeys (but_last p ps)
distinct_but_last p [] h = tt
distinct_but_last p (r ∷ ps) h = (lacks_but_last p.0 r ps h.0, distinct_but_last r ps h.1)

distinct_last_first : (ps : List (List ℕ × Data)) → HasDistinctKeys ps → HasDistinctKeys (last_first ps)
distinct_last_first [] h = tt
distinct_last_first (p ∷ ps) h = (last_is_new p ps h, distinct_but_last p ps h)

-- The keys that are left differ.
pub distinct_without : (q : List ℕ) (ps : List (List ℕ × Data)) → HasDistinctKeys ps → HasDistinctKeys (without_key q ps)
distinct_without q [] h = tt
distinct_without q (p ∷ ps) h = elim (same_text p.0 q) as (λ (same : Bool). HasDistinctKeys (if same then last_first ps else p ∷ without_key q ps)) [ true ↦ distinct_last_first ps h.1 | false ↦ (lacks_without p.0 q ps h.0, distinct_without q ps h.1) ]

-- The keys of the first entries differ.
pub distinct_front : (i : ℕ) (es : List Entry) → HasDistinctKeys (entries_view es) → HasDistinctKeys (entries_view (take i es))
distinct_front i es h = subst HasDistinctKeys (take-map entry_view i es) (distinct-take i (entries_view es) h)

-- two keys that differ are asked for in either order
pub last_differs : (p : List ℕ × Data) (r : List ℕ × Data) (ps : List (List ℕ × Data)) → HasDistinctKeys (p ∷ r ∷ ps) → p.0 ≢ (last_of r ps).0
last_differs p r ps h = λ e. lacks_last p.0 r ps h.0 (sym e)
