-- Layers that are looked at one by one.
use Rattle.std.proofs.Common.{◌≡◌, ◌∙◌, ℕ, zero, suc, ◌+◌, ◌-◌, ◌<◌, ◌≤◌, List, [], ◌∷◌, ◌++◌, length, get_or, take, drop, refl, ap, sym, subst, arith}
use Rattle.std.proofs.lemmas.List.{append_assoc, drop-map, drop_more, length-drop, length-map}
use Rattle.std.specs.Prelude.{nat_le, nat_lt, Option}
use Rattle.decimal_json.specs.View.{items_view, tree_of}
use Rattle.decimal_json.specs.declared.tree.Json.{Json}
use Rattle.style_rules.specs.Levels.{HasDistinctMembers}
use Rattle.edit_findings.specs.FoundAfter.{Found, AreKeyed, later_found, most_layers, same_found}

pub keyed_next : (js : List Json) (i : ℕ) (j : Json) → i < length js → j ≡ get_or js i j → AreKeyed (items_view (take i js)) →
    HasDistinctMembers (tree_of j) → AreKeyed (items_view (take (i + 1) js))
keyed_next [] i j within is keyed here = absurd (omega (arith, within))
keyed_next (x ∷ xs) zero j within is keyed here = (subst (λ y. HasDistinctMembers (tree_of y)) is here, tt)
keyed_next (x ∷ xs) (suc i) j within is keyed here =
    let next : suc (i + 1) ≡ suc i + 1 = omega arith in
    subst (λ n. AreKeyed (items_view (take n (x ∷ xs)))) next (keyed.0, keyed_next xs i j (omega (arith, within)) is keyed.1 here)

pub keyed_all : (js : List Json) (i : ℕ) → length js ≤ i → AreKeyed (items_view (take i js)) → AreKeyed (items_view js)
keyed_all [] i past keyed = tt
keyed_all (x ∷ xs) zero past keyed = absurd (omega (arith, past))
keyed_all (x ∷ xs) (suc i) past keyed = (keyed.0, keyed_all xs i (omega (arith, past)) keyed.1)

pub later_next : (id : Option (List ℕ)) (number : ℕ) (js : List Json) (i : ℕ) (j : Json) (old new whole : Found) → i < length js → j ≡ get_or js i j →
    new ≡ old ++ same_found id number (tree_of j) → old ++ later_found id number (items_view (drop i js)) ≡ whole →
    new ++ later_found id (number + 1) (items_view (drop (i + 1) js)) ≡ whole
later_next id number js i j old new whole within is pushed before =
    let later = later_found id (number + 1) (items_view (drop (i + 1) js)) in
    ap (λ fs. fs ++ later) pushed
    ∙ (append_assoc old (same_found id number (tree_of j)) later
    ∙ (ap (λ x. old ++ (same_found id number (tree_of x) ++ later)) is
    ∙ (ap (λ rest. old ++ later_found id number (items_view rest)) (sym (drop_more js i j within)) ∙ before)))

lt_le : (n m : ℕ) → nat_lt n m ≡ nat_le (n + 1) m
lt_le n m = grind arith

pub room_is : (js : List Json) → nat_lt (length js) most_layers ≡ nat_le (length (items_view js) + 1) most_layers
room_is js = lt_le (length js) most_layers ∙ ap (λ n. nat_le (n + 1) most_layers) (sym (length-map js tree_of))

whole : (n : ℕ) (js : List Json) → length js ≤ n → take n js ≡ js
whole zero [] within = refl
whole (suc n) [] within = refl
whole zero (j ∷ js) within = absurd (omega (arith, within))
whole (suc n) (j ∷ js) within = ap (λ xs. j ∷ xs) (whole n js (omega (arith, within)))

-- the layers from a place on
pub items_drop : (js : List Json) (n : ℕ) → items_view (take (length js - n) (drop n js)) ≡ drop n (items_view js)
items_drop js n =
    ap items_view (whole (length js - n) (drop n js) (omega (arith, length-drop n js))) ∙ sym (drop-map tree_of n js)
