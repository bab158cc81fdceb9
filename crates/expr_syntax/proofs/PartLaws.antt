-- The elements of a node by their number.
use Rattle.std.proofs.Common.{◌≡◌, ◌≤◌, ◌-◌, take, drop, ap, List, [], ◌∷◌, refl, length, get_or, arith}
use Rattle.std.proofs.lemmas.List.{take_all}
use Rattle.std.specs.Prelude.{None, Ok}
use Rattle.decimal_json.specs.View.{tree_of, trees}
use Rattle.decimal_json.specs.declared.tree.Json.{Json}
use Rattle.expr_syntax.specs.declared.expression.Operator.TheVariants as operators
use Rattle.expr_syntax.specs.Elements.{after_head, second}
use Rattle.expr_syntax.specs.Parts.{array_operator, with_item, with_length, item_of, length_of, curve_from}

pub after_first : (js : List Json) → 1 ≤ length js → trees (take (length js - 1) (drop 1 js)) ≡ after_head (trees js)
after_first [] h = absurd (omega arith)
after_first (j ∷ js) h = ap trees (take_all (length (j ∷ js) - 1) js (omega arith))

pub second_of_one : (js : List Json) → length js ≡ 1 → second (trees js) ≡ None
second_of_one [] h = absurd (omega arith)
second_of_one (j ∷ []) h = refl
second_of_one (j ∷ k ∷ js) h = absurd (omega arith)

pub curve_from_many : (js : List Json) → 3 ≤ length js → curve_from (trees js) ≡ None
curve_from_many [] h = absurd (omega arith)
curve_from_many (j ∷ []) h = absurd (omega arith)
curve_from_many (j ∷ k ∷ []) h = absurd (omega arith)
curve_from_many (j ∷ k ∷ l ∷ js) h = refl

pub array_of_one : (js : List Json) → length js ≡ 1 → array_operator (trees js) ≡ Ok (operators.Array None None)
array_of_one [] h = absurd (omega arith)
array_of_one (j ∷ []) h = refl
array_of_one (j ∷ k ∷ js) h = absurd (omega arith)

pub array_of_two : (js : List Json) (item : Json) → item ≡ get_or js 0 item → length js ≡ 2 → array_operator (trees js) ≡ with_item (item_of (tree_of item))
array_of_two [] item p h = absurd (omega arith)
array_of_two (j ∷ []) item p h = absurd (omega arith)
array_of_two (j ∷ k ∷ []) item p h = rw p refl
array_of_two (j ∷ k ∷ l ∷ js) item p h = absurd (omega arith)

pub array_of_more : (js : List Json) (item count : Json) → item ≡ get_or js 0 item → count ≡ get_or js 1 count → 3 ≤ length js → array_operator (trees js) ≡ with_length (item_of (tree_of item)) (length_of (tree_of count))
array_of_more [] item count p q h = absurd (omega arith)
array_of_more (j ∷ []) item count p q h = absurd (omega arith)
array_of_more (j ∷ k ∷ []) item count p q h = absurd (omega arith)
array_of_more (j ∷ k ∷ l ∷ js) item count p q h = rw (p, q) refl

pub ruleset array_rules = (array_of_one, array_of_two, array_of_more)
