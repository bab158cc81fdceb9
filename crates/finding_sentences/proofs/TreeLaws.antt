-- Items and elements of a tree as the code finds them.
use Rattle.std.specs.Prelude.{◌≡◌, ℕ, zero, suc, ◌<◌, ◌≤◌, List, [], ◌∷◌, length, Option, Some, None, HoldsAt, MatchOption, slice_index_or}
use Rattle.std.specs.Borrow.{Bor}
use Rattle.std.proofs.Common.{refl, sym, ap, arith}
use Rattle.decimal_json.specs.Falls.{item_weight}
use Rattle.decimal_json.specs.View.{tree_at, tree_of, trees}
use Rattle.decimal_json.specs.declared.tree.Json.{Json}
use Rattle.expr_syntax.specs.Elements.{second}
use Rattle.style_parts.specs.Parts.{layer_at}
use Rattle.style_rules.specs.Rules.{count_of}

pub counts_items : (js : List Json) → count_of (trees js) ≡ length js
counts_items [] = refl
counts_items (j ∷ js) = ap suc (counts_items js)

item_there : (js : List Json) (i : ℕ) (j : Json) → i < length js → j ≡ slice_index_or js i j → layer_at i (trees js) ≡ Some (tree_of j)
item_there [] i j h e = absurd (omega (arith, h))
item_there (x ∷ js) zero j h e = ap (λ (y : Json). Some (tree_of y)) (sym e)
item_there (x ∷ js) (suc i) j h e = item_there js i j (omega (arith, h)) e

item_missing : (js : List Json) (i : ℕ) → length js ≤ i → layer_at i (trees js) ≡ None
item_missing [] i h = refl
item_missing (x ∷ js) zero h = absurd (omega (arith, h))
item_missing (x ∷ js) (suc i) h = item_missing js i (omega (arith, h))

-- what is borrowed of a slice at a place
pub item_lent : (js : List Json) (i : ℕ) (r : Option (Bor Json))
    → MatchOption r (length js ≤ i) (λ (x : Bor Json). (i < length js) × HoldsAt (λ (y : Json). x.now ≡ y) js i)
    → tree_at r ≡ layer_at i (trees js)
item_lent js i None h = sym (item_missing js i h)
item_lent js i (Some x) h = sym (item_there js i x.now h.0 (h.1 x.now))

pub none_after_one : (js : List Json) → length js ≡ 1 → second (trees js) ≡ None
none_after_one [] h = absurd (omega (arith, h))
none_after_one (j ∷ []) h = refl
none_after_one (j ∷ k ∷ js) h = absurd (omega (arith, h))

-- what a search through the items of a tree wants
pub ruleset search_rules = (item_weight, counts_items)
