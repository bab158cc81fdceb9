-- Cells that are asked.
use Rattle.std.proofs.Common.{◌≡◌, ℕ, List, [], ◌∷◌, ◌++◌, Bool, true, false, ◌||◌, nat_eq, Option, Some, None, refl, ap, arith}
use Rattle.std.proofs.lemmas.Bool.Decides.{nat_tests}
use Rattle.layer_buckets.specs.Cells.{feature_eq, item_eq}
use Rattle.layer_buckets.specs.declared.cell.CellItem.{CellItem}
use Rattle.layer_buckets.proofs.ItemLaws.{item_self}
use Rattle.layer_buckets.proofs.Places.{both}
use Rattle.style_layout.specs.Forms.{Scene}
use Rattle.style_layout.specs.Shown.{LayerFeature}
use Rattle.asked_cells.specs.Asked.{AskedCell, LayerCell, asked_by, feature_number, layer_cell_eq}
use Rattle.asked_cells.specs.Counted.{is_asked}
use Rattle.asked_cells.specs.Expressions.{CellExpression}

or_true : (a b : Bool) → b ≡ true → a || b ≡ true
or_true true b h = refl
or_true false b h = h

or_so : (a b d : Bool) → (b ≡ true → d ≡ true) → a || b ≡ true → a || d ≡ true
or_so true b d so h = refl
or_so false b d so h = so h

pub asked_first : (xs ys : List AskedCell) (c : LayerCell) → is_asked xs c ≡ true → is_asked (xs ++ ys) c ≡ true
asked_first [] ys c h = cc
asked_first (x ∷ xs) ys c h = or_so (layer_cell_eq x.cell c) (is_asked xs c) (is_asked (xs ++ ys) c) (asked_first xs ys c) h

pub asked_then : (xs ys : List AskedCell) (c : LayerCell) → is_asked ys c ≡ true → is_asked (xs ++ ys) c ≡ true
asked_then [] ys c h = h
asked_then (x ∷ xs) ys c h = or_true (layer_cell_eq x.cell c) (is_asked (xs ++ ys) c) (asked_then xs ys c h)

nat_self : (a : ℕ) → nat_eq a a ≡ true
nat_self a = grind (arith, nat_tests)

feature_self : (o : Option ℕ) → feature_eq o o ≡ true
feature_self None = refl
feature_self (Some a) = nat_self a

cell_self : (c : LayerCell) → layer_cell_eq c c ≡ true
cell_self c = both (item_eq c.item c.item) (feature_eq c.feature c.feature) (item_self c.item) (feature_self c.feature)

-- the cell of an item with an expression is asked
pub own_asked : (scene : Scene) (e : CellExpression) (feature : Option LayerFeature) (item : CellItem)
    → is_asked (asked_by scene (Some e) feature item) (record { feature = feature_number feature; item = item }) ≡ true
own_asked scene e feature item =
    ap (λ b. b || false) (cell_self (record { feature = feature_number feature; item = item }))
