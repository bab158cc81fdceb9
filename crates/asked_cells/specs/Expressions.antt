-- The expressions by which the items of a layer are evaluated, and their sources. Source: own.
use Rattle.std.specs.Prelude.{◌≡◌, ℕ, List, [], ◌∷◌, Bool, true, false, Option, Some, None}
use Rattle.std.specs.List.{slice_get}
use Rattle.prop_values.specs.declared.kinds.Want.{Want}
use Rattle.property_tables.specs.declared.property_row.Place.{Place}
use Rattle.property_tables.specs.declared.property_row.Place.TheVariants.{Layout, Paint}
use Rattle.expr_syntax.specs.Mentioned.{mentions}
use Rattle.expr_syntax.specs.Term.{Term}
use Rattle.eval_face.specs.Meaning.{mean}
use Rattle.eval_face.specs.World.{World}
use Rattle.eval_face.specs.Resolved.{resolved}
use Rattle.expr_nodes.specs.Evaluators.{Sized, sized_term}
use Rattle.layer_buckets.specs.Seen.{evaluator_of, source_of}
use Rattle.layer_buckets.specs.declared.buckets.Buckets.{Buckets}
use Rattle.layer_buckets.specs.declared.cell.CellItem.{CellItem}
use Rattle.layer_buckets.specs.declared.cell.CellItem.TheVariants as items
use Rattle.layer_buckets.specs.declared.cell.Source.{Source}
use Rattle.style_layout.specs.Forms.{Property, PropertyValue, literal, outside, outcome_of}

-- An expression under a want. It sees the zoom as a paint value does or its floor, and it was read by the values
-- of the global state or needs none.
pub record CellExpression : Type 0 where
  pub term : Term
  pub want : Want
  pub paint : Bool
  pub globals : Bool

-- The expression of each item of a layer. An item without one has no cells.
abbrev pub LayerExpressions : Type 0
LayerExpressions = CellItem → Option CellExpression

-- ---- what a value is by its expression

abbrev pub is_paint : Place → Bool
is_paint Paint = true
is_paint Layout = false

abbrev pub is_fixed : PropertyValue → Bool
is_fixed (literal d) = true
is_fixed outside = true
is_fixed _ = false

-- What is listed for a property is what its expression gives: its value, or after a fault the default. A property
-- without an expression is a literal, or is not evaluated.
abbrev pub IsGivenBy : Property → Option CellExpression → Type 0
IsGivenBy p None = is_fixed p.value ≡ true
IsGivenBy p (Some e) = (e.paint ≡ is_paint p.row.place)
    × ((world : World) → outcome_of p world ≡ resolved p.fallback (mean e.term e.want [] world))

-- So it is with each property of a layer.
abbrev pub AreGiven : LayerExpressions → List Property → Type 0
AreGiven expressions [] = Unit {0}
AreGiven expressions (p ∷ ps) = IsGivenBy p (expressions (items.Property p.row.number)) × AreGiven expressions ps

-- ---- sources

-- the source of an item with an expression, whose number in the evaluator is `slot`
abbrev pub source_with : ℕ → CellItem → CellExpression → Source
source_with slot item e = record {
  item = item;
  slot = slot;
  mentions = mentions e.term;
  paint = e.paint;
  globals = e.globals;
}

-- An item has a source where it has an expression, and the evaluator has that expression in the source's slot.
abbrev pub IsSourced : List Sized → CellItem → Option CellExpression → Option Source → Type 0
IsSourced slots item None source = source ≡ None
IsSourced slots item (Some e) source =
    (slot : ℕ) × (source ≡ Some (source_with slot item e)) × (slice_get slots slot ≡ Some (sized_term e.term e.want))

-- Each item of a layer has the source of its expression.
abbrev pub HasExpressions : {E : Type 0} → (E → List Sized) → ℕ → LayerExpressions → Buckets E → Type 0
HasExpressions slots number expressions b =
    (item : CellItem) → IsSourced (slots (evaluator_of b)) item (expressions item) (source_of b number item)
