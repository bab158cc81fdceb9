-- A property that a layer does not set has no expression, and needs no source.
use Rattle.std.proofs.Common.{◌≡◌, ◌∙◌, ℕ, List, refl, ap, sym, subst, true, false}
use Rattle.std.specs.Prelude.{Bool, Option, Some, None, is_some, if◌then◌else◌}
use Rattle.std.specs.List.{slice_get}
use Rattle.std.specs.Option.{option_and_then}
use Rattle.std.proofs.lemmas.Bool.{true≢false}
use Rattle.decimal_json.specs.Tree.{Tree}
use Rattle.prop_values.specs.Data.{Data}
use Rattle.property_tables.specs.Rows.{RowData, rows_of}
use Rattle.property_tables.specs.declared.layer_type.LayerType.{LayerType}
use Rattle.expr_nodes.specs.Evaluators.{Sized}
use Rattle.layer_buckets.specs.Seen.{evaluator_of, source_of}
use Rattle.layer_buckets.specs.declared.buckets.Buckets.{Buckets}
use Rattle.layer_buckets.specs.declared.cell.CellItem.{CellItem}
use Rattle.layer_buckets.specs.declared.cell.CellItem.TheVariants as items
use Rattle.asked_cells.specs.Expressions.{CellExpression, IsSourced}
use Rattle.style_layout.specs.Layers.{is_visibility, set_value}
use Rattle.cell_sources.specs.CellExpressions.{item_expression, row_expression, value_expression}
use Rattle.cell_sources.specs.Sourced.{SetsItem}

same_of_either : {A : Type 0} (b : Bool) (a : A) → (if b then a else a) ≡ a
same_of_either true a = refl
same_of_either false a = refl

none_where_not_some : {A : Type 0} (found : Option A) → is_some found ≡ false → found ≡ None
none_where_not_some None h = refl
none_where_not_some (Some a) h = absurd (true≢false h)

pub unset_item : (globals : List (List ℕ × Data)) (type : LayerType) (layer : Tree) (number : ℕ) (row : RowData)
    → Some row ≡ slice_get (rows_of type) number → is_some (set_value layer row.place row.name) ≡ false
    → item_expression globals type layer (items.Property number) ≡ None
unset_item globals type layer number row there unset =
    ap (option_and_then (row_expression globals type layer)) (sym there)
    ∙ (ap (λ value. if is_visibility row then None else option_and_then (value_expression row globals) value)
    (none_where_not_some (set_value layer row.place row.name) unset) ∙ same_of_either (is_visibility row) None)

pub needs_no_source : {E : Type 0} (slots : E → List Sized) (layer : ℕ) (item : CellItem) (e : Option CellExpression) (b : Buckets E)
    → e ≡ None → source_of b layer item ≡ None → SetsItem slots layer item e b b
needs_no_source slots layer item e b none bare = record {
  own = subst (λ x. IsSourced (slots (evaluator_of b)) item x (source_of b layer item)) (sym none) bare;
  others = λ other differ. refl;
}
