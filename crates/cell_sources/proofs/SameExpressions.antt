-- Values of the global state change no expression but one that was read by them.
use Rattle.std.proofs.Common.{◌≡◌, ◌∙◌, ℕ, List, refl, ap, sym, Bool, true, false}
use Rattle.std.specs.Prelude.{codes, Option, Some, None, option_map, Ok, Err, if◌then◌else◌}
use Rattle.std.specs.List.{slice_get}
use Rattle.std.specs.Option.{option_and_then}
use Rattle.decimal_json.specs.Tree.{Tree}
use Rattle.decimal_json.specs.Accessors.{member}
use Rattle.prop_values.specs.Data.{Data}
use Rattle.property_tables.specs.Rows.{RowData, rows_of}
use Rattle.property_tables.specs.declared.layer_type.LayerType.{LayerType}
use Rattle.expr_syntax.specs.Reading.{Reading, reading_with}
use Rattle.expr_syntax.specs.ReadView.{uses_globals}
use Rattle.expr_syntax.specs.Term.{Term}
use Rattle.layer_buckets.specs.declared.cell.CellItem.TheVariants as items
use Rattle.style_layout.specs.Layers.{has_features, is_visibility, set_value}
use Rattle.global_laws.specs.GlobalLaw.{GlobalValuesChangeNoForm, IsReadAlike}
use Rattle.asked_cells.specs.Expressions.{CellExpression}
use Rattle.cell_sources.specs.CellExpressions.{expression_of_filter, expression_of_value, filter_expression, filter_tree, read_as_filter, read_as_value, row_expression, term_read, value_expression, value_tree}
use Rattle.cell_sources.specs.CellLaws.{DifferByGlobals, GlobalsChangeNoOther}
use Rattle.cell_sources.proofs.ReadWithoutGlobals.{read_without_globals}

neither : DifferByGlobals None None
neither = record { reads = refl; same = λ none. refl }

either : (b : Bool) (new old : Option CellExpression) → DifferByGlobals new old
    → DifferByGlobals (if b then new else None) (if b then old else None)
either true new old differ = differ
either false new old differ = neither

unless : (b : Bool) (new old : Option CellExpression) → DifferByGlobals new old
    → DifferByGlobals (if b then None else new) (if b then None else old)
unless true new old differ = neither
unless false new old differ = differ

of_found : {A : Type 0} (new old : A → Option CellExpression) → ((a : A) → DifferByGlobals (new a) (old a)) → (o : Option A)
    → DifferByGlobals (option_and_then new o) (option_and_then old o)
of_found new old differ (Some a) = differ a
of_found new old differ None = neither

-- an expression that says whether it was read by the values of the global state
abbrev SaysItsGlobals : (Bool → Term → CellExpression) → Type 0
SaysItsGlobals make = (b : Bool) (e : Term) → (make b e).globals ≡ b

readings_differ : (make : Bool → Term → CellExpression) → SaysItsGlobals make → (b : Bool) (r s : Reading) → IsReadAlike r s
    → (b ≡ false → r ≡ s) → DifferByGlobals (option_map (make b) (term_read r)) (option_map (make b) (term_read s))
readings_differ make says b (Ok (Some e)) (Ok (Some f)) alike same = record {
  reads = says b e ∙ sym (says b f);
  same = λ none. ap (λ r. option_map (make b) (term_read r)) (same (sym (says b f) ∙ none));
}
readings_differ make says b (Ok None) (Ok None) alike same = neither
readings_differ make says b (Err x) (Err y) alike same = neither
readings_differ make says b (Ok (Some e)) (Ok None) alike same = absurd alike
readings_differ make says b (Ok None) (Ok (Some f)) alike same = absurd alike
readings_differ make says b (Ok (Some e)) (Err y) alike same = absurd alike
readings_differ make says b (Ok None) (Err y) alike same = absurd alike
readings_differ make says b (Err x) (Ok (Some f)) alike same = absurd alike
readings_differ make says b (Err x) (Ok None) alike same = absurd alike

module _ (law : GlobalValuesChangeNoForm) (new old : List (List ℕ × Data)) where
  trees_differ : (make : Bool → Term → CellExpression) → SaysItsGlobals make → (t : Tree)
      → DifferByGlobals (option_map (make (uses_globals t)) (term_read (reading_with t new))) (option_map (make (uses_globals t)) (term_read (reading_with t old)))
  trees_differ make says t =
      readings_differ make says (uses_globals t) (reading_with t new) (reading_with t old) (law t new old) (read_without_globals t new old)

  values_differ : (row : RowData) (o : Option Tree) → DifferByGlobals (read_as_value row new o) (read_as_value row old o)
  values_differ row (Some t) = trees_differ (expression_of_value row) (λ b e. refl) t
  values_differ row None = neither

  filters_differ : (o : Option Tree) → DifferByGlobals (read_as_filter new o) (read_as_filter old o)
  filters_differ (Some t) = trees_differ expression_of_filter (λ b e. refl) t
  filters_differ None = neither

  module _ (type : LayerType) (layer : Tree) where
    rows_differ : (row : RowData) → DifferByGlobals (row_expression new type layer row) (row_expression old type layer row)
    rows_differ row =
        let set = set_value layer row.place row.name in
        unless (is_visibility row) (option_and_then (value_expression row new) set) (option_and_then (value_expression row old) set)
        (of_found (value_expression row new) (value_expression row old) (λ t. values_differ row (value_tree row t)) set)

pub globals_change : GlobalValuesChangeNoForm → GlobalsChangeNoOther
globals_change law new old type layer items.Filter =
    let set = member (codes "filter") layer in
    either (has_features type) (option_and_then (filter_expression new) set) (option_and_then (filter_expression old) set)
    (of_found (filter_expression new) (filter_expression old) (λ t. filters_differ law new old (filter_tree t)) set)
globals_change law new old type layer (items.Property n) =
    of_found (row_expression new type layer) (row_expression old type layer) (rows_differ law new old type layer) (slice_get (rows_of type) n)
