-- Each row of a type is at its number, so that each property of a layer is given by the expression of its item.
use Rattle.std.proofs.Common.{◌≡◌, ◌∙◌, ℕ, ◌+◌, suc, List, [], ◌∷◌, ◌++◌, refl, ap, sym, subst, arith, true, false}
use Rattle.std.specs.Prelude.{Bool, flat_map, Option, Some, None, if◌then◌else◌}
use Rattle.std.specs.List.{slice_get}
use Rattle.std.specs.Option.{option_and_then}
use Rattle.decimal_json.specs.Tree.{Tree}
use Rattle.prop_values.specs.Data.{Data}
use Rattle.property_tables.specs.Rows.{RowData, numbered, rows_of, table_of}
use Rattle.property_tables.specs.TableLaws.{TableKeepsRules}
use Rattle.property_tables.specs.declared.layer_type.LayerType.{LayerType}
use Rattle.legacy_laws.specs.LegacyFunctionLaw.{IsTableRow}
use Rattle.layer_buckets.specs.declared.cell.CellItem.TheVariants as items
use Rattle.style_layout.specs.Forms.{Property, property_of, reads_feature}
use Rattle.style_layout.specs.Layers.{is_visibility, property_if, set_property, set_value}
use Rattle.style_layout.proofs.TableRows.{table_row}
use Rattle.asked_cells.specs.Asked.{has_own_cells}
use Rattle.asked_cells.specs.Expressions.{AreGiven, CellExpression, IsGivenBy, LayerExpressions}
use Rattle.cell_sources.specs.CellExpressions.{item_expression, row_expression, value_expression}
use Rattle.cell_sources.specs.CellLaws.{AreReadBy, ExpressionsGiveValues, PropertiesAreGiven, PropertiesAreReadByExpressions, mentions_of}

-- ---- rows by their numbers

abbrev AreAt : (ℕ → Option RowData) → List RowData → Type 0
AreAt at [] = Unit {0}
AreAt at (row ∷ rows) = (at row.number ≡ Some row) × AreAt at rows

numbered_at : (at : ℕ → Option RowData) (n : ℕ) (rows : List RowData) → ((j : ℕ) → at (n + j) ≡ slice_get (numbered n rows) j)
    → AreAt at (numbered n rows)
numbered_at at n [] same = tt
numbered_at at n (row ∷ rows) same = (
  (let first : n ≡ n + 0 = omega arith in ap at first ∙ same 0),
  numbered_at at (n + 1) rows (λ j. (let next : n + 1 + j ≡ n + suc j = omega arith in ap at next ∙ same (suc j))),
)

rows_at : (type : LayerType) → AreAt (slice_get (rows_of type)) (rows_of type)
rows_at type = numbered_at (slice_get (rows_of type)) 0 (table_of type) (λ j. (let same : 0 + j ≡ j = omega arith in ap (slice_get (rows_of type)) same))

-- ---- properties

own_cells : (o : Option CellExpression) → reads_feature (mentions_of o) ≡ has_own_cells o
own_cells (Some e) = refl
own_cells None = refl

module _ (values : ExpressionsGiveValues) (globals : List (List ℕ × Data)) (type : LayerType) (layer : Tree) where
  abbrev expressions : LayerExpressions
  expressions = item_expression globals type layer

  abbrev AreOf : List Property → Type 0
  AreOf ps = AreGiven expressions ps × AreReadBy expressions ps

  row_of_layer : (row : RowData) (rest : List Property) → IsTableRow row → AreOf rest → (b : Bool) (o : Option Tree)
      → expressions (items.Property row.number) ≡ (if b then None else option_and_then (value_expression row globals) o)
      → AreOf ((if b then [] else property_if row globals o) ++ rest)
  row_of_layer row rest table more true o is = more
  row_of_layer row rest table more false None is = more
  row_of_layer row rest table more false (Some t) is =
      let (given, mentioned) = values row globals t table in (
        (subst (IsGivenBy (property_of row globals t)) (sym is) given, more.0),
        (ap reads_feature mentioned ∙ (own_cells (value_expression row globals t) ∙ ap has_own_cells (sym is)), more.1),
      )

  rows_of_layer : TableKeepsRules → (rows : List RowData) → AreAt (slice_get (rows_of type)) rows
      → AreOf (flat_map (set_property globals layer) rows)
  rows_of_layer keeps [] at = (tt, tt)
  rows_of_layer keeps (row ∷ rows) at =
      row_of_layer row (flat_map (set_property globals layer) rows) (table_row keeps type row.number row at.0)
      (rows_of_layer keeps rows at.1) (is_visibility row) (set_value layer row.place row.name)
      (ap (option_and_then (row_expression globals type layer)) at.0)

  properties_of_layer : TableKeepsRules → AreOf (flat_map (set_property globals layer) (rows_of type))
  properties_of_layer keeps = rows_of_layer keeps (rows_of type) (rows_at type)

pub properties_given : ExpressionsGiveValues → TableKeepsRules → PropertiesAreGiven
properties_given values keeps globals type layer = (properties_of_layer values globals type layer keeps).0

pub properties_read : ExpressionsGiveValues → TableKeepsRules → PropertiesAreReadByExpressions
properties_read values keeps globals type layer = (properties_of_layer values globals type layer keeps).1
