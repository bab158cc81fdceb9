-- The numbers of the rows of a layer's properties rise.
use Rattle.std.proofs.Common.{ℕ, ◌+◌, ◌≤◌, List, [], ◌∷◌, ◌++◌, Bool, true, false, Option, Some, None, arith, if◌then◌else◌}
use Rattle.std.specs.Prelude.{flat_map}
use Rattle.decimal_json.specs.Tree.{Tree}
use Rattle.prop_values.specs.Data.{Data}
use Rattle.property_tables.specs.Rows.{RowData, numbered, table_of}
use Rattle.property_tables.specs.declared.layer_type.LayerType.{LayerType}
use Rattle.style_layout.specs.Forms.{Property}
use Rattle.style_layout.specs.Layers.{is_visibility, properties_of, property_if, set_property, set_value}

-- each is this number at least, and above those before it
abbrev pub RiseFrom : ℕ → List Property → Type 0
RiseFrom n [] = Unit {0}
RiseFrom n (p ∷ ps) = (n ≤ p.row.number) × RiseFrom (p.row.number + 1) ps

rise_from_less : (n m : ℕ) (ps : List Property) → m ≤ n → RiseFrom n ps → RiseFrom m ps
rise_from_less n m [] less h = tt
rise_from_less n m (p ∷ ps) less h = (omega (arith, less, h.0), h.1)

module _ (globals : List (List ℕ × Data)) where
  -- a row gives a property or none
  row_before : (row : RowData) (unset : Bool) (value : Option Tree) (ps : List Property) → RiseFrom (row.number + 1) ps
      → RiseFrom row.number ((if unset then [] else property_if row globals value) ++ ps)
  row_before row true value ps h = rise_from_less (row.number + 1) row.number ps (omega arith) h
  row_before row false None ps h = rise_from_less (row.number + 1) row.number ps (omega arith) h
  row_before row false (Some t) ps h = (omega arith, h)

  rows_rise : (layer : Tree) (n : ℕ) (rs : List RowData) → RiseFrom n (flat_map (set_property globals layer) (numbered n rs))
  rows_rise layer n [] = tt
  rows_rise layer n (r ∷ rs) =
      let row : RowData = record r { number = n } in
      row_before row (is_visibility row) (set_value layer row.place row.name)
      (flat_map (set_property globals layer) (numbered (n + 1) rs)) (rows_rise layer (n + 1) rs)

  pub properties_rise : (type : LayerType) (layer : Tree) → RiseFrom 0 (properties_of globals type layer)
  properties_rise type layer = rows_rise layer 0 (table_of type)
