-- What holds of the table of properties: names of one type differ, layout is before paint, and a default is a
-- literal of its own row.
use Rattle.std.specs.Prelude.{◌≡◌, ◌≢◌, List, All, AllPairs, Option, Some, None, ⊤}
use Rattle.prop_values.specs.Data.{Data}
use Rattle.property_tables.specs.Defaults.{written_default, default_of}
use Rattle.property_tables.specs.Literals.{literal_data}
use Rattle.property_tables.specs.Rows.{RowData, rows_of}
use Rattle.property_tables.specs.declared.layer_type.LayerType.{LayerType}
use Rattle.property_tables.specs.declared.property_row.Place.TheVariants.{Paint}

-- a default is a literal of its row, and its value is the default value of the property
abbrev pub MeetsAs : RowData → Option Data → Type 0
MeetsAs r None = ⊤
MeetsAs r (Some d) = (default_of r ≢ None) × (literal_data r d ≡ default_of r)

abbrev pub MeetsItself : RowData → Type 0
MeetsItself r = MeetsAs r (written_default r.fallback)

pub record KeepsRules (rows : List RowData) : Type 0 where
  pub names : AllPairs (λ a b. a.name ≢ b.name) rows
  pub layout_first : AllPairs (λ a b. a.place ≡ Paint → b.place ≡ Paint) rows
  pub defaults : All MeetsItself rows

abbrev pub TableKeepsRules : Type 0
TableKeepsRules = (t : LayerType) → KeepsRules (rows_of t)
