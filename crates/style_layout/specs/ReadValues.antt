-- A value of a property as it was read. Source: own.
use Rattle.std.specs.Prelude.{◌≡◌, Some}
use Rattle.decimal_json.specs.Tree.{Tree}
use Rattle.property_tables.specs.Rows.{RowData}
use Rattle.legacy_functions.specs.Form.{form}
use Rattle.legacy_functions.specs.Function.{Function}
use Rattle.legacy_laws.specs.LegacyFunctionLaw.{IsTableRow}
use Rattle.style_layout.specs.Forms.{PropertyValue, legacy_function}

-- A function was read on a row of the table of properties.
abbrev pub IsReadFunction : RowData → Function → Type 0
IsReadFunction row f = IsTableRow row × ((t : Tree) × (form row t ≡ Some (Some f)))

abbrev pub IsReadValue : PropertyValue → Type 0
IsReadValue (legacy_function row f) = IsReadFunction row f
IsReadValue _ = Unit {0}
