-- A migrated value and a migrated filter read the global state where the value and the filter do. Source: own.
use Rattle.std.specs.Prelude.{◌≡◌, Bool, false, if◌then◌else◌}
use Rattle.decimal_json.specs.Tree.{Tree}
use Rattle.property_tables.specs.Rows.{RowData}
use Rattle.expr_syntax.specs.ReadView.{uses_globals}
use Rattle.legacy_filters.specs.Migrated.{migrated_filter}
use Rattle.legacy_filters.specs.Split.{is_legacy}
use Rattle.legacy_laws.specs.LegacyFunctionLaw.{IsTableRow}
use Rattle.style_migrate.specs.Migrated.{migrated_value}

-- Each tree, well formed or not, has on each row of the table a `global-state` node where it had one.
abbrev pub MigratedValuesUseTheSameGlobals : Type 0
MigratedValuesUseTheSameGlobals =
    (row : RowData) (t : Tree) → IsTableRow row → uses_globals (migrated_value row t) ≡ uses_globals t

-- a legacy filter reads no global state
abbrev pub filter_uses_globals : Tree → Bool
filter_uses_globals t = if is_legacy t then false else uses_globals t

-- Each tree, well formed or not, reads the global state as a filter where it read it.
abbrev pub MigratedFiltersUseTheSameGlobals : Type 0
MigratedFiltersUseTheSameGlobals = (t : Tree) → filter_uses_globals (migrated_filter t) ≡ filter_uses_globals t
