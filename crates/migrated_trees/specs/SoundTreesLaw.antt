-- A migrated document is JSON where the document is. Source: own.
use Rattle.std.specs.Prelude.{ℕ, ◌≤◌}
use Rattle.decimal_json.specs.Grammar.{Spells}
use Rattle.decimal_json.specs.JsonText.{json_text}
use Rattle.decimal_json.specs.Sound.{IsSound}
use Rattle.decimal_json.specs.Tree.{Tree}
use Rattle.json_tokens.specs.Rules.{Rules}
use Rattle.legacy_filters.specs.Migrated.{migrated_filter}
use Rattle.legacy_laws.specs.LegacyFunctionLaw.{IsTableRow}
use Rattle.property_tables.specs.Rows.{RowData}
use Rattle.style_migrate.specs.Migrated.{migrated, migrated_value}

-- Each value of a row of the table stays sound at its place: inside of the root, its layers, a layer and an
-- object of properties.
abbrev pub MigratedValuesAreSound : Type 0
MigratedValuesAreSound =
    (row : RowData) (t : Tree) (k : ℕ) → IsTableRow row → k ≤ 4 → IsSound k t → IsSound k (migrated_value row t)

-- Each filter stays sound at its place: inside of the root, its layers and a layer.
abbrev pub MigratedFiltersAreSound : Type 0
MigratedFiltersAreSound = (t : Tree) (k : ℕ) → k ≤ 3 → IsSound k t → IsSound k (migrated_filter t)

-- Each document whose text is JSON under every rule stays so when it is migrated: at most 64 arrays and
-- objects are open at one place, each number is one of at most 64 bytes, texts are UTF-8, and no object has a
-- key twice.
abbrev pub MigratedDocumentsAreSound : Type 0
MigratedDocumentsAreSound = (document : Tree) → IsSound 0 document → IsSound 0 (migrated document)

-- What is written of the migrated document is a text of JSON under every rule, and spells the migrated
-- document.
abbrev pub MigratedTextsAreSpelled : Type 0
MigratedTextsAreSpelled =
    (r : Rules) (document : Tree) → IsSound 0 document →
    Spells r (json_text (migrated document)) (migrated document)
