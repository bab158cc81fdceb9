-- A migrated document says what the document said, and stays when it is migrated again. Source: own.
use Rattle.std.specs.Prelude.{◌≡◌, ℕ, List, Some}
use Rattle.decimal_json.specs.Tree.{Tree}
use Rattle.prop_values.specs.Data.{Data}
use Rattle.property_tables.specs.Rows.{RowData}
use Rattle.expr_syntax.specs.Mentioned.{nothing, mentions}
use Rattle.expr_syntax.specs.Reading.{reading_with}
use Rattle.expr_syntax.specs.declared.world_parts.Mentions.{Mentions}
use Rattle.eval_face.specs.World.{World}
use Rattle.legacy_filters.specs.Migrated.{migrated_filter}
use Rattle.legacy_filters.specs.ToExpression.{expression}
use Rattle.legacy_laws.specs.LegacyFunctionLaw.{IsTableRow}
use Rattle.style_migrate.specs.Migrated.{migrated, migrated_value}
use Rattle.style_layout.specs.Forms.{Scene, Property, property_of, outcome_of, property_value, value_mentions}
use Rattle.style_layout.specs.Forms.{LayerFilter, condition, legacy_filter, layer_filter, is_outside, lets_pass}
use Rattle.style_layout.specs.Forms.{expression_value, expression_mentions}
use Rattle.style_layout.specs.Globals.{globals_of}
use Rattle.style_layout.specs.Shown.{SourceTile}
use Rattle.style_layout.specs.StyleLayout.{layout_of}

-- Migrating a document again changes nothing, also one that has findings.
abbrev pub MigratingTwiceChangesNothing : Type 0
MigratingTwiceChangesNothing = (document : Tree) → migrated (migrated document) ≡ migrated document

-- ---- values

-- In every world, that is at every zoom, of every feature and state, and whatever the two tests are, two properties
-- are listed alike: as the same value, as the same fault with the same value for it, or as outside.
abbrev pub HasTheSameOutcome : Property → Property → Type 0
HasTheSameOutcome p q = (world : World) → outcome_of p world ≡ outcome_of q world

-- Two trees have the same value on a row: they are listed alike, and read the same of the world.
pub record HasTheSameValue (row : RowData) (globals : List (List ℕ × Data)) (new old : Tree) : Type 0 where
  pub outcome : HasTheSameOutcome (property_of row globals new) (property_of row globals old)
  pub mentions :
      value_mentions globals (property_value row globals new) ≡ value_mentions globals (property_value row globals old)

-- Each tree, well formed or not, has on each row of the table the value that it had before it was migrated.
-- (A row of no table may take objects as literals: a function with one stop may then become an object that is
-- no function.)
abbrev pub MigratedValuesAreTheSame : Type 0
MigratedValuesAreTheSame =
    (row : RowData) (globals : List (List ℕ × Data)) (t : Tree) → IsTableRow row →
    HasTheSameValue row globals (migrated_value row t) t

-- ---- filters

-- In every world two filters let the same features pass; and either both are outside or none is.
pub record LetsTheSamePass (new old : LayerFilter) : Type 0 where
  pub passes : (world : World) → lets_pass new world ≡ lets_pass old world
  pub outside : is_outside new ≡ is_outside old

-- What a filter reads of the world: a legacy filter reads what its expression reads.
abbrev pub filter_mentions : List (List ℕ × Data) → LayerFilter → Mentions
filter_mentions globals (condition t) = mentions t
filter_mentions globals (legacy_filter f) = expression_mentions (expression_value (reading_with (expression f) globals))
filter_mentions globals _ = nothing

-- Two trees are the same filter: the same features pass, and they read the same of the world.
pub record IsTheSameFilter (globals : List (List ℕ × Data)) (new old : Tree) : Type 0 where
  pub passes : LetsTheSamePass (layer_filter globals (Some new)) (layer_filter globals (Some old))
  pub mentions :
      filter_mentions globals (layer_filter globals (Some new))
      ≡ filter_mentions globals (layer_filter globals (Some old))

-- Each tree, well formed or not, is the filter that it was before it was migrated.
abbrev pub MigratedFiltersAreTheSame : Type 0
MigratedFiltersAreTheSame =
    (globals : List (List ℕ × Data)) (t : Tree) →
    IsTheSameFilter globals (migrated_filter t) t

-- ---- layouts

-- Each migrated document, well formed or not, has the layout that the document has: at every zoom, over all
-- tiles, and whatever the states of features, the two tests and the values of the global state are.
abbrev pub MigratedDocumentsHaveTheSameLayout : Type 0
MigratedDocumentsHaveTheSameLayout =
    (scene : Scene) (tiles : List SourceTile) (globals : List (List ℕ × Data)) (document : Tree) →
    layout_of scene tiles globals (migrated document) ≡ layout_of scene tiles globals document

-- And it gives the same values of the global state.
abbrev pub MigratedDocumentsGiveTheSameGlobals : Type 0
MigratedDocumentsGiveTheSameGlobals = (document : Tree) → globals_of (migrated document) ≡ globals_of document
