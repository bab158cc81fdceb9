-- An item's expression gives what the layout lists for the item, and a cell means the same as long as what it mentions
-- does. Source: own.
use Rattle.std.specs.Prelude.{◌≡◌, ℕ, List, [], ◌∷◌, Bool, true, false, Option, Some, None}
use Rattle.decimal_json.specs.Tree.{Tree}
use Rattle.prop_values.specs.Data.{Data}
use Rattle.property_tables.specs.Rows.{RowData}
use Rattle.property_tables.specs.declared.layer_type.LayerType.{LayerType}
use Rattle.tile_reader.specs.declared.tile.Feature.{Feature}
use Rattle.expr_syntax.specs.Mentioned.{nothing, mentions}
use Rattle.expr_syntax.specs.declared.world_parts.Mentions.{Mentions}
use Rattle.eval_face.specs.Meaning.{mean}
use Rattle.eval_face.specs.World.{World, no_feature}
use Rattle.eval_face.specs.Resolved.{passes}
use Rattle.legacy_laws.specs.LegacyFunctionLaw.{IsTableRow}
use Rattle.layer_buckets.specs.declared.cell.CellItem.{CellItem}
use Rattle.layer_buckets.specs.declared.cell.CellItem.TheVariants as items
use Rattle.style_layout.specs.Forms.{LayerFilter, Property, Scene, layer_filter, lets_pass, property_of, property_value}
use Rattle.style_layout.specs.Forms.{value_mentions}
use Rattle.style_layout.specs.Layers.{properties_of, typed_layer}
use Rattle.style_layout.specs.Shown.{LayerFeature}
use Rattle.asked_cells.specs.Asked.{IsDecided, constant_answer, given_by, has_own_cells, item_zoom}
use Rattle.asked_cells.specs.Expressions.{AreGiven, CellExpression, IsGivenBy, LayerExpressions}
use Rattle.cell_sources.specs.CellExpressions.{filter_expression, item_expression, value_expression}

-- ---- values

-- what an expression mentions of the world
abbrev pub mentions_of : Option CellExpression → Mentions
mentions_of (Some e) = mentions e.term
mentions_of None = nothing

-- What is listed for a value of a row is what its expression gives, and the expression mentions of the world what the
-- value does.
abbrev pub ExpressionsGiveValues : Type 0
ExpressionsGiveValues = (row : RowData) (globals : List (List ℕ × Data)) (t : Tree) → IsTableRow row
    → IsGivenBy (property_of row globals t) (value_expression row globals t)
    × (value_mentions globals (property_value row globals t) ≡ mentions_of (value_expression row globals t))

-- So it is with the properties of a layer.
abbrev pub PropertiesAreGiven : Type 0
PropertiesAreGiven = (globals : List (List ℕ × Data)) (type : LayerType) (layer : Tree)
    → AreGiven (item_expression globals type layer) (properties_of globals type layer)

-- A property is listed with each feature where its expression reads the feature or its state, and else with the layer.
abbrev pub AreReadBy : LayerExpressions → List Property → Type 0
AreReadBy expressions [] = Unit {0}
AreReadBy expressions (p ∷ ps) =
    (p.is_per_feature ≡ has_own_cells (expressions (items.Property p.row.number))) × AreReadBy expressions ps

abbrev pub PropertiesAreReadByExpressions : Type 0
PropertiesAreReadByExpressions = (globals : List (List ℕ × Data)) (type : LayerType) (layer : Tree)
    → AreReadBy (item_expression globals type layer) (properties_of globals type layer)

-- ---- filters

-- A feature passes where the filter's expression is true. A filter without an expression answers the same of all.
abbrev pub IsDecidedBy : LayerFilter → Option CellExpression → Type 0
IsDecidedBy f None = (world : World) → lets_pass f world ≡ constant_answer f
IsDecidedBy f (Some e) = (e.paint ≡ false)
    × ((world : World) → lets_pass f world ≡ passes (mean e.term e.want [] world))

abbrev pub ExpressionsDecideFilters : Type 0
ExpressionsDecideFilters = (globals : List (List ℕ × Data)) (t : Tree)
    → IsDecidedBy (layer_filter globals (Some t)) (filter_expression globals t)

-- So it is with the filter of a layer in each scene, by the cell that serves all features where it has no others.
abbrev pub FiltersAreDecided : Type 0
FiltersAreDecided = (scene : Scene) (globals : List (List ℕ × Data)) (type : LayerType) (layer : Tree)
    → IsDecided scene (item_expression globals type layer items.Filter) (typed_layer globals layer type)

-- ---- what a cell means stays

-- the feature of a cell and its state; the cell that serves all features has none
abbrev pub seen_feature : Option LayerFeature → Feature
seen_feature (Some f) = f.feature
seen_feature None = no_feature

abbrev pub seen_state : Option LayerFeature → List (List ℕ × Data)
seen_state (Some f) = f.state
seen_state None = []

-- Two scenes and two features are one to an expression: they agree on what it mentions, and have one test of scripts.
pub record SeesTheSame (e : CellExpression) (s r : Scene) (f g : Option LayerFeature) : Type 0 where
  pub zoom : (mentions e.term).zoom ≡ true → item_zoom s e ≡ item_zoom r e
  pub feature : (mentions e.term).feature ≡ true → seen_feature f ≡ seen_feature g
  pub state : (mentions e.term).state ≡ true → seen_state f ≡ seen_state g
  pub image : (mentions e.term).image ≡ true → (name : List ℕ) → s.has_image name ≡ r.has_image name
  pub script : (text : List ℕ) → s.is_supported text ≡ r.is_supported text

-- Then its cell means the same.
abbrev pub CellsMeanTheSame : Type 0
CellsMeanTheSame = (e : CellExpression) (s r : Scene) (f g : Option LayerFeature)
    → SeesTheSame e s r f g → given_by s e f ≡ given_by r e g

-- ---- values of the global state

abbrev pub reads_globals : Option CellExpression → Bool
reads_globals (Some e) = e.globals
reads_globals None = false

-- Both read the global state, or they are the same.
pub record DifferByGlobals (new old : Option CellExpression) : Type 0 where
  pub reads : reads_globals new ≡ reads_globals old
  pub same : reads_globals old ≡ false → new ≡ old

-- With other values of the global state an item keeps its expression, where that was not read by them. No item gets an
-- expression or loses it.
abbrev pub GlobalsChangeNoOther : Type 0
GlobalsChangeNoOther = (new old : List (List ℕ × Data)) (type : LayerType) (layer : Tree) (item : CellItem)
    → DifferByGlobals (item_expression new type layer item) (item_expression old type layer item)
