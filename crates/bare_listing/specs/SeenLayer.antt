-- A layer that is listed, as clauses see it.
use Rattle.std.specs.Prelude.{◌≡◌, ℕ, ℤ, ◌<◌, List, length, map, flat_map, Bool, true, Option, Some, None, slice_get}
use Rattle.std.specs.List.{AllByRecursion}
use Rattle.operator_values.specs.Evaluated.{Evaluated}
use Rattle.eval_face.specs.Resolved.{resolved}
use Rattle.expr_nodes.specs.Evaluators.{Sized}
use Rattle.layer_buckets.specs.Outcomes.{outcome_owned}
use Rattle.layer_buckets.specs.Seen.{evaluator_of, source_of}
use Rattle.layer_buckets.specs.declared.cell.CellItem.TheVariants as items
use Rattle.layer_buckets.specs.declared.cell.Source.{Source}
use Rattle.listing_text.specs.Listing.{feature_lines}
use Rattle.stable_order.specs.Keys.{key_before}
use Rattle.style_layout.specs.CodeView.{feature_seen, tile_seen}
use Rattle.style_layout.specs.Forms.{Property, Scene}
use Rattle.style_layout.specs.Layers.{StyleLayer, sort_property}
use Rattle.style_layout.specs.Shown.{LayerFeature, SourceTile, feature_out}
use Rattle.style_layout.specs.SortKeys.{key_of}
use Rattle.style_layout.specs.Tests.{Tests}
use Rattle.style_layout.specs.declared.properties.Property as handed
use Rattle.asked_cells.specs.SeenCells as cells
use Rattle.bare_listing.specs.Given.{AreGivenBy, Filters, ItemSources, given_from}
use Rattle.bare_listing.specs.declared.bare_layer.BareLayer.{BareLayer}
use Rattle.bare_listing.specs.declared.feature_order.PassedFeature.{PassedFeature}
use Rattle.bare_listing.specs.declared.feature_order.SortSource.{SortSource}

module _ {E V : Type 0} where
  abbrev pub layer_in : BareLayer E V → StyleLayer
  layer_in l = cells.layer_at l.at.now

  -- a property that was prepared of it
  abbrev pub property_in : BareLayer E V → handed.Property → Property
  property_in l = cells.property_at l.at.now

  abbrev pub scene_in : (V → Tests) → BareLayer E V → Scene
  scene_in tests l = cells.scene_at tests l.at.now

  abbrev pub tiles_in : BareLayer E V → List SourceTile
  tiles_in l = map tile_seen l.tiles.now

  abbrev pub sources_in : BareLayer E V → ItemSources
  sources_in l item = source_of l.buckets.now l.at.now.number item

  abbrev pub slots_in : (E → List Sized) → BareLayer E V → List Sized
  slots_in slots l = slots (evaluator_of l.buckets.now)

  -- the sources give what is listed, and say which features pass
  pub record IsGivenIn (slots : E → List Sized) (tests : V → Tests) (l : BareLayer E V) : Type 0 where
    pub values : AreGivenBy (scene_in tests l) (slots_in slots l) (sources_in l) (layer_in l).properties
    pub filter : Filters (scene_in tests l) (slots_in slots l) (sources_in l items.Filter) (layer_in l)

abbrev pub lines_of : Scene → StyleLayer → List LayerFeature → List ℕ
lines_of scene layer fs = flat_map feature_lines (map (feature_out scene layer) fs)

-- ---- features in the order of a property

-- a property that orders features of a layer, its place among the properties, and its source
pub record Sorts {E V : Type 0} (l : BareLayer E V) (sort : SortSource) : Type 0 where
  pub property : sort_property (layer_in l).type (layer_in l).properties ≡ Some (property_in l sort.property.now)
  pub within : sort.place < length (layer_in l).properties
  pub place : slice_get (layer_in l).properties sort.place ≡ Some (property_in l sort.property.now)
  pub source : sources_in l (items.Property (property_in l sort.property.now).row.number) ≡ Some sort.source
  pub own : sort.property.now.is_per_feature ≡ true

abbrev pub keyed_seen : PassedFeature → Option Evaluated × LayerFeature
keyed_seen k = (Some (outcome_owned k.value), feature_seen k.feature)

abbrev pub feature_of : PassedFeature → LayerFeature
feature_of k = feature_seen k.feature

-- features with what a source gives of each
abbrev pub with_given : Scene → List Sized → Source → LayerFeature → Option Evaluated × LayerFeature
with_given scene slots s f = (given_from scene slots s (Some f), f)

-- what a source gives of a feature is its value
abbrev pub IsKeyed : Scene → List Sized → Source → PassedFeature → Type 0
IsKeyed scene slots s k = given_from scene slots s (Some (feature_of k)) ≡ Some (outcome_owned k.value)

abbrev pub AreKeyed : Scene → List Sized → Source → List PassedFeature → Type 0
AreKeyed scene slots s ks = AllByRecursion (IsKeyed scene slots s) ks

-- the key that a value gives, whatever the default is after a fault
abbrev pub key_by : Evaluated → Option ℤ
key_by value = key_of (resolved None value)

abbrev pub keyed_before : PassedFeature → PassedFeature → Bool
keyed_before a b = key_before (key_by (outcome_owned a.value)) (key_by (outcome_owned b.value))
