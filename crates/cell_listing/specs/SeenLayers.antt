-- A layer with its kept values, as clauses see it.
use Rattle.std.specs.Prelude.{ℕ, ℤ, List, Bool, Option}
use Rattle.stable_order.specs.Keys.{key_before}
use Rattle.tile_reader.specs.declared.tile.Feature.{Feature}
use Rattle.layer_buckets.specs.Seen.{source_of}
use Rattle.layer_buckets.specs.declared.cell.CellItem.TheVariants as items
use Rattle.listing_text.specs.Layout.{FeatureOut, ListedValue}
use Rattle.style_layout.specs.CodeView.{document_layer, document_property}
use Rattle.style_layout.specs.Forms.{Property}
use Rattle.style_layout.specs.declared.properties.Property as handed
use Rattle.style_layout.specs.Layers.{StyleLayer, sort_property}
use Rattle.style_layout.specs.Shown.{SourceTile, layer_features, numbered}
use Rattle.asked_cells.specs.Asked.{common_cell}
use Rattle.asked_cells.specs.Asking.{common_answer}
use Rattle.asked_cells.specs.Counted.{KeptValues, kept_in}
use Rattle.cell_listing.specs.KeptListing.{AreAllKnown, AreKnown, kept_feature, kept_key, kept_lines, kept_values}
use Rattle.cell_listing.specs.KeptListing.{key_ordered, passed}
use Rattle.cell_listing.specs.declared.kept_layer.KeptLayer.{KeptLayer}
use Rattle.cell_listing.specs.declared.feature_order.KeyedFeature.{KeyedFeature}

module _ {E : Type 0} where
  abbrev pub values_in : KeptLayer E → KeptValues
  values_in k = kept_in k.buckets.now k.number

  abbrev pub layer_in : KeptLayer E → StyleLayer
  layer_in k = document_layer k.layer

  -- a property that was prepared of it
  abbrev pub property_in : KeptLayer E → handed.Property → Property
  property_in k = document_property k.layer

  -- what the filter answers of all features, where it has no cell for each
  abbrev pub answer_in : KeptLayer E → Option Bool
  answer_in k =
      common_answer (source_of k.buckets.now k.number items.Filter) (layer_in k).filter (values_in k common_cell)

  -- the features that pass
  abbrev pub passed_in : KeptLayer E → List SourceTile → List (ℕ × Feature)
  passed_in k tiles = passed (values_in k) (answer_in k) (numbered 0 (layer_features tiles (layer_in k)))

  -- these in the order in which they are listed
  abbrev pub ordered_in : KeptLayer E → List SourceTile → List (ℕ × Feature)
  ordered_in k tiles =
      key_ordered (values_in k) (sort_property (layer_in k).type (layer_in k).properties) (passed_in k tiles)

  -- what is listed with the feature of a number, or with the layer
  abbrev pub listed_in : KeptLayer E → Option ℕ → List ListedValue
  listed_in k feature = kept_values (values_in k) feature (layer_in k).properties

  abbrev pub feature_in : KeptLayer E → ℕ × Feature → FeatureOut
  feature_in k nf = kept_feature (values_in k) (layer_in k).properties nf

  abbrev pub lines_in : KeptLayer E → List (ℕ × Feature) → List ℕ
  lines_in k nfs = kept_lines (values_in k) (layer_in k).properties nfs

  abbrev pub KnowsValues : KeptLayer E → Option ℕ → Type 0
  KnowsValues k feature = AreKnown (values_in k) feature (layer_in k).properties

  abbrev pub KnowsFeatures : KeptLayer E → List (ℕ × Feature) → Type 0
  KnowsFeatures k nfs = AreAllKnown (values_in k) (layer_in k).properties nfs

-- ---- features with their keys

abbrev pub numbered_seen : KeyedFeature → ℕ × Feature
numbered_seen k = (k.number, k.feature.now)

abbrev pub keyed_seen : KeyedFeature → Option ℤ × (ℕ × Feature)
keyed_seen k = (k.key, numbered_seen k)

abbrev pub keyed_before : KeyedFeature → KeyedFeature → Bool
keyed_before a b = key_before a.key b.key

-- features with the keys that kept values give
abbrev pub with_key : KeptValues → Property → ℕ × Feature → Option ℤ × (ℕ × Feature)
with_key kept p nf = (kept_key kept p nf.0, nf)
