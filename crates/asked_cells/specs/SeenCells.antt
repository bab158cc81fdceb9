-- The feature of a cell and the layer that is listed, as clauses see them.
use Rattle.std.specs.Prelude.{ℕ, Option, Some, None}
use Rattle.std.specs.Borrow.{Bor}
use Rattle.layer_buckets.specs.Seen.{HasFeature, features_of}
use Rattle.layer_buckets.specs.declared.buckets.Buckets.{Buckets}
use Rattle.style_layout.specs.CodeView.{document_layer, document_property, feature_seen, scene_seen}
use Rattle.style_layout.specs.Forms.{Property, Scene}
use Rattle.style_layout.specs.Layers.{StyleLayer}
use Rattle.style_layout.specs.Shown.{LayerFeature}
use Rattle.style_layout.specs.Tests.{Tests}
use Rattle.style_layout.specs.declared.features.LayerFeature as handed
use Rattle.style_layout.specs.declared.properties.Property as handed_property
use Rattle.asked_cells.specs.Asked.{feature_number}
use Rattle.asked_cells.specs.declared.view_cells.LayerAt.{LayerAt}

abbrev pub cell_feature : Option (Bor handed.LayerFeature) → Option LayerFeature
cell_feature (Some f) = Some (feature_seen f.now)
cell_feature None = None

-- a layer has the feature of a cell
abbrev pub HasCellFeature : {E : Type 0} → Buckets E → ℕ → Option LayerFeature → Type 0
HasCellFeature b layer feature = HasFeature (features_of b layer) (feature_number feature)

module _ {V : Type 0} where
  abbrev pub layer_at : LayerAt V → StyleLayer
  layer_at at = document_layer at.layer

  -- a property that was prepared of it
  abbrev pub property_at : LayerAt V → handed_property.Property → Property
  property_at at = document_property at.layer

  abbrev pub scene_at : (V → Tests) → LayerAt V → Scene
  scene_at tests at = scene_seen tests at.scene.now
