-- A layer of a document, by what is kept of it, as a listing finds it. Source: own.
use Rattle.std.specs.Prelude.{◌≡◌, ◌<◌, ◌^◌, ℕ, List, length}
use Rattle.decimal_json.specs.Tree.{Tree}
use Rattle.prop_values.specs.Data.{Data}
use Rattle.expr_nodes.specs.Evaluators.{Sized}
use Rattle.layer_buckets.specs.declared.buckets.Buckets.{Buckets}
use Rattle.style_layout.specs.Forms.{Scene}
use Rattle.style_layout.specs.Layers.{StyleLayer}
use Rattle.style_layout.specs.Shown.{SourceTile, layer_features}
use Rattle.kept_layers.specs.Holding.{HasLayer, IsRight}
use Rattle.kept_layers.specs.KeptLayers.{prepared_layer}

-- The layer that has a number is this one of a document, what is kept of it is right in a scene, and it has fewer than
-- 2^32 features.
pub record IsKeptLayer {E : Type 0} (slots : E → List Sized) (scene : Scene) (tiles : List SourceTile) (number : ℕ)
    (layer : StyleLayer) (b : Buckets E) : Type 0 where
  pub globals : List (List ℕ × Data)
  pub tree : Tree
  pub prepared : layer ≡ prepared_layer globals tree
  pub held : HasLayer slots tiles globals b number tree
  pub right : IsRight slots tiles globals b scene number tree
  pub few : length (layer_features tiles layer) < 2 ^ 32
