-- The expressions of layers are put anew. Source: own.
use Rattle.std.specs.Prelude.{◌≡◌, ℕ, ◌<◌, List, length, slice_index_or}
use Rattle.decimal_json.specs.Tree.{Tree, null}
use Rattle.prop_values.specs.Data.{Data}
use Rattle.expr_nodes.specs.Evaluators.{Sized}
use Rattle.form_pool.specs.declared.form_pool.FormPool.{FormPool}
use Rattle.layer_buckets.specs.declared.buckets.Buckets.{Buckets}
use Rattle.style_layout.specs.Forms.{Scene}
use Rattle.style_layout.specs.Shown.{SourceTile}
use Rattle.asked_cells.specs.Expressions.{HasExpressions}
use Rattle.cell_sources.specs.Sourced.{HasSources}
use Rattle.kept_layers.specs.KeptLayers.{layer_expressions}
use Rattle.kept_layers.specs.View.{AreNumbered, HoldsLayers, IsRightIn, kept_seen}
use Rattle.kept_layers.specs.declared.kept_layers.KeptLayers.{KeptLayers}

module _ {E : Type 0} (slots : E → List Sized) (globals : List (List ℕ × Data)) (ns : List ℕ) (ts : List Tree) where
  -- The first layers have their expressions where they had the sources of these.
  abbrev pub AreRenewed : ℕ → Buckets E → Buckets E → Type 0
  AreRenewed place old new = (p : ℕ) → p < place → p < length ns
      → HasSources (slice_index_or ns p 0) (layer_expressions globals (slice_index_or ts p null)) old
      → HasExpressions slots (slice_index_or ns p 0) (layer_expressions globals (slice_index_or ts p null)) new

-- Each layer has its expressions, and what is kept stays.
pub record Tidies (slots : FormPool → List Sized) (tiles : List SourceTile) (globals : List (List ℕ × Data))
    (ts : List Tree)
    (old new : KeptLayers) : Type 0 where
  pub numbered : AreNumbered new
  pub kept : kept_seen new ≡ kept_seen old
  pub holds : HoldsLayers slots tiles globals ts new
  pub right : (scene : Scene) → IsRightIn slots tiles globals scene ts old → IsRightIn slots tiles globals scene ts new
