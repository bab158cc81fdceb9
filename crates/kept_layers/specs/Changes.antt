-- What each change of a style or of what it is shown by makes of its kept cells. Source: own.
use Rattle.std.specs.Prelude.{◌≡◌, ◌<◌, ◌≤◌, ◌+◌, ℕ, ℤ, List, length, map, insert, remove, slice_index_or, slice_set}
use Rattle.std.specs.Prelude.{Bool, false, Result, IfOk}
use Rattle.decimal_json.specs.Tree.{Tree}
use Rattle.decimal_json.specs.View.{tree_of}
use Rattle.prop_values.specs.Data.{Data}
use Rattle.expr_nodes.specs.Evaluators.{Sized}
use Rattle.form_pool.specs.declared.form_pool.FormPool.{FormPool}
use Rattle.feature_states.specs.Features.{same_feature}
use Rattle.layer_buckets.specs.declared.cell.CellItem.{CellItem}
use Rattle.style_layout.specs.CodeView.{layer_seen, tile_seen}
use Rattle.style_layout.specs.Forms.{Scene}
use Rattle.style_layout.specs.Shown.{SourceTile, layer_features}
use Rattle.asked_cells.specs.Asked.{LayerCell}
use Rattle.kept_layers.specs.Holding.{ChangesItem}
use Rattle.kept_layers.specs.KeptLayers.{StyleKept, evaluations_of, is_stale_global, kept_after, kept_of_each}
use Rattle.kept_layers.specs.KeptLayers.{kept_without, none_kept, nodes_of, outline_of}
use Rattle.kept_layers.specs.View.{AreNumbered, HoldsLayers, IsRightIn, IsTyped, kept_seen}
use Rattle.kept_layers.specs.declared.kept_layers.KeptLayers.{KeptLayers}
use Rattle.kept_layers.specs.declared.style_layers.OneLayer.{OneLayer}

-- nothing is kept of any layer
abbrev pub nothing_kept : List Tree → StyleKept
nothing_kept ts = map (λ t. none_kept) ts

-- ---- one layer

abbrev pub tiles_of : OneLayer → List SourceTile
tiles_of one = map tile_seen one.tiles.now

abbrev pub globals_of : OneLayer → List (List ℕ × Data)
globals_of one = one.globals.now

-- it has a type, is prepared, and has fewer than 2^32 - 1 features
pub record IsOneLayer (one : OneLayer) : Type 0 where
  pub typed : IsTyped (tree_of one.layer.now)
  pub prepared : layer_seen one.prepared.now ≡ outline_of (globals_of one) (tree_of one.layer.now)
  pub few : length (layer_features (tiles_of one) (layer_seen one.prepared.now)) < 4294967295

module _ (slots : FormPool → List Sized) where
  -- ---- layers come, go and move

  pub record AddsLayer (place : ℕ) (one : OneLayer) (old new : KeptLayers) : Type 0 where
    pub numbered : AreNumbered new
    pub kept : kept_seen new ≡ insert (kept_seen old) place none_kept
    pub holds : (ts : List Tree) → HoldsLayers slots (tiles_of one) (globals_of one) ts old
        → HoldsLayers slots (tiles_of one) (globals_of one) (insert ts place (tree_of one.layer.now)) new
    pub right : (scene : Scene) (ts : List Tree) → HoldsLayers slots (tiles_of one) (globals_of one) ts old
        → IsRightIn slots (tiles_of one) (globals_of one) scene ts old
        → IsRightIn slots (tiles_of one) (globals_of one) scene (insert ts place (tree_of one.layer.now)) new

  pub record RemovesLayer (place : ℕ) (old new : KeptLayers) : Type 0 where
    pub numbered : AreNumbered new
    pub kept : kept_seen new ≡ remove (kept_seen old) place
    pub holds : (tiles : List SourceTile) (globals : List (List ℕ × Data)) (ts : List Tree)
        → HoldsLayers slots tiles globals ts old
        → HoldsLayers slots tiles globals (remove ts place) new
    pub right : (tiles : List SourceTile) (globals : List (List ℕ × Data)) (scene : Scene) (ts : List Tree)
        → HoldsLayers slots tiles globals ts old
        → IsRightIn slots tiles globals scene ts old → IsRightIn slots tiles globals scene (remove ts place) new

  pub record MovesLayer (from to : ℕ) (old new : KeptLayers) : Type 0 where
    pub numbered : AreNumbered new
    pub kept : kept_seen new ≡ insert (remove (kept_seen old) from) to (slice_index_or (kept_seen old) from none_kept)
    pub holds : (tiles : List SourceTile) (globals : List (List ℕ × Data)) (ts : List Tree) (other : Tree)
        → HoldsLayers slots tiles globals ts old
        → HoldsLayers slots tiles globals (insert (remove ts from) to (slice_index_or ts from other)) new
    pub right : (tiles : List SourceTile) (globals : List (List ℕ × Data)) (scene : Scene) (ts : List Tree)
        (other : Tree)
        → HoldsLayers slots tiles globals ts old → IsRightIn slots tiles globals scene ts old
        → IsRightIn slots tiles globals scene (insert (remove ts from) to (slice_index_or ts from other)) new

  -- An item of the layer at a place is another, and its cells are not kept any more.
  pub record ChangesLayer (place : ℕ) (item : CellItem) (one : OneLayer) (old new : KeptLayers) : Type 0 where
    pub numbered : AreNumbered new
    pub kept : kept_seen new ≡ kept_without place item (kept_seen old)
    pub holds : (ts : List Tree) (before : Tree)
        → ChangesItem (globals_of one) item (slice_index_or ts place before) (tree_of one.layer.now)
        → HoldsLayers slots (tiles_of one) (globals_of one) ts old
        → HoldsLayers slots (tiles_of one) (globals_of one) (slice_set ts place (tree_of one.layer.now)) new
    pub right : (scene : Scene) (ts : List Tree) (before : Tree)
        → ChangesItem (globals_of one) item (slice_index_or ts place before) (tree_of one.layer.now)
        → HoldsLayers slots (tiles_of one) (globals_of one) ts old
        → IsRightIn slots (tiles_of one) (globals_of one) scene ts old
        → IsRightIn slots (tiles_of one) (globals_of one) scene (slice_set ts place (tree_of one.layer.now)) new

  -- ---- what layers are shown by changes

  -- cells of these layers are dropped where they are stale, and no others; what is kept is right again where one
  -- scene takes the place of another
  pub record Drops (stale : Tree → LayerCell → Bool) (turns : Scene → Scene → Type 0) (tiles : List SourceTile)
      (globals : List (List ℕ × Data)) (ts : List Tree) (old new : KeptLayers) : Type 0 where
    pub kept : kept_seen new ≡ kept_of_each stale ts (kept_seen old)
    pub holds : HoldsLayers slots tiles globals ts new
    pub right : (before after : Scene) → turns before after → IsRightIn slots tiles globals before ts old
        → IsRightIn slots tiles globals after ts new

  -- The values of the global state are others, and the cells of expressions that use them are not kept any more.
  pub record TurnsGlobals (tiles : List SourceTile) (before after : List (List ℕ × Data)) (ts : List Tree)
      (old new : KeptLayers) : Type 0 where
    pub numbered : AreNumbered new
    pub kept : kept_seen new ≡ kept_of_each (is_stale_global before) ts (kept_seen old)
    pub holds : HoldsLayers slots tiles after ts new
    pub right : (scene : Scene) → IsRightIn slots tiles before scene ts old → IsRightIn slots tiles after scene ts new

  -- ---- a listing

  -- the cells that a listing asks of layers are kept, with those that were
  pub record HaveListed (scene : Scene) (tiles : List SourceTile) (globals : List (List ℕ × Data)) (ts : List Tree)
      (old new : KeptLayers) : Type 0 where
    pub kept : kept_seen new ≡ kept_after scene tiles globals ts (kept_seen old)
    pub holds : HoldsLayers slots tiles globals ts new
    pub right : IsRightIn slots tiles globals scene ts new

module _ (scene : Scene) (tiles : List SourceTile) (globals : List (List ℕ × Data)) (ts : List Tree)
    (kept : StyleKept) where
  -- The number of a listing is how many of the cells that it asks were not kept. It takes at least as many steps.
  pub record IsCounted (n before after : ℕ) : Type 0 where
    pub evaluated : n ≡ evaluations_of scene tiles globals ts kept
    pub least : before + n ≤ after

  -- What a listing counts, and the steps that it takes: no more than the expressions of the cells that were not kept
  -- have nodes, also where an allocation fails.
  pub record Counts {X : Type 0} (result : Result ℕ X) (before after : ℕ) : Type 0 where
    pub most : after ≤ before + nodes_of scene tiles globals ts kept
    pub ok : IfOk result (λ n. IsCounted n before after)

-- the zoom is another, and all else as it was
pub record TurnsZoom (old new : ℤ) (before after : Scene) : Type 0 where
  pub was : before.zoom ≡ old
  pub is : after ≡ record before { zoom = new }

-- the test of images is another
pub record TurnsImages (before after : Scene) : Type 0 where
  pub zoom : after.zoom ≡ before.zoom
  pub states : after.states ≡ before.states
  pub scripts : after.is_supported ≡ before.is_supported

-- the state of one feature is another
pub record TurnsState (source layer : List ℕ) (id : ℕ) (before after : Scene) : Type 0 where
  pub zoom : after.zoom ≡ before.zoom
  pub images : after.has_image ≡ before.has_image
  pub scripts : after.is_supported ≡ before.is_supported
  pub states : (s l : List ℕ) (i : ℕ) → same_feature source layer id s l i ≡ false
      → after.states s l i ≡ before.states s l i
