-- What following an edit asks, and what it gives. Source: own.
use Rattle.std.specs.Prelude.{◌≡◌, ◌<◌, ℕ, List, length, slice_index_or, Option, Some, None, unwrap_or}
use Rattle.decimal_json.specs.Tree.{Tree, null}
use Rattle.decimal_json.specs.View.{tree_of}
use Rattle.edit_script.specs.Edit.{Edit}
use Rattle.expr_nodes.specs.Evaluators.{Sized}
use Rattle.layer_buckets.specs.declared.cell.CellItem.{CellItem}
use Rattle.form_pool.specs.declared.form_pool.FormPool.{FormPool}
use Rattle.style_edits.specs.ByPlace.{place_moved_to}
use Rattle.style_edits.specs.Edited.{edited_layers}
use Rattle.style_edits.specs.Places.{places_in}
use Rattle.style_edits.specs.declared.places.EditPlaces.{EditPlaces}
use Rattle.style_layout.specs.Forms.{Scene}
use Rattle.kept_layers.specs.Changes.{AddsLayer, ChangesLayer, MovesLayer, RemovesLayer, globals_of, tiles_of}
use Rattle.kept_layers.specs.KeptLayers.{StyleKept}
use Rattle.kept_layers.specs.View.{AreNumbered, HoldsLayers, IsRightIn, globals_in, kept_seen, tiles_in, trees_in}
use Rattle.kept_layers.specs.declared.kept_layers.KeptLayers.{KeptLayers}
use Rattle.kept_layers.specs.declared.style_layers.OneLayer.{OneLayer}
use Rattle.kept_layers.specs.declared.style_layers.StyleLayers.{StyleLayers}

module _ (slots : FormPool → List Sized) (style : StyleLayers) where
  -- The layers of the style are these after an edit, the edit named layers at these places, and what is kept is of the
  -- layers before it.
  pub record IsEditOf (places : EditPlaces) (edit : Edit) (kept : KeptLayers)
      (before : List Tree) : Type 0 where
    pub placed : places ≡ places_in before edit
    pub edited : trees_in style ≡ edited_layers edit before
    pub holds : HoldsLayers slots (tiles_in style) (globals_in style) before kept

  -- There are such layers.
  abbrev pub IsEdited : EditPlaces → Edit → KeptLayers → Type 0
  IsEdited places edit kept = (before : List Tree) × IsEditOf places edit kept before

  -- After an edit of layers these cells are kept, they are of the layers of the style, and what is kept stays right.
  pub record HasFollowed (before : List Tree) (after : StyleKept) (old new : KeptLayers) : Type 0 where
    pub numbered : AreNumbered new
    pub kept : kept_seen new ≡ after
    pub holds : HoldsLayers slots (tiles_in style) (globals_in style) (trees_in style) new
    pub right : (scene : Scene) → IsRightIn slots (tiles_in style) (globals_in style) scene before old
        → IsRightIn slots (tiles_in style) (globals_in style) scene (trees_in style) new

-- ---- what only contracts of private functions and proofs use

-- a layer is that at a place of a style
pub record IsLayerAt (style : StyleLayers) (place : ℕ) (one : OneLayer) : Type 0 where
  pub layer : tree_of one.layer.now ≡ slice_index_or (trees_in style) place null
  pub globals : globals_of one ≡ globals_in style
  pub tiles : tiles_of one ≡ tiles_in style

-- the layer at a place is in the style, and kept cells are of it
abbrev pub IsPlaceIn : StyleLayers → KeptLayers → ℕ → Type 0
IsPlaceIn style kept place = (place < length (trees_in style)) × (place < length (kept_seen kept))

module _ (slots : FormPool → List Sized) (style : StyleLayers) where
  -- an item, if it is one, of the layer at a place is another
  abbrev pub ChangesItemAt : ℕ → Option CellItem → KeptLayers → KeptLayers → Type 0
  ChangesItemAt place (Some item) old new =
      (one : OneLayer) × IsLayerAt style place one × ChangesLayer slots place item one old new
  ChangesItemAt place None old new = new ≡ old

  -- an item, which its layer says, of the layer at a place, if there is one
  abbrev pub ChangesAt : Option ℕ → (Tree → Option CellItem) → KeptLayers → KeptLayers → Type 0
  ChangesAt (Some place) item old new =
      ChangesItemAt place (item (slice_index_or (trees_in style) place null)) old new
  ChangesAt None item old new = new ≡ old

  abbrev pub AddsAt : ℕ → KeptLayers → KeptLayers → Type 0
  AddsAt place old new = (one : OneLayer) × IsLayerAt style place one × AddsLayer slots place one old new

  -- a layer is added before the one at a place, or last
  abbrev pub AddsBefore : Option ℕ → KeptLayers → KeptLayers → Type 0
  AddsBefore before old new = AddsAt (unwrap_or before (length (kept_seen old))) old new

module _ (slots : FormPool → List Sized) where
  -- the layer at a place, if there is one, is removed
  abbrev pub RemovesAt : Option ℕ → KeptLayers → KeptLayers → Type 0
  RemovesAt (Some place) old new = RemovesLayer slots place old new
  RemovesAt None old new = new ≡ old

  -- it is moved before another, or to the end
  abbrev pub MovesAt : Option ℕ → Option ℕ → KeptLayers → KeptLayers → Type 0
  MovesAt (Some from) before old new =
      MovesLayer slots from (place_moved_to from before (length (kept_seen old))) old new
  MovesAt None before old new = new ≡ old
