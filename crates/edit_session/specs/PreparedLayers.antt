-- What is prepared of the layers of a document, each once, and how they follow an edit. Only contracts of private
-- functions use it.
use Rattle.std.specs.Prelude.{◌≡◌, ℕ, List, Bool, true, false, ◌||◌}
use Rattle.decimal_json.specs.Tree.{Tree, trees_of}
use Rattle.kept_layers.specs.KeptLayers.{outlines_of}
use Rattle.prop_values.specs.Data.{Data}
use Rattle.global_laws.specs.GlobalLaw.{items_name_globals}
use Rattle.style_layout.specs.CodeView.{layers_seen}
use Rattle.style_layout.specs.Layers.{StyleLayer}
use Rattle.style_layout.specs.Shown.{SourceTile}
use Rattle.style_layout.specs.StyleLayout.{cell_count}
use Rattle.edit_session.specs.Opening.{within_limit}
use Rattle.edit_session.specs.declared.layers.PreparedLayers.{PreparedLayers}

-- what is prepared is that of these layers, over tiles
pub record ArePrepared (tiles : List SourceTile) (globals : List (List ℕ × Data)) (ts : List Tree)
    (p : PreparedLayers) : Type 0 where
  pub layers : layers_seen p.style ≡ outlines_of globals ts
  pub counted : p.cells ≡ cell_count tiles (outlines_of globals ts)
  pub noted : p.reads_globals ≡ false → items_name_globals (trees_of ts) ≡ false

-- Where these layers have not too many cells, they are what is prepared; else nothing changes.
pub record Follows (tiles : List SourceTile) (globals : List (List ℕ × Data)) (ts : List Tree) (is_done : Bool)
    (old new : PreparedLayers) : Type 0 where
  pub limit : is_done ≡ within_limit old.limit (cell_count tiles (outlines_of globals ts))
  pub same_limit : new.limit ≡ old.limit
  pub prepared : is_done ≡ true → ArePrepared tiles globals ts new
  pub stays : is_done ≡ false → new ≡ old

-- One layer more or another: where the layers have not too many cells they are these, with a note whether the new one
-- reads the global state; else nothing changes.
pub record Becomes (tiles : List SourceTile) (ls : List StyleLayer) (reads : Bool) (is_done : Bool)
    (old new : PreparedLayers) : Type 0 where
  pub limit : is_done ≡ within_limit old.limit (cell_count tiles ls)
  pub same_limit : new.limit ≡ old.limit
  pub layers : is_done ≡ true → layers_seen new.style ≡ ls
  pub counted : is_done ≡ true → new.cells ≡ cell_count tiles ls
  pub noted : is_done ≡ true → new.reads_globals ≡ (old.reads_globals || reads)
  pub stays : is_done ≡ false → new ≡ old
