-- What a session represents.
use Rattle.std.specs.Prelude.{ℕ, ℤ, List, [], Bool}
use Rattle.decimal_json.specs.Tree.{Tree}
use Rattle.kept_layers.specs.Changes.{nothing_kept}
use Rattle.kept_layers.specs.KeptLayers.{StyleKept}
use Rattle.prop_values.specs.Data.{Data}
use Rattle.style_edits.specs.Layers.{layer_list}
use Rattle.style_layout.specs.Forms.{Scene}
use Rattle.style_layout.specs.Globals.{globals_of}

-- A document, and what it is shown by. Source: own.
pub record SessionState : Type 0 where
  pub document : Tree
  -- in millionths
  pub zoom : ℤ
  -- the members of the state of a feature, by source, source layer and id
  pub states : List ℕ → List ℕ → ℕ → List (List ℕ × Data)
  -- the images that are there, by their names
  pub has_image : List ℕ → Bool
  -- the values of the global state, by their names
  pub globals : List (List ℕ × Data)
  -- the most cells that the document may have
  pub limit : ℕ
  -- which cells of its layers are kept
  pub kept : StyleKept
  -- the number of evaluations of the last listing
  pub last : ℕ

-- A document before the first edit, which may have so many cells: no feature has a state, the global state has its
-- defaults, and nothing is kept. Source: own.
abbrev pub opened : (limit : ℕ) → Tree → ℤ → (List ℕ → Bool) → SessionState
opened limit document zoom has_image = record {
  document = document;
  zoom = zoom;
  states = λ source layer id. [];
  has_image = has_image;
  globals = globals_of document;
  limit = limit;
  kept = nothing_kept (layer_list document);
  last = 0;
}

-- what all layers see, with the test on texts that can be shown
abbrev pub scene_of : (List ℕ → Bool) → SessionState → Scene
scene_of scripts p = record { zoom = p.zoom; states = p.states; has_image = p.has_image; is_supported = scripts }
