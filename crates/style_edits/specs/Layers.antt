-- The layers of a document in order, and what becomes of them where one is named by its id. In a document without
-- findings each layer has an id of its own; else the first that has an id is the one that it names.
use Rattle.std.specs.Prelude.{ℕ, List, [], ◌∷◌, ◌++◌, codes, Bool, false, Option, Some, None, if◌then◌else◌}
use Rattle.std.specs.Str.{bytes_eq}
use Rattle.decimal_json.specs.Accessors.{member}
use Rattle.decimal_json.specs.Tree.{Tree, list, trees_of}
use Rattle.edit_script.specs.Form.{elements_of}
use Rattle.style_edits.specs.Objects.{object_replacing}
use Rattle.style_parts.specs.Parts.{is_id_of, layers_of}

-- ---- the layers of a document

-- the layers; none where `layers` is no array
abbrev pub layer_list : Tree → List Tree
layer_list document = elements_of (layers_of document)

-- a document with these layers in place of what `layers` is
abbrev pub with_list : List Tree → Tree → Tree
with_list ts document = object_replacing (codes "layers") (list (trees_of ts)) document

abbrev pub with_changed : (List Tree → List Tree) → Option Tree → Tree → Tree
with_changed change (Some (list ts)) document = with_list (change (elements_of ts)) document
with_changed change _ document = document

-- A document with its layers changed. One that has no array of layers stays.
abbrev pub with_layers : (List Tree → List Tree) → Tree → Tree
with_layers change document = with_changed change (member (codes "layers") document) document

-- ---- layers by their ids

abbrev pub layer_named : List ℕ → List Tree → Option Tree
layer_named id [] = None
layer_named id (t ∷ ts) = if is_id_of id t then Some t else layer_named id ts

-- one layer is changed
abbrev pub changed_layer : List ℕ → (Tree → Tree) → List Tree → List Tree
changed_layer id change [] = []
changed_layer id change (t ∷ ts) = if is_id_of id t then change t ∷ ts else t ∷ changed_layer id change ts

-- one layer is taken out
abbrev pub without_layer : List ℕ → List Tree → List Tree
without_layer id [] = []
without_layer id (t ∷ ts) = if is_id_of id t then ts else t ∷ without_layer id ts

-- a layer is put before another, or last where no layer has that id
abbrev pub layer_before : List ℕ → Tree → List Tree → List Tree
layer_before id layer [] = layer ∷ []
layer_before id layer (t ∷ ts) = if is_id_of id t then layer ∷ t ∷ ts else t ∷ layer_before id layer ts

-- a layer is put before another, or last
abbrev pub with_layer : Option (List ℕ) → Tree → List Tree → List Tree
with_layer (Some id) layer ts = layer_before id layer ts
with_layer None layer ts = ts ++ layer ∷ []

-- ---- a layer that is moved

abbrev pub is_itself : List ℕ → Option (List ℕ) → Bool
is_itself id (Some before) = bytes_eq id before
is_itself id None = false

abbrev pub moved_if_there : Option Tree → List ℕ → Option (List ℕ) → List Tree → List Tree
moved_if_there (Some layer) id before ts = with_layer before layer (without_layer id ts)
moved_if_there None id before ts = ts

-- one layer is moved before another, or to the end; before itself it stays
abbrev pub moved_layer : List ℕ → Option (List ℕ) → List Tree → List Tree
moved_layer id before ts = if is_itself id before then ts else moved_if_there (layer_named id ts) id before ts
