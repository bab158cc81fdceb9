-- The parts of a style document. A part that is missing or has another form is none, or has no items.
-- Source: own.
use Rattle.std.specs.Prelude.{ℕ, zero, suc, List, codes, Bool, false, Option, Some, None}
use Rattle.std.specs.List.{list_any}
use Rattle.std.specs.Option.{option_and_then}
use Rattle.std.specs.Str.{bytes_eq}
use Rattle.decimal_json.specs.Accessors.{fields_in, member, text_at, trees_in}
use Rattle.decimal_json.specs.Tree.{Tree, Trees, no_trees, tree, Fields}

-- one of these is the text that may be there
abbrev pub is_among : List (List ℕ) → Option (List ℕ) → Bool
is_among names (Some s) = list_any (bytes_eq s) names
is_among names None = false

-- ---- sources

abbrev pub sources_of : Tree → Option Fields
sources_of document = option_and_then fields_in (member (codes "sources") document)

-- the source of a name
abbrev pub source_at : Tree → List ℕ → Option Tree
source_at document name = option_and_then (member name) (member (codes "sources") document)

-- ---- layers

abbrev pub layers_of : Tree → Trees
layers_of document = trees_in (member (codes "layers") document)

-- a layer by its place, counted from 0
abbrev pub layer_at : ℕ → Trees → Option Tree
layer_at i no_trees = None
layer_at zero (tree t ts) = Some t
layer_at (suc i) (tree t ts) = layer_at i ts

-- the key of the layers
abbrev pub is_layers : List ℕ → Bool
is_layers key = bytes_eq key (codes "layers")

-- an id that may be there is this one
abbrev pub equals_id : List ℕ → Option (List ℕ) → Bool
equals_id id (Some own) = bytes_eq own id
equals_id id None = false

-- a layer has this text as its id
abbrev pub is_id_of : List ℕ → Tree → Bool
is_id_of id layer = equals_id id (text_at (codes "id") layer)
