-- The document after an edit was taken back.
use Rattle.std.specs.Prelude.{◌≡◌, ◌<◌, ◌≤◌, List, length, insert, remove, slice_set, Bool, true, false}
use Rattle.decimal_json.specs.View.{moved_items, tree_of}
use Rattle.decimal_json.specs.Tree.{Tree}
use Rattle.style_edits.specs.Layers.{layer_list, with_layers}
use Rattle.style_edits.specs.declared.undo.Undo.{Undo}
use Rattle.style_edits.specs.declared.undo.Undo.TheVariants.{Nothing, Changed, Added, Removed, Moved}

-- the layers before an edit, from those after it
abbrev pub undone_layers : Undo → List Tree → List Tree
undone_layers Nothing ts = ts
undone_layers (Changed place layer) ts = slice_set ts place (tree_of layer)
undone_layers (Added place) ts = remove ts place
undone_layers (Removed place layer) ts = insert ts place (tree_of layer)
undone_layers (Moved from to) ts = moved_items to from ts

abbrev pub undone : Undo → Tree → Tree
undone undo document = with_layers (undone_layers undo) document

-- the places of an undo are those of layers
abbrev pub IsWithin : Undo → List Tree → Type 0
IsWithin Nothing ts = Unit {0}
IsWithin (Changed place layer) ts = place < length ts
IsWithin (Added place) ts = place < length ts
IsWithin (Removed place layer) ts = place ≤ length ts
IsWithin (Moved from to) ts = (from < length ts) × (to < length ts)

-- What takes an edit back: in the document after the edit it gives the one before. Source: own.
abbrev pub IsUndo : Undo → Tree → Tree → Type 0
IsUndo undo before after = IsWithin undo (layer_list after) × (undone undo after ≡ before)

-- it takes back neither a change of a layer nor a layer that was added
abbrev pub adds_nothing : Undo → Bool
adds_nothing (Changed place layer) = false
adds_nothing (Added place) = false
adds_nothing _ = true

-- it puts a layer back that was taken away
abbrev pub restores_layer : Undo → Bool
restores_layer (Removed place layer) = true
restores_layer _ = false
