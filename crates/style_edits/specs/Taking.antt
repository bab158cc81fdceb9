-- Layers that are taken out of a document for an edit.
use Rattle.std.specs.Prelude.{◌≡◌, List, [], codes, Bool, true, false, Option, Some, None}
use Rattle.decimal_json.specs.Accessors.{member}
use Rattle.decimal_json.specs.Tree.{Tree, null, list, trees_of}
use Rattle.style_edits.specs.Layers.{layer_list, with_layers}
use Rattle.style_edits.specs.Objects.{object_replacing}

abbrev pub has_array : Option Tree → Bool
has_array (Some (list ts)) = true
has_array _ = false

-- a document has these layers
abbrev pub HasLayers : Tree → List Tree → Type 0
HasLayers document ts = member (codes "layers") document ≡ Some (list (trees_of ts))

-- The layers are taken, and a null is in their place; or there are none to change, and the document stays.
abbrev pub TakesLayers : Tree → Option (List Tree) → Tree → Type 0
TakesLayers before (Some ts) after = HasLayers before ts × (after ≡ object_replacing (codes "layers") null before)
TakesLayers before None after =
    ((change : List Tree → List Tree) → with_layers change before ≡ before)
    × (layer_list before ≡ [])
    × (after ≡ before)
