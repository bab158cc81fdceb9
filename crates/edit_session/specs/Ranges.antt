-- Ranges of zooms that are still to be set in the document of a session. Source: own.
use Rattle.std.specs.Prelude.{List, [], ◌∷◌, Bool, true, false, Option, Some, None}
use Rattle.decimal_json.specs.Tree.{Tree}
use Rattle.pending_ranges.specs.Pending.{Pending, ZoomRange}
use Rattle.edit_script.specs.Edit as edits
use Rattle.edit_script.specs.Edit.{Edit}
use Rattle.style_edits.specs.Layer.{with_range}
use Rattle.style_edits.specs.Layers.{with_layers}

-- a layer with the range that is to be set of it, if there is one
abbrev pub ranged_layer : Option ZoomRange → Tree → Tree
ranged_layer (Some range) t = with_range range.0 range.1 t
ranged_layer None t = t

abbrev pub ranged_layers : Pending → List Tree → List Tree
ranged_layers [] ts = ts
ranged_layers (range ∷ slots) [] = []
ranged_layers (range ∷ slots) (t ∷ ts) = ranged_layer range t ∷ ranged_layers slots ts

-- a document with the ranges that are to be set of its layers
abbrev pub ranged_document : Pending → Tree → Tree
ranged_document slots document = with_layers (ranged_layers slots) document

-- ---- edits that let the ranges be

-- The commands before which no range has to be set in the document: they ask nothing of it, or layers go and move, each
-- with the range that is to be set of it.
abbrev pub lets_ranges_be : Edit → Bool
lets_ranges_be edits.stats = true
lets_ranges_be (edits.set_zoom zoom) = true
lets_ranges_be (edits.remove_state source layer id key) = true
lets_ranges_be (edits.add_image name) = true
lets_ranges_be (edits.remove_image name) = true
lets_ranges_be (edits.remove_layer id) = true
lets_ranges_be (edits.move_layer id before) = true
lets_ranges_be _ = false
