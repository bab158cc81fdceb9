-- The document after an edit.
use Rattle.std.specs.Prelude.{List, codes}
use Rattle.decimal_json.specs.Tree.{Tree}
use Rattle.edit_script.specs.Edit.{Edit, set_paint, set_layout, set_filter, set_range, add_layer, remove_layer}
use Rattle.edit_script.specs.Edit.{move_layer}
use Rattle.style_edits.specs.Layer.{with_property, with_filter, with_range}
use Rattle.style_edits.specs.Layers.{with_layers, changed_layer, without_layer, with_layer, moved_layer}

-- The layers after an edit. Those that are not named here concern what is kept beside the document. Source: own.
abbrev pub edited_layers : Edit → List Tree → List Tree
edited_layers (set_paint layer name value) ts = changed_layer layer (with_property (codes "paint") name value) ts
edited_layers (set_layout layer name value) ts = changed_layer layer (with_property (codes "layout") name value) ts
edited_layers (set_filter layer filter) ts = changed_layer layer (with_filter filter) ts
edited_layers (set_range layer min max) ts = changed_layer layer (with_range min max) ts
edited_layers (add_layer layer before) ts = with_layer before layer ts
edited_layers (remove_layer id) ts = without_layer id ts
edited_layers (move_layer id before) ts = moved_layer id before ts
edited_layers _ ts = ts

-- The document after an edit that has no fault. Source: own.
abbrev pub edited : Tree → Edit → Tree
edited document edit = with_layers (edited_layers edit) document
