-- What an edit needs, for what is promised when an allocation fails.
use Rattle.std.specs.Prelude.{Bool, true, false}
use Rattle.edit_script.specs.Edit.{Edit, set_paint, set_layout, set_filter, set_range, add_layer, remove_layer}

-- it puts something into a layer, or a layer into the document
abbrev pub takes_memory : Edit → Bool
takes_memory (set_paint layer name value) = true
takes_memory (set_layout layer name value) = true
takes_memory (set_filter layer filter) = true
takes_memory (set_range layer min max) = true
takes_memory (add_layer layer before) = true
takes_memory _ = false

-- it takes a layer away
abbrev pub removes_layer : Edit → Bool
removes_layer (remove_layer id) = true
removes_layer _ = false
