-- Which edit a value of the program is.
use Rattle.std.specs.Prelude.{Result, Ok, Err}
use Rattle.decimal_json.specs.View.{tree_of}
use Rattle.prop_values.specs.Data.{pairs_of}
use Rattle.prop_values.specs.View.{data_of}
use Rattle.edit_script.specs.declared.command.Command.{Command}
use Rattle.edit_script.specs.declared.command.Command.TheVariants.{SetPaint, SetLayout, SetFilter, SetRange, AddLayer}
use Rattle.edit_script.specs.declared.command.Command.TheVariants.{RemoveLayer, MoveLayer, SetZoom, SetState}
use Rattle.edit_script.specs.declared.command.Command.TheVariants.{RemoveState, AddImage, RemoveImage, SetGlobal, List}
use Rattle.edit_script.specs.declared.command.Command.TheVariants.{Stats, Style}
use Rattle.edit_script.specs.declared.command.LineFault.{LineFault}
use Rattle.edit_script.specs.Edit.{Edit, set_paint, set_layout, set_filter, set_range, add_layer, remove_layer}
use Rattle.edit_script.specs.Edit.{move_layer, set_zoom, set_state, remove_state, add_image, remove_image, set_global}
use Rattle.edit_script.specs.Edit.{list, stats, style}

-- The edit of a command: each variant is the edit of its name. Source: own.
abbrev pub command_seen : Command → Edit
command_seen (SetPaint layer name value) = set_paint layer name (tree_of value)
command_seen (SetLayout layer name value) = set_layout layer name (tree_of value)
command_seen (SetFilter layer filter) = set_filter layer (tree_of filter)
command_seen (SetRange layer min max) = set_range layer min max
command_seen (AddLayer object before) = add_layer (tree_of object) before
command_seen (RemoveLayer id) = remove_layer id
command_seen (MoveLayer id before) = move_layer id before
command_seen (SetZoom zoom) = set_zoom zoom
command_seen (SetState source layer id members) = set_state source layer id (pairs_of members)
command_seen (RemoveState source layer id key) = remove_state source layer id key
command_seen (AddImage name) = add_image name
command_seen (RemoveImage name) = remove_image name
command_seen (SetGlobal name value) = set_global name (data_of value)
command_seen List = list
command_seen Stats = stats
command_seen Style = style

-- what was read, where it is seen by f
abbrev pub seen_by : {A B : Type 0} → (A → B) → Result A LineFault → Result B LineFault
seen_by f (Ok a) = Ok (f a)
seen_by f (Err fault) = Err fault

-- The edit that was read, or the fault. Source: own.
abbrev pub read_seen : Result Command LineFault → Result Edit LineFault
read_seen read = seen_by command_seen read
