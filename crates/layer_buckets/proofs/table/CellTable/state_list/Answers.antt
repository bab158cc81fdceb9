use Rattle.std.proofs.Common.{◌+◌, ◌<◌, List, sym, subst, arith}
use Rattle.std.specs.List.{slice_get}
use Rattle.layer_buckets.specs.LaidOut.{first_state_in, states_in}
use Rattle.layer_buckets.specs.declared.layers.LayerColumns.{LayerColumns}
use Rattle.layer_buckets.proofs.table.CellTable.state_list.Goals as goal

pub state_list_of-requires : goal.state_list_of-requires
state_list_of-requires c =
    let l = c.args.layer in
    let P : List LayerColumns → Type 0 = λ ls. first_state_in (slice_get ls l) + states_in (slice_get ls l) < 4294967296 in
    subst P (sym c.deref.ensures.value) (omega (arith, c.requires.laid.ends l, c.requires.laid.small))
