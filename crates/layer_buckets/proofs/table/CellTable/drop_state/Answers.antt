use Rattle.std.proofs.Common.{◌∙◌, sym, arith}
use Rattle.std.specs.List.{slice_get}
use Rattle.layer_buckets.proofs.Listings.{not_some}
use Rattle.layer_buckets.proofs.ItemLaws.{state_dropped, state_missing, state_known}
use Rattle.layer_buckets.proofs.table.CellTable.drop_state.Goals as goal

pub drop_list-requires-clause-there : goal.drop_list-requires-clause-there
drop_list-requires-clause-there c =
    let t = c.args.self.now in
    let known = state_known (slice_get t.layers.items c.args.layer) c.args.feature c.in-Some.list (sym c.state_list.ensures ∙ c.in-Some.is) in
    let within = known.0 in
    let number = known.1 in
    omega (arith, c.requires.laid.ends c.args.layer, c.requires.cells.counted.states.lists)

pub returns-in-Some-clause-dropped : goal.returns-in-Some-clause-dropped
returns-in-Some-clause-dropped c =
    state_dropped c.args.self.now c.drop_list.new.self c.requires c.args.layer c.args.feature c.in-Some.list (sym c.state_list.ensures ∙ c.in-Some.is) c.drop_list.ensures.dropped

pub returns-in_default-clause-dropped : goal.returns-in_default-clause-dropped
returns-in_default-clause-dropped c =
    state_missing c.args.self.now c.requires c.args.layer c.args.feature (sym c.state_list.ensures ∙ not_some c.state_list.result c.in_default.not-Some)
