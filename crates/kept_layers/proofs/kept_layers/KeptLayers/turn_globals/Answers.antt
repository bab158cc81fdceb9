use Rattle.std.proofs.lemmas.Result.{on_ok_weaker}
use Rattle.form_pool.specs.PoolSlots.{pool_slots}
use Rattle.kept_layers.specs.Holding.{HasLayer}
use Rattle.kept_layers.specs.View.{globals_in, tiles_in, trees_in}
use Rattle.kept_layers.proofs.Lists.{pairs_lengths}
use Rattle.kept_layers.proofs.TidyLaws.{turned_tidy}
use Rattle.kept_layers.proofs.kept_layers.KeptLayers.turn_globals.Goals as goal

pub turn_layers-requires-clause-counted : goal.turn_layers-requires-clause-counted
turn_layers-requires-clause-counted c =
    let (before, held) = c.requires.holds in
    pairs_lengths (HasLayer pool_slots (tiles_in c.args.style.now) before c.args.self.now.cells.buckets) _ _ held

pub tidy-requires-clause-numbered : goal.tidy-requires-clause-numbered
tidy-requires-clause-numbered c =
    let (before, held) = c.requires.holds in
    (c.in_ok-turn_layers.ensures before held).numbered

pub tidy-requires-clause-holds : goal.tidy-requires-clause-holds
tidy-requires-clause-holds c =
    let (before, held) = c.requires.holds in
    (c.in_ok-turn_layers.ensures before held).holds

pub returns : goal.returns
returns c = λ before held.
    let style = c.args.style.now in
    on_ok_weaker c.tidy.result
    (turned_tidy pool_slots c.args.self.now c.turn_layers.new.self c.tidy.new.self (tiles_in style) before (globals_in style) (trees_in style)
    (c.in_ok-turn_layers.ensures before held))
    c.tidy.ensures
