use Rattle.form_pool.specs.PoolSlots.{pool_slots}
use Rattle.kept_layers.specs.Holding.{HasLayer}
use Rattle.kept_layers.specs.View.{globals_in, tiles_in, trees_in}
use Rattle.kept_layers.proofs.Lists.{pairs_lengths}
use Rattle.kept_layers.proofs.TidyLaws.{all_tidy}
use Rattle.kept_layers.proofs.kept_layers.KeptLayers.tidy.Goals as goal

pub put_anew-requires-clause-counted : goal.put_anew-requires-clause-counted
put_anew-requires-clause-counted c =
    pairs_lengths (HasLayer pool_slots (tiles_in c.args.style.now) (globals_in c.args.style.now) c.args.self.now.cells.buckets) _ _ c.requires.holds

pub returns : goal.returns
returns c =
    let s = c.args.style.now in
    let e = c.in_ok-put_anew.ensures in
    all_tidy pool_slots (tiles_in s) (globals_in s) (trees_in s) c.args.self.now _ e.numbers e.reads e.states e.sound e.sources c.requires.numbered c.requires.holds
    e.renewed
