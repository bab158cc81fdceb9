use Rattle.std.proofs.Common.{◌+◌, ◌/◌, arith}
use Rattle.power_fixed.proofs.NewtonSteps.{start_above, start_small, start_some, step_above, step_some}
use Rattle.power_fixed.proofs.roots.short_root.Goals as goal

pub loop-root-init : goal.loop-root-init
loop-root-init c = rw c.pow-root.ensures (record {
  some = start_some c.ilog2.result;
  small = start_small c.ilog2.result c.ilog2.ensures.bound;
  above = start_above c.args.n c.ilog2.result c.ilog2.ensures.next_power_gt;
})

pub loop-root-preserved : goal.loop-root-preserved
loop-root-preserved c =
    let above = step_above c.args.n c.loop-root.root ((c.loop-root.root + c.args.n / c.loop-root.root) / 2) (omega arith) (omega arith) in
    record {
      some = step_some c.args.n ((c.loop-root.root + c.args.n / c.loop-root.root) / 2) c.requires above;
      small = omega arith;
      above = above;
    }
