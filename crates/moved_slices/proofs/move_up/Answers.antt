use Rattle.std.proofs.Common.{◌+◌, ◌-◌, sym, subst}
use Rattle.moved_slices.specs.Moved.{IsMoved}
use Rattle.moved_slices.proofs.MoveLaws.{moved_up, put_part}
use Rattle.moved_slices.proofs.move_up.Goals as goal

pub returns-clause-moved : goal.returns-clause-moved
returns-clause-moved g c = subst (λ ys. IsMoved c.args.from c.args.to c.args.items.now (put_part c.args.from (c.args.to + 1 - c.args.from) c.args.items.now ys))
    (sym c.rotate_left.ensures.after) (moved_up c.args.items.now c.args.from c.args.to c.requires.order c.requires.to)
