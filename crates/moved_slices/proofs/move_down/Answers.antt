use Rattle.std.proofs.Common.{◌+◌, ◌-◌, sym, subst}
use Rattle.moved_slices.specs.Moved.{IsMoved}
use Rattle.moved_slices.proofs.MoveLaws.{moved_down, put_part}
use Rattle.moved_slices.proofs.move_down.Goals as goal

pub returns-clause-moved : goal.returns-clause-moved
returns-clause-moved g c = subst (λ ys. IsMoved c.args.from c.args.to c.args.items.now (put_part c.args.to (c.args.from + 1 - c.args.to) c.args.items.now ys))
    (sym c.rotate_right.ensures.after) (moved_down c.args.items.now c.args.from c.args.to c.requires.order c.requires.from)
