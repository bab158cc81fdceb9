use Rattle.std.proofs.Common.{arith}
use Rattle.interpolate_fixed.proofs.Counts.{counted_between}
use Rattle.interpolate_fixed.proofs.place.greatest_not_above.Goals as goal

-- some input is not above the value, and the last of these is the one before those above it
pub overflow_sub-result : goal.overflow_sub-result
overflow_sub-result c = omega (arith, (counted_between c.args.inputs.now c.args.value c.requires.ascending c.requires.some c.requires.first c.requires.last).0, c.step_place.ensures)

pub returns-clause-count : goal.returns-clause-count
returns-clause-count c = omega (arith, (counted_between c.args.inputs.now c.args.value c.requires.ascending c.requires.some c.requires.first c.requires.last).0, c.step_place.ensures)

pub returns-clause-between : goal.returns-clause-between
returns-clause-between c = rw c.step_place.ensures (counted_between c.args.inputs.now c.args.value c.requires.ascending c.requires.some c.requires.first c.requires.last).1
