use Rattle.interpolate_fixed.proofs.LineLaws.{line_up, line_down, line_start}
use Rattle.interpolate_fixed.proofs.laws.lines_lie_between_their_ends.Goals as goal

pub returns-clause-up : goal.returns-clause-up
returns-clause-up c = line_up

pub returns-clause-down : goal.returns-clause-down
returns-clause-down c = line_down

pub returns-clause-start : goal.returns-clause-start
returns-clause-start c = line_start
