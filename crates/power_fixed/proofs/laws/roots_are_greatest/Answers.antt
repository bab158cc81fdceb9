use Rattle.power_fixed.proofs.Squares.{root_of_is, root_of_only}
use Rattle.power_fixed.proofs.laws.roots_are_greatest.Goals as goal

pub returns-clause-is : goal.returns-clause-is
returns-clause-is c = root_of_is

pub returns-clause-only : goal.returns-clause-only
returns-clause-only c = root_of_only
