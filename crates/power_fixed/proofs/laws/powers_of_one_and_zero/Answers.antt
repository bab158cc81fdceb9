use Rattle.power_fixed.proofs.FixedBases.{power_zero, power_one}
use Rattle.power_fixed.proofs.laws.powers_of_one_and_zero.Goals as goal

pub returns-clause-zero : goal.returns-clause-zero
returns-clause-zero c = power_zero

pub returns-clause-one : goal.returns-clause-one
returns-clause-one c = power_one
