use Rattle.power_fixed.proofs.WholePowers.{whole_zero, whole_double, whole_double_one}
use Rattle.power_fixed.proofs.laws.whole_powers_square.Goals as goal

pub returns-clause-zero : goal.returns-clause-zero
returns-clause-zero c = whole_zero

pub returns-clause-even : goal.returns-clause-even
returns-clause-even c = whole_double

pub returns-clause-odd : goal.returns-clause-odd
returns-clause-odd c = whole_double_one
