use Rattle.fixed_num.proofs.Signs.{floor_units}
use Rattle.fixed_num.proofs.laws.floor_is_just_below.Goals as goal

pub returns-clause-whole : goal.returns-clause-whole
returns-clause-whole c = floor_units
