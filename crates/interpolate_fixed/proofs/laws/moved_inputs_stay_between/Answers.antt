use Rattle.interpolate_fixed.proofs.MovedInputs.{warp_between, warp_input, warp_one}
use Rattle.interpolate_fixed.proofs.laws.moved_inputs_stay_between.Goals as goal

pub returns-clause-between : goal.returns-clause-between
returns-clause-between c = warp_between

pub returns-clause-inputs : goal.returns-clause-inputs
returns-clause-inputs c = warp_input

pub returns-clause-one : goal.returns-clause-one
returns-clause-one c = warp_one
