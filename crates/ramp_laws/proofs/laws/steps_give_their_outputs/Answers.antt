use Rattle.ramp_laws.proofs.RampStops.{steps_give}
use Rattle.ramp_laws.proofs.laws.steps_give_their_outputs.Goals as goal

pub returns : goal.returns
returns c = steps_give
