use Rattle.ramp_laws.proofs.RampStops.{ramps_give}
use Rattle.ramp_laws.proofs.laws.ramps_give_their_outputs.Goals as goal

pub returns : goal.returns
returns c = ramps_give
