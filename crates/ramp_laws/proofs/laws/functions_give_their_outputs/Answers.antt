use Rattle.ramp_laws.proofs.FunctionStops.{functions_give}
use Rattle.ramp_laws.proofs.laws.functions_give_their_outputs.Goals as goal

pub returns : goal.returns
returns c = functions_give
