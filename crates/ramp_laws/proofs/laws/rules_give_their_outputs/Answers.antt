use Rattle.ramp_laws.proofs.FunctionStops.{rules_give}
use Rattle.ramp_laws.proofs.laws.rules_give_their_outputs.Goals as goal

pub returns : goal.returns
returns c = rules_give
