use Rattle.ramp_laws.proofs.FunctionStops.{zoom_functions_give}
use Rattle.ramp_laws.proofs.laws.functions_give_their_rules.Goals as goal

pub returns : goal.returns
returns c = zoom_functions_give
