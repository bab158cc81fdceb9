use Rattle.script_laws.proofs.RearrangingLaws.{possible_rearranging_is_accepted}
use Rattle.script_laws.proofs.laws.possible_rearranging_is_accepted.Goals as goal

pub returns : goal.returns
returns c = possible_rearranging_is_accepted
