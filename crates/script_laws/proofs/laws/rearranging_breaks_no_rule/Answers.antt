use Rattle.script_laws.proofs.RearrangingLaws.{rearranging_breaks_no_rule}
use Rattle.script_laws.proofs.laws.rearranging_breaks_no_rule.Goals as goal

pub returns : goal.returns
returns c = rearranging_breaks_no_rule
