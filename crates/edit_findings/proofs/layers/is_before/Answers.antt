use Rattle.std.proofs.Common.{sym, ◌∙◌}
use Rattle.edit_findings.proofs.AgreeLaws.{used_first, used_never}
use Rattle.edit_findings.proofs.layers.is_before.Goals as goal

pub returns-in-Some : goal.returns-in-Some
returns-in-Some c = λ ts id h. used_first ts c.args.place id c.in-Some.first (sym c.in-Some.is ∙ h)

pub returns-in-None : goal.returns-in-None
returns-in-None c = λ ts id h. used_never ts c.args.place id (sym c.in-None.is ∙ h)
