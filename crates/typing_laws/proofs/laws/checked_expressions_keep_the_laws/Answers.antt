use Rattle.typing_laws.proofs.CheckLaws.{checked_expressions}
use Rattle.typing_laws.proofs.laws.checked_expressions_keep_the_laws.Goals as goal

pub returns : goal.returns
returns c = checked_expressions
