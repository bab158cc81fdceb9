use Rattle.typing_laws.proofs.CheckLaws.{free_expressions}
use Rattle.typing_laws.proofs.laws.free_expressions_keep_the_laws.Goals as goal

pub returns : goal.returns
returns c = free_expressions
