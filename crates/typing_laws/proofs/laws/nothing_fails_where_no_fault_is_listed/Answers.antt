use Rattle.typing_laws.proofs.TermLaws.{no_fault_is_given}
use Rattle.typing_laws.proofs.laws.nothing_fails_where_no_fault_is_listed.Goals as goal

pub returns : goal.returns
returns c = no_fault_is_given
