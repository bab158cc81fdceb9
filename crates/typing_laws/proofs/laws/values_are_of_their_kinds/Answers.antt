use Rattle.typing_laws.proofs.TermLaws.{every_value_is_of_its_kind}
use Rattle.typing_laws.proofs.laws.values_are_of_their_kinds.Goals as goal

pub returns : goal.returns
returns c = every_value_is_of_its_kind
