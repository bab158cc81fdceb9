use Rattle.reading_laws.proofs.GlobalUses.{fixed_use_none}
use Rattle.reading_laws.proofs.laws.fixed_expressions_use_no_globals.Goals as goal

pub returns : goal.returns
returns c = fixed_use_none
