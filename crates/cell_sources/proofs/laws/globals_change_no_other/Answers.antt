use Rattle.cell_sources.proofs.SameExpressions.{globals_change}
use Rattle.cell_sources.proofs.laws.globals_change_no_other.Goals as goal

pub returns : goal.returns
returns c = globals_change c.global_values_change_no_form.ensures
