use Rattle.style_laws.proofs.NotedValues.{noted_are_outside}
use Rattle.style_laws.proofs.laws.noted_values_are_outside.Goals as goal

pub returns : goal.returns
returns c = noted_are_outside c.global_values_change_no_form.ensures c.findings_go_by_levels.ensures
