use Rattle.script_laws.proofs.LineLaws.{refused_lines_count_for_nothing}
use Rattle.script_laws.proofs.laws.refused_lines_count_for_nothing.Goals as goal

pub returns : goal.returns
returns c = refused_lines_count_for_nothing
