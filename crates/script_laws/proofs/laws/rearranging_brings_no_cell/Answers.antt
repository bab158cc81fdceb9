use Rattle.script_laws.proofs.EditLaws.{rearranging_brings_no_cell}
use Rattle.script_laws.proofs.laws.rearranging_brings_no_cell.Goals as goal

pub returns : goal.returns
returns c = rearranging_brings_no_cell
