use Rattle.asked_laws.proofs.LayerCells.{evaluations_are_counted}
use Rattle.asked_laws.proofs.laws.evaluations_count_new_cells.Goals as goal

pub returns : goal.returns
returns c = evaluations_are_counted
