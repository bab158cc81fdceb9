use Rattle.asked_laws.proofs.LayerCells.{layers_ask_once}
use Rattle.asked_laws.proofs.laws.layers_ask_no_cell_twice.Goals as goal

pub returns : goal.returns
returns c = layers_ask_once
