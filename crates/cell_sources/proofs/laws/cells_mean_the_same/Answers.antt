use Rattle.cell_sources.proofs.CellsAlike.{cells_alike}
use Rattle.cell_sources.proofs.laws.cells_mean_the_same.Goals as goal

pub returns : goal.returns
returns c = cells_alike c.agreeing_worlds_give_one_meaning.ensures
