use Rattle.cell_sources.proofs.CellsAlike.{filters_decided}
use Rattle.cell_sources.proofs.laws.filters_are_decided.Goals as goal

pub returns : goal.returns
returns c = filters_decided c.agreeing_worlds_give_one_meaning.ensures c.expressions_decide_filters.ensures
