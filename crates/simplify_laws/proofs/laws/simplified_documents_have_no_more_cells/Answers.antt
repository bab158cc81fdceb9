use Rattle.simplify_laws.proofs.SameDocuments.{cells_are_no_more}
use Rattle.simplify_laws.proofs.laws.simplified_documents_have_no_more_cells.Goals as goal

pub returns : goal.returns
returns c = cells_are_no_more c.simplified_documents_have_the_same_layers.ensures
