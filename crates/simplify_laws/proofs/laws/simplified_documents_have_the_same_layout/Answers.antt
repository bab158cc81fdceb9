use Rattle.simplify_laws.proofs.SameDocuments.{layouts_are_the_same}
use Rattle.simplify_laws.proofs.laws.simplified_documents_have_the_same_layout.Goals as goal

pub returns : goal.returns
returns c = layouts_are_the_same c.simplified_documents_have_the_same_layers.ensures
