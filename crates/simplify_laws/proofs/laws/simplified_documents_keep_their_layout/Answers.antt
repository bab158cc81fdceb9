use Rattle.simplify_laws.proofs.SameDocuments.{layouts_are_kept}
use Rattle.simplify_laws.proofs.laws.simplified_documents_keep_their_layout.Goals as goal

pub returns : goal.returns
returns c = layouts_are_kept c.simplified_documents_have_the_same_layers.ensures
