use Rattle.simplify_laws.proofs.SimplifiedParts.{globals_kept}
use Rattle.simplify_laws.proofs.laws.simplified_documents_give_the_same_globals.Goals as goal

pub returns : goal.returns
returns c = globals_kept
