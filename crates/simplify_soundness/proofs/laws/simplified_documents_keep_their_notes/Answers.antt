use Rattle.simplify_soundness.proofs.SimplifiedDocuments.{keep_notes}
use Rattle.simplify_soundness.proofs.laws.simplified_documents_keep_their_notes.Goals as goal

pub returns : goal.returns
returns c = keep_notes c.findings_go_by_levels.ensures
