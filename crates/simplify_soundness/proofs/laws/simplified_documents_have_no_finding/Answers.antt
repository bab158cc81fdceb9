use Rattle.simplify_soundness.proofs.SimplifiedDocuments.{have_no_finding}
use Rattle.simplify_soundness.proofs.laws.simplified_documents_have_no_finding.Goals as goal

pub returns : goal.returns
returns c = have_no_finding c.findings_go_by_levels.ensures
