use Rattle.script_laws.proofs.KeptLaws.{what_is_kept_changes_no_script}
use Rattle.script_laws.proofs.laws.what_is_kept_changes_no_script.Goals as goal

pub returns : goal.returns
returns c = what_is_kept_changes_no_script
