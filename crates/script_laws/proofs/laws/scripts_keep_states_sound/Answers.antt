use Rattle.script_laws.proofs.EditLaws.{scripts_keep_states_sound}
use Rattle.script_laws.proofs.laws.scripts_keep_states_sound.Goals as goal

pub returns : goal.returns
returns c = scripts_keep_states_sound
