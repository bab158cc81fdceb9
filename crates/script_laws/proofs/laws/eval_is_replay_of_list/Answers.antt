use Rattle.script_laws.proofs.ListLaws.{eval_is_replay_of_list}
use Rattle.script_laws.proofs.laws.eval_is_replay_of_list.Goals as goal

pub returns : goal.returns
returns c = eval_is_replay_of_list
