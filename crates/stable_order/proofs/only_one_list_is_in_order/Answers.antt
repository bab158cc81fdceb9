use Rattle.stable_order.proofs.Lawful.{only_one_list}
use Rattle.stable_order.proofs.only_one_list_is_in_order.Goals as goal

pub returns : goal.returns
returns g c = only_one_list
