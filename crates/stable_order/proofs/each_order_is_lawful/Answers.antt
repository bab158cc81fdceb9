use Rattle.stable_order.proofs.Lawful.{each_order_is_lawful}
use Rattle.stable_order.proofs.each_order_is_lawful.Goals as goal

pub returns : goal.returns
returns g c = each_order_is_lawful
