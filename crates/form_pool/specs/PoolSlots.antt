-- What each number of a pool gives.
use Rattle.std.specs.Prelude.{List, map}
use Rattle.expr_nodes.specs.Evaluators.{Sized, sized_node}
use Rattle.form_pool.specs.Pooled.{sized_slot}
use Rattle.form_pool.specs.declared.form_pool.FormPool.{FormPool}

abbrev pub pool_slots : FormPool → List Sized
pool_slots pool = map (sized_slot (map sized_node pool.nodes)) pool.slots.items
