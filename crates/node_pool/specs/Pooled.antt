-- Nodes side by side in a list, each by those before it: the arguments of a node are a range of numbers.
use Rattle.std.specs.Prelude.{◌+◌, ◌-◌, ◌∷◌, ◌++◌, ◌&&◌}
use Rattle.std.specs.Prelude.{ℕ, List, [], length, take, drop, Bool, true, nat_le, Option, Some, None, Ok, Err}
use Rattle.std.specs.List.{slice_get}
use Rattle.prop_values.specs.declared.fault.EvalFault.TheVariants.{WrongType}
use Rattle.expr_nodes.specs.Node.{Node, constant, asked, property, inner, children_of}
use Rattle.node_pool.specs.declared.pooled_node.PooledNode.{PooledNode}
use Rattle.node_pool.specs.declared.pooled_node.PooledNode.TheVariants.{Constant, Faulty, Asked, Property, Inner}

-- so many nodes, from that of a number on
abbrev pub nodes_from : List Node → ℕ → ℕ → List Node
nodes_from ns first count = take count (drop first ns)

-- the number of the first argument, and how many there are
abbrev pub argument_range : PooledNode → ℕ × ℕ
argument_range (Inner op want first count) = (first, count)
argument_range _ = (0, 0)

-- a node, by those before it
abbrev pub node_by : PooledNode → List Node → Node
node_by (Constant literal) ns = constant (Ok literal)
node_by (Faulty fault) ns = constant (Err fault)
node_by (Asked slot want) ns = asked slot want
node_by (Property key want) ns = property key want
node_by (Inner op want first count) ns = inner op want (children_of (nodes_from ns first count))

-- the nodes of a list, after others
abbrev pub nodes_after : List Node → List PooledNode → List Node
nodes_after ns [] = ns
nodes_after ns (p ∷ ps) = nodes_after (ns ++ node_by p ns ∷ []) ps

abbrev pub pooled_nodes : List PooledNode → List Node
pooled_nodes ps = nodes_after [] ps

abbrev pub node_in : Option Node → Node
node_in (Some n) = n
node_in None = constant (Err WrongType)

abbrev pub last_node : List PooledNode → Node
last_node ps = node_in (slice_get (pooled_nodes ps) (length ps - 1))

-- the arguments of a node have smaller numbers than the node
abbrev pub follows : PooledNode → ℕ → Bool
follows p k = nat_le ((argument_range p).0 + (argument_range p).1) k

-- those of all nodes, the first of which has a number
abbrev pub are_ordered : ℕ → List PooledNode → Bool
are_ordered k [] = true
are_ordered k (p ∷ ps) = follows p k && are_ordered (k + 1) ps
