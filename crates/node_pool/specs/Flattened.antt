-- Boxed nodes as they are put into a list.
use Rattle.std.specs.Prelude.{◌≡◌, ℕ, ◌+◌, List, [], ◌∷◌, ◌++◌, length, take, drop, Bool, true, ◌&&◌}
use Rattle.expr_nodes.specs.Node.{Node}
use Rattle.node_pool.specs.Pooled.{node_by, pooled_nodes, follows, are_ordered}
use Rattle.node_pool.specs.declared.pooled_node.PooledNode.{PooledNode}

-- each by the same nodes
abbrev pub each_by : List PooledNode → List Node → List Node
each_by [] ns = []
each_by (p ∷ ps) ns = node_by p ns ∷ each_by ps ns

abbrev pub all_follow : List PooledNode → ℕ → Bool
all_follow [] k = true
all_follow (p ∷ ps) k = follows p k && all_follow ps k

-- A node whose arguments were put after those of a list that is there.
pub record IsFlattened (made : PooledNode) (n : Node) (old new : List PooledNode) : Type 0 where
  pub ordered : are_ordered 0 new ≡ true
  pub kept : take (length old) new ≡ old
  pub after : follows made (length new) ≡ true
  pub node : node_by made (pooled_nodes new) ≡ n

-- Nodes that were put side by side at the end, from a number on.
pub record AreSideBySide (first : ℕ) (ns : List Node) (old new : List PooledNode) : Type 0 where
  pub ordered : are_ordered 0 new ≡ true
  pub kept : take (length old) new ≡ old
  pub counted : first + length ns ≡ length new
  pub nodes : drop first (pooled_nodes new) ≡ ns

-- The nodes of an expression: the bindings and the root are at the end, from a number on.
pub record IsBlock (first : ℕ) (root : Node) (bindings : List Node) (block : List PooledNode) : Type 0 where
  pub ordered : are_ordered 0 block ≡ true
  pub counted : first + length bindings + 1 ≡ length block
  pub nodes : drop first (pooled_nodes block) ≡ bindings ++ root ∷ []
