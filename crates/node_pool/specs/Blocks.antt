-- The expressions of a pool. Each has its nodes in one block, and their numbers are those in the block.
use Rattle.std.specs.Prelude.{◌≡◌, ℕ, ◌+◌, ◌<◌, ◌≤◌, ◌⊎◌, List, [], ◌∷◌, map, length, take, drop, true, Some}
use Rattle.std.specs.List.{slice_get, flat_map}
use base.Stored.{Coded, coded_list}
use Rattle.expr_nodes.specs.Evaluators.{IsEvaluable}
use Rattle.expr_nodes.specs.NodeCode.{BoundNode, bound_node_code}
use Rattle.node_pool.specs.Pooled.{nodes_from, pooled_nodes, last_node, are_ordered}
use Rattle.node_pool.specs.declared.pooled_expression.PooledExpression.{PooledExpression}
use Rattle.node_pool.specs.declared.pooled_node.PooledNode.{PooledNode}

-- the bindings are before the root, and all other nodes before these
abbrev pub length_of : PooledExpression → ℕ
length_of e = e.first + e.bindings + 1

abbrev pub block_of : List PooledNode → PooledExpression → List PooledNode
block_of ps e = take (length_of e) (drop e.start ps)

abbrev pub bound_in : PooledExpression → List PooledNode → BoundNode
bound_in e block = (last_node block, nodes_from (pooled_nodes block) e.first e.bindings, e.nodes)

-- the node of an expression with its bindings, and how many nodes the expression has
abbrev pub bound_at : List PooledNode → PooledExpression → BoundNode
bound_at ps e = bound_in e (block_of ps e)

abbrev pub BoundNodes : Type 0
BoundNodes = List BoundNode

abbrev pub bound_nodes_code : Coded BoundNodes
bound_nodes_code = coded_list bound_node_code

abbrev pub bound_nodes : List PooledNode → List PooledExpression → BoundNodes
bound_nodes ps es = map (bound_at ps) es

-- ---- what is true of every pool

pub record IsHeld (ps : List PooledNode) (e : PooledExpression) : Type 0 where
  pub within : e.start + length_of e ≤ length ps
  pub ordered : are_ordered 0 (block_of ps e) ≡ true
  pub evaluable : IsEvaluable (bound_at ps e)

abbrev pub AreHeld : List PooledNode → List PooledExpression → Type 0
AreHeld ps es = (i : ℕ) (e : PooledExpression) → slice_get es i ≡ Some e → IsHeld ps e

-- no node is in two blocks
abbrev pub IsApart : PooledExpression → PooledExpression → Type 0
IsApart a b = (a.start + length_of a ≤ b.start) ⊎ (b.start + length_of b ≤ a.start)

abbrev pub AreApart : List PooledExpression → Type 0
AreApart es =
    (i j : ℕ) (a b : PooledExpression) → i < j → slice_get es i ≡ Some a → slice_get es j ≡ Some b → IsApart a b

abbrev pub total_length : List PooledExpression → ℕ
total_length [] = 0
total_length (e ∷ es) = length_of e + total_length es

-- each node is one of an expression, or unused
pub record IsSound (ps : List PooledNode) (es : List PooledExpression) (unused : ℕ) : Type 0 where
  pub held : AreHeld ps es
  pub apart : AreApart es
  pub counted : total_length es + unused ≡ length ps

-- An expression whose block was put at the end.
pub record IsAdded (e : PooledExpression) (bound : BoundNode) (old new : List PooledNode) : Type 0 where
  pub start : e.start ≡ length old
  pub counted : length old + length_of e ≡ length new
  pub kept : take (length old) new ≡ old
  pub ordered : are_ordered 0 (block_of new e) ≡ true
  pub is_bound : bound_at new e ≡ bound
  pub evaluable : IsEvaluable bound

-- ---- the blocks one after another, with nothing unused

abbrev pub begins_at : ℕ → PooledExpression → PooledExpression
begins_at start e = record e { start = start }

abbrev pub one_after_another : ℕ → List PooledExpression → List PooledExpression
one_after_another start [] = []
one_after_another start (e ∷ es) = begins_at start e ∷ one_after_another (start + length_of e) es

abbrev pub blocks_of : List PooledNode → List PooledExpression → List PooledNode
blocks_of ps es = flat_map (block_of ps) es
