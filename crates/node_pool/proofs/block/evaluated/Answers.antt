use Rattle.std.specs.Prelude.{true}
use Rattle.std.proofs.Common.{◌≡◌, ◌+◌, ◌∙◌, List, length, ap, sym, subst, arith}
use Rattle.operator_values.specs.Evaluated.{GivesValue}
use Rattle.expr_nodes.specs.Evaluators.{sized_node}
use Rattle.expr_nodes.specs.Limits.{AsksBelow, AskEarlier}
use Rattle.expr_nodes.specs.Node.{size, total_size}
use Rattle.node_pool.specs.Pooled.{are_ordered}
use Rattle.node_pool.specs.Blocks.{bound_in}
use Rattle.node_pool.specs.declared.pooled_node.PooledNode.{PooledNode}
use Rattle.node_pool.proofs.BlockLaws.{block_length}
use Rattle.node_pool.proofs.block.evaluated.Goals as goal

pub invariant_of-bindings : goal.invariant_of-bindings
invariant_of-bindings g c =
    let e = c.args.expression.now in
    let P : List PooledNode → Type 0 = λ x. are_ordered 0 x ≡ true in
    let l = ap length c.block_of-block.ensures ∙ block_length c.args.nodes.now e c.requires.within in
    record { ordered = subst P (sym c.block_of-block.ensures) c.requires.ordered; within = omega (arith, l) }

pub evaluate-requires-clause-below : goal.evaluate-requires-clause-below
evaluate-requires-clause-below g c =
    let e = c.args.expression.now in
    let P : List PooledNode → Type 0 = λ x. AsksBelow (length (bound_in e x).1) (bound_in e x).0 in
    subst P (sym c.block_of-block.ensures) c.requires.evaluable.below

pub evaluate-requires-clause-earlier : goal.evaluate-requires-clause-earlier
evaluate-requires-clause-earlier g c =
    let e = c.args.expression.now in
    let P : List PooledNode → Type 0 = λ x. AskEarlier (bound_in e x).1 in
    subst P (sym c.block_of-block.ensures) c.requires.evaluable.earlier

pub returns-clause-meaning : goal.returns-clause-meaning
returns-clause-meaning g c =
    let e = c.args.expression.now in
    let world = g.W.WorldView.world c.args.world.now in
    let P : List PooledNode → Type 0 = λ x. GivesValue c.evaluate.result ((sized_node (bound_in e x)).0 world) in
    subst P c.block_of-block.ensures c.evaluate.ensures.meaning

pub returns-clause-most : goal.returns-clause-most
returns-clause-most g c =
    let e = c.args.expression.now in
    let s = ap (λ x. size (bound_in e x).0 + total_size (bound_in e x).1) c.block_of-block.ensures in
    omega (arith, c.evaluate.ensures.most, s, c.requires.evaluable.sized)
