use Rattle.std.specs.Prelude.{true}
use Rattle.std.proofs.Common.{◌≡◌, ◌+◌, ◌<◌, ◌∙◌, List, length, ap, sym, subst, arith, Some}
use Rattle.node_pool.specs.Pooled.{last_node, are_ordered}
use Rattle.node_pool.specs.declared.pooled_node.PooledNode.{PooledNode}
use Rattle.node_pool.proofs.PoolLaws.{last_child, last_count, arguments_before, front_is}
use Rattle.node_pool.proofs.block.PoolNodeNodeHandle.child.Goals as goal

pub overflow_add-first : goal.overflow_add-first
overflow_add-first c =
    let s = c.args.self.now in
    let p = c.last_of.result.now in
    let n = last_count s.nodes.now p s.ordered c.last_of.ensures in
    let b = arguments_before s.nodes.now p s.ordered c.last_of.ensures in
    let f = ap (λ r. r.0) c.argument_range-first.ensures in
    omega (arith, c.requires, s.some)

pub up_to-requires : goal.up_to-requires
up_to-requires c =
    let s = c.args.self.now in
    let p = c.last_of.result.now in
    let n = last_count s.nodes.now p s.ordered c.last_of.ensures in
    let b = arguments_before s.nodes.now p s.ordered c.last_of.ensures in
    let f = ap (λ r. r.0) c.argument_range-first.ensures in
    omega (arith, c.requires, s.some)

pub invariant_of-result : goal.invariant_of-result
invariant_of-result c =
    let s = c.args.self.now in
    let p = c.last_of.result.now in
    let number = c.argument_range-first.result.0 + c.args.place in
    let n = last_count s.nodes.now p s.ordered c.last_of.ensures in
    let b = arguments_before s.nodes.now p s.ordered c.last_of.ensures in
    let f = ap (λ r. r.0) c.argument_range-first.ensures in
    let h : number < length s.nodes.now = omega (arith, c.requires, s.some) in
    let front = front_is s.nodes.now number h s.ordered in
    let P : List PooledNode → Type 0 = λ x. are_ordered 0 x ≡ true in
    let Q : List PooledNode → Type 0 = λ x. 0 < length x in
    record {
      ordered = subst P (sym c.up_to.ensures) front.0;
      some = subst Q (sym c.up_to.ensures) front.1;
    }

pub returns : goal.returns
returns c =
    let s = c.args.self.now in
    let p = c.last_of.result.now in
    let place = c.args.place in
    let number = c.argument_range-first.result.0 + place in
    let n = last_count s.nodes.now p s.ordered c.last_of.ensures in
    let f = ap (λ r. r.0 + place) c.argument_range-first.ensures in
    last_child s.nodes.now p place number s.ordered c.last_of.ensures (omega (arith, n, c.requires)) f
    ∙ ap (λ x. Some (last_node x)) (sym c.up_to.ensures)
