use Rattle.std.specs.Prelude.{true}
use Rattle.std.proofs.Common.{◌≡◌, ◌+◌, ◌<◌, ◌∙◌, List, length, ap, sym, subst, refl, arith, Some}
use Rattle.node_pool.specs.Pooled.{last_node, are_ordered}
use Rattle.node_pool.specs.declared.pooled_node.PooledNode.{PooledNode}
use Rattle.node_pool.proofs.PoolLaws.{binding_is, bindings_count, front_is}
use Rattle.node_pool.proofs.block.PoolBindingsBindingsPoolNode.binding.Goals as goal

pub up_to-requires : goal.up_to-requires
up_to-requires c =
    let s = c.args.self.now in
    let n = bindings_count s.nodes.now s.first s.count s.within in
    omega (arith, c.requires, s.within)

pub invariant_of-result : goal.invariant_of-result
invariant_of-result c =
    let s = c.args.self.now in
    let number = s.first + c.args.slot in
    let n = bindings_count s.nodes.now s.first s.count s.within in
    let h : number < length s.nodes.now = omega (arith, c.requires, s.within) in
    let front = front_is s.nodes.now number h s.ordered in
    let P : List PooledNode → Type 0 = λ x. are_ordered 0 x ≡ true in
    let Q : List PooledNode → Type 0 = λ x. 0 < length x in
    record {
      ordered = subst P (sym c.up_to.ensures) front.0;
      some = subst Q (sym c.up_to.ensures) front.1;
    }

pub returns : goal.returns
returns c =
    let s = c.args.self.now in
    let slot = c.args.slot in
    let n = bindings_count s.nodes.now s.first s.count s.within in
    binding_is s.nodes.now s.first s.count slot (s.first + slot) s.within (omega (arith, c.requires, n)) refl
    ∙ ap (λ x. Some (last_node x)) (sym c.up_to.ensures)
