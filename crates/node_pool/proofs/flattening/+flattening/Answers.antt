use Rattle.std.proofs.Common.{rules, ℕ, ◌+◌, ◌*◌, ◌<◌, ◌∙◌, ◌++◌, length, sym, ap, subst, refl, arith}
use Rattle.std.proofs.lemmas.List.{take_all, nil_from_length}
use Rattle.std.specs.Vec.Iter.{into_iter_items}
use Rattle.expr_nodes.specs.Boxed.{boxed_node, boxed_nodes}
use Rattle.expr_nodes.specs.Node.{size, total_size}
use Rattle.expr_nodes.specs.declared.boxed_node.BoxedNode.{BoxedNode}
use Rattle.node_pool.specs.Pooled.{pooled_nodes}
use Rattle.node_pool.specs.Flattened.{each_by, all_follow, IsFlattened, AreSideBySide}
use Rattle.node_pool.specs.declared.pooled_node.PooledNode.TheVariants.{Constant, Faulty, Asked, Property, Inner}
use Rattle.node_pool.proofs.FlatLaws.{further, all_put, kept_again, flat_leaf, flat_inner, inner_weight, leaf_constant, leaf_faulty, leaf_asked, leaf_property}
use Rattle.node_pool.proofs.flattening.+flattening.Goals as goal

pub put_side_by_side-loop-node-init : goal.put_side_by_side-loop-node-init
put_side_by_side-loop-node-init t c =
    let ps = c.args.nodes.now.items in
    let rest = c.into_iter-node-iterator.ensures.into_iter_gives.0 in
    let w = ap (λ xs. total_size (boxed_nodes xs)) rest in
    record {
      ordered = c.requires;
      kept = take_all (length ps) ps (omega arith);
      follow = ap (λ xs. all_follow xs (length ps)) c.in_ok-last.ensures.items;
      same = λ i. each_by (c.in_ok-last.ensures.items i) (pooled_nodes ps) ++ boxed_nodes (rest i);
      smaller = omega (arith, w);
    }

pub put_side_by_side-flat_node-requires : goal.put_side_by_side-flat_node-requires
put_side_by_side-flat_node-requires t c =
    let d = c.decreases in
    let before = c.loop-node.invariant in
    let steps = ap (λ xs. total_size (boxed_nodes xs)) c.in-Some.ensures.steps.0 in
    let smaller : 2 * size (boxed_node c.in-Some.node) < t = omega (arith, before.smaller) in
    search (rules, smaller, before.ordered)

pub put_side_by_side-loop-node-preserved : goal.put_side_by_side-loop-node-preserved
put_side_by_side-loop-node-preserved t c =
    let before = c.loop-node.invariant in
    let old = c.args.nodes.now.items in
    let ps = c.loop-node.nodes.items in
    let new = c.flat_node.new.nodes.items in
    let last = c.loop-node.last.items in
    let made = c.in_ok-flat_node.field-0 in
    let rest = into_iter_items c.next.new.self in
    let put = c.in_ok-flat_node.ensures in
    let steps = c.in-Some.ensures.steps.0 in
    let w = ap (λ xs. total_size (boxed_nodes xs)) steps in
    let next = further last made (boxed_node c.in-Some.node) (boxed_nodes rest) (boxed_nodes c.args.boxed.items) ps new before.follow
    (ap (λ xs. each_by last (pooled_nodes ps) ++ boxed_nodes xs) (sym steps) ∙ before.same) put in
    record {
      ordered = put.ordered;
      kept = kept_again old ps new before.kept put.kept;
      follow = ap (λ xs. all_follow xs (length new)) c.in_ok-push.ensures.items ∙ next.0;
      same = ap (λ xs. each_by xs (pooled_nodes new) ++ boxed_nodes rest) c.in_ok-push.ensures.items ∙ next.1;
      smaller = omega (arith, w, before.smaller);
    }

pub put_side_by_side-returns : goal.put_side_by_side-returns
put_side_by_side-returns t c =
    let before = c.loop-node.invariant in
    let old = c.args.nodes.now.items in
    let ps = c.loop-node.nodes.items in
    let last = c.loop-node.last.items in
    let all = boxed_nodes c.args.boxed.items in
    let new = c.append.new.self.items in
    let rest = c.loop-node.node-iterator in
    let none = nil_from_length (into_iter_items rest) (omega (arith, c.in-None.ensures.steps.0, rest.rest.ok.0)) in
    let P : ℕ → Type 0 = λ n. AreSideBySide n all old new in
    subst P (sym (ap length c.as_slice-first.ensures.value))
    (all_put last all old ps new before.ordered before.kept before.follow
    (ap (λ xs. each_by last (pooled_nodes ps) ++ boxed_nodes xs) (sym none) ∙ before.same)
    c.in_ok-append.ensures.items)

-- One node.

pub flat_node-returns-in-Constant : goal.flat_node-returns-in-Constant
flat_node-returns-in-Constant t c =
    let ps = c.args.nodes.now.items in
    let v = c.in-Constant.literal in
    let P : BoxedNode → Type 0 = λ b. IsFlattened (Constant v) (boxed_node b) ps ps in
    subst P (sym c.in-Constant.is) (flat_leaf (Constant v) _ ps c.requires refl (λ ns. leaf_constant v))

pub flat_node-returns-in-Faulty : goal.flat_node-returns-in-Faulty
flat_node-returns-in-Faulty t c =
    let ps = c.args.nodes.now.items in
    let v = c.in-Faulty.fault in
    let P : BoxedNode → Type 0 = λ b. IsFlattened (Faulty v) (boxed_node b) ps ps in
    subst P (sym c.in-Faulty.is) (flat_leaf (Faulty v) _ ps c.requires refl (λ ns. leaf_faulty v))

pub flat_node-returns-in-Asked : goal.flat_node-returns-in-Asked
flat_node-returns-in-Asked t c =
    let ps = c.args.nodes.now.items in
    let v = c.in-Asked.slot in
    let want = c.in-Asked.want in
    let P : BoxedNode → Type 0 = λ b. IsFlattened (Asked v want) (boxed_node b) ps ps in
    subst P (sym c.in-Asked.is) (flat_leaf (Asked v want) _ ps c.requires refl (λ ns. leaf_asked v want))

pub flat_node-returns-in-Property : goal.flat_node-returns-in-Property
flat_node-returns-in-Property t c =
    let ps = c.args.nodes.now.items in
    let v = c.in-Property.key in
    let want = c.in-Property.want in
    let P : BoxedNode → Type 0 = λ b. IsFlattened (Property v want) (boxed_node b) ps ps in
    subst P (sym c.in-Property.is) (flat_leaf (Property v want) _ ps c.requires refl (λ ns. leaf_property v want))

pub flat_node-put_side_by_side-requires : goal.flat_node-put_side_by_side-requires
flat_node-put_side_by_side-requires t c =
    let d = c.decreases in
    let same = ap (λ b. size (boxed_node b)) c.in-Inner.is in
    let w = inner_weight c.in-Inner.op c.in-Inner.want c.in-Inner.arguments in
    let smaller : 2 * total_size (boxed_nodes c.in-Inner.arguments.items) + 1 < t = omega (arith, same, w) in
    search (rules, smaller, c.requires)

pub flat_node-returns-in_ok-first-in-Inner : goal.flat_node-returns-in_ok-first-in-Inner
flat_node-returns-in_ok-first-in-Inner t c =
    let ps = c.args.nodes.now.items in
    let op = c.in-Inner.op in
    let want = c.in-Inner.want in
    let arguments = c.in-Inner.arguments in
    let new = c.put_side_by_side.new.nodes.items in
    let count = length c.as_slice-count.result.now in
    let first = c.in_ok-first-in-Inner.first in
    let P : BoxedNode → Type 0 = λ b. IsFlattened (Inner op want first count) (boxed_node b) ps new in
    subst P (sym c.in-Inner.is)
    (flat_inner op want arguments first count ps new (ap length c.as_slice-count.ensures.value) c.in_ok-first-in-Inner.ensures)
