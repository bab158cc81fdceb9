use Rattle.std.specs.Prelude.{Option}
use Rattle.std.proofs.Common.{◌≡◌, ◌+◌, ◌≤◌, List, length, map, refl, sym, ap, subst, arith}
use Rattle.std.proofs.lemmas.Option.{slice_get_read}
use Rattle.operator_values.specs.Evaluated.{GivesValue}
use Rattle.expr_nodes.specs.Evaluators.{Sized, sized_node, GivesIn, nodes_in, nodes_at}
use Rattle.node_pool.specs.Blocks.{IsHeld, bound_at}
use Rattle.node_pool.specs.declared.pooled_node.PooledNode.{PooledNode}
use Rattle.node_pool.proofs.BlockLaws.{slot_within, slot_is}
use Rattle.node_pool.proofs.pool.PoolCountedEvaluator.evaluated.Goals as goal

pub evaluated-requires : goal.evaluated-requires
evaluated-requires g c =
    let ps = c.self.inside.nodes.items in
    let es = c.self.inside.expressions.items in
    let slot = c.args.slot in
    let e = c.index-expression.result.now in
    let within = slot_within ps es c.args.self.now slot c.self.view_is c.requires in
    let here = slice_get_read es (length es) slot e refl within c.index-expression.ensures in
    let P : List PooledNode → Type 0 = λ x. IsHeld x e in
    subst P (sym c.as_slice.ensures.value) (c.self.invariant.held slot e here)

pub returns-clause-meaning : goal.returns-clause-meaning
returns-clause-meaning g c =
    let ps = c.self.inside.nodes.items in
    let es = c.self.inside.expressions.items in
    let slot = c.args.slot in
    let e = c.index-expression.result.now in
    let world = g.W.WorldView.world c.args.world.now in
    let within = slot_within ps es c.args.self.now slot c.self.view_is c.requires in
    let here = slice_get_read es (length es) slot e refl within c.index-expression.ensures in
    let P : Option Sized → Type 0 = λ o. GivesIn c.evaluated.result o world in
    let Q : List PooledNode → Type 0 = λ x. GivesValue c.evaluated.result ((sized_node (bound_at x e)).0 world) in
    subst P (sym (slot_is ps es c.args.self.now slot e c.self.view_is here))
    (subst Q c.as_slice.ensures.value c.evaluated.ensures.meaning)

pub returns-clause-most : goal.returns-clause-most
returns-clause-most g c =
    let ps = c.self.inside.nodes.items in
    let es = c.self.inside.expressions.items in
    let slot = c.args.slot in
    let e = c.index-expression.result.now in
    let within = slot_within ps es c.args.self.now slot c.self.view_is c.requires in
    let here = slice_get_read es (length es) slot e refl within c.index-expression.ensures in
    let most : c.evaluated.new.steps ≤ c.args.steps.now + e.nodes = c.evaluated.ensures.most in
    let nodes : nodes_at (map sized_node c.args.self.now) slot ≡ e.nodes =
    ap nodes_in (slot_is ps es c.args.self.now slot e c.self.view_is here) in
    omega (arith, most, nodes)
