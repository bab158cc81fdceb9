use Rattle.std.proofs.Common.{◌∙◌, List, [], ◌∷◌, ◌++◌, map, sym, ap, subst}
use Rattle.std.proofs.lemmas.List.{map_push}
use Rattle.expr_nodes.specs.Evaluators.{sized_node}
use Rattle.node_pool.specs.Blocks.{IsSound, bound_nodes}
use Rattle.node_pool.specs.declared.pooled_expression.PooledExpression.{PooledExpression}
use Rattle.node_pool.proofs.BlockLaws.{put_sound, put_bounds}
use Rattle.node_pool.proofs.pool.Pool.put.Goals as goal

pub invariant_of-self-2 : goal.invariant_of-self-2
invariant_of-self-2 c =
    let ps = c.self.inside.nodes.items in
    let es = c.self.inside.expressions.items in
    let qs = c.added.new.nodes.items in
    let e = c.in_ok-expression.expression in
    let more = c.push_reserved.ensures.items ∙ ap (λ xs. xs ++ e ∷ []) c.reserve.ensures.items in
    let P : List PooledExpression → Type 0 = λ x. IsSound qs x c.self.inside.unused in
    subst P (sym more) (put_sound ps qs es c.self.inside.unused e c.args.expression c.self.invariant c.in_ok-expression.ensures.ok)

pub returns-clause-ok : goal.returns-clause-ok
returns-clause-ok c =
    let ps = c.self.inside.nodes.items in
    let es = c.self.inside.expressions.items in
    let qs = c.added.new.nodes.items in
    let e = c.in_ok-expression.expression in
    let bound = c.args.expression in
    let more = c.push_reserved.ensures.items ∙ ap (λ xs. xs ++ e ∷ []) c.reserve.ensures.items in
    ap (map sized_node)
    (ap (bound_nodes qs) more
    ∙ (put_bounds ps qs es e bound c.self.invariant.held c.in_ok-expression.ensures.ok ∙ ap (λ ns. ns ++ bound ∷ []) c.self.view_is))
    ∙ map_push sized_node c.args.self.now bound
