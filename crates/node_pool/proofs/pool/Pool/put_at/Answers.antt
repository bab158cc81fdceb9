use Rattle.std.proofs.Common.{ℕ, ◌+◌, ◌∙◌, length, map, set, refl, sym, ap, subst, arith}
use Rattle.std.proofs.lemmas.List.{map-set}
use Rattle.std.proofs.lemmas.Option.{slice_get_read}
use Rattle.expr_nodes.specs.Evaluators.{sized_node}
use Rattle.node_pool.specs.Blocks.{IsSound}
use Rattle.node_pool.proofs.BlockLaws.{slot_within, set_sound, set_bounds, total_at}
use Rattle.node_pool.proofs.pool.Pool.put_at.Goals as goal

pub length-requires : goal.length-requires
length-requires c =
    let ps = c.self.inside.nodes in
    let es = c.self.inside.expressions.items in
    let slot = c.args.slot in
    let x = c.index.result.now in
    let within = slot_within ps.items es c.args.self.now slot c.self.view_is c.requires in
    let t = total_at es slot x (slice_get_read es (length es) slot x refl within c.index.ensures) in
    omega (arith, t, c.self.invariant.counted, ps.ok.0, ps.small)

pub overflow_add-self : goal.overflow_add-self
overflow_add-self c =
    let ps = c.self.inside.nodes in
    let es = c.self.inside.expressions.items in
    let slot = c.args.slot in
    let x = c.index.result.now in
    let within = slot_within ps.items es c.args.self.now slot c.self.view_is c.requires in
    let t = total_at es slot x (slice_get_read es (length es) slot x refl within c.index.ensures) in
    omega (arith, t, c.self.invariant.counted, c.length.ensures, ps.ok.0, ps.small)

pub invariant_of-self-2 : goal.invariant_of-self-2
invariant_of-self-2 c =
    let ps = c.self.inside.nodes.items in
    let qs = c.added.new.nodes.items in
    let es = c.self.inside.expressions.items in
    let unused = c.self.inside.unused in
    let slot = c.args.slot in
    let x = c.index.result.now in
    let e = c.in_ok-expression.expression in
    let within = slot_within ps es c.args.self.now slot c.self.view_is c.requires in
    let here = slice_get_read es (length es) slot x refl within c.index.ensures in
    let P : ℕ → Type 0 = λ n. IsSound qs (set es slot e) (unused + n) in
    subst P (sym c.length.ensures) (set_sound ps qs es unused slot e x c.args.expression c.self.invariant c.in_ok-expression.ensures.ok here)

pub returns-clause-ok : goal.returns-clause-ok
returns-clause-ok c =
    let ps = c.self.inside.nodes.items in
    let qs = c.added.new.nodes.items in
    let es = c.self.inside.expressions.items in
    let slot = c.args.slot in
    let e = c.in_ok-expression.expression in
    let bound = c.args.expression in
    ap (map sized_node)
    (c.gather.ensures
    ∙ (set_bounds ps qs es slot e bound c.self.invariant.held c.in_ok-expression.ensures.ok ∙ ap (λ ns. set ns slot bound) c.self.view_is))
    ∙ map-set sized_node c.args.self.now slot bound
