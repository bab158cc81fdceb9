use Rattle.std.proofs.Common.{length, refl, sym, ap}
use Rattle.std.proofs.lemmas.Option.{slice_get_read}
use Rattle.expr_nodes.specs.Evaluators.{nodes_in}
use Rattle.node_pool.proofs.BlockLaws.{slot_within, slot_is}
use Rattle.node_pool.proofs.pool.Pool.nodes.Goals as goal

pub returns : goal.returns
returns c =
    let ps = c.self.inside.nodes.items in
    let es = c.self.inside.expressions.items in
    let slot = c.args.slot in
    let e = c.index-expression.result.now in
    let within = slot_within ps es c.args.self.now slot c.self.view_is c.requires in
    let here = slice_get_read es (length es) slot e refl within c.index-expression.ensures in
    sym (ap nodes_in (slot_is ps es c.args.self.now slot e c.self.view_is here))
