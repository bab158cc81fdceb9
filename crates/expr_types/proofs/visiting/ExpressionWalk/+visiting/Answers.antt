use Rattle.std.proofs.Common.{◌≡◌, length, ap, sym, ◌∙◌, arith}
use Rattle.decimal_json.specs.View.{path_of}
use Rattle.expr_syntax.proofs.Falls.{count_terms}
use Rattle.expr_syntax.specs.TermView.{terms}
use Rattle.expr_types.specs.MisplacedReads.{all_noted}
use Rattle.expr_types.specs.WalkView.{allowed_in}
use Rattle.expr_types.specs.Visits.{visitings, node_visits}
use Rattle.expr_types.proofs.VisitLaws.{visit_turn, visit_end}
use Rattle.expr_types.proofs.visiting.ExpressionWalk.+visiting.Goals as goal

pub visit_node-loop-place-preserved : goal.visit_node-loop-place-preserved
visit_node-loop-place-preserved t c =
    visit_turn (allowed_in c.args.self.now) c.args.node.now.op.now (length c.args.arguments.now) c.loop-place.place c.args.arguments.now c.index-arguments-place.result c.args.node.now.standing (path_of c.args.node.now.here.now) c.loop-place.found c.in_ok-found-2.found
    (all_noted (allowed_in c.args.self.now) (node_visits c.args.node.now.op.now (length c.args.arguments.now) (visitings (terms c.args.arguments.now)) c.args.node.now.standing (path_of c.args.node.now.here.now)) c.args.before)
    c.loop-place.invariant c.index-arguments-place.is c.loop-place-test.true c.in_ok-found-2.ensures

pub visit_node-returns : goal.visit_node-returns
visit_node-returns t c =
    visit_end (allowed_in c.args.self.now) c.args.node.now.op.now (length c.args.arguments.now) c.loop-place.place c.args.arguments.now c.args.node.now.standing (path_of c.args.node.now.here.now) c.loop-place.found
    (all_noted (allowed_in c.args.self.now) (node_visits c.args.node.now.op.now (length c.args.arguments.now) (visitings (terms c.args.arguments.now)) c.args.node.now.standing (path_of c.args.node.now.here.now)) c.args.before)
    c.loop-place.invariant (omega (arith, c.loop-place-test.false)) ∙
    ap (λ n. all_noted (allowed_in c.args.self.now) (node_visits c.args.node.now.op.now n (visitings (terms c.args.arguments.now)) c.args.node.now.standing (path_of c.args.node.now.here.now)) c.args.before) (sym (count_terms c.args.arguments.now))
