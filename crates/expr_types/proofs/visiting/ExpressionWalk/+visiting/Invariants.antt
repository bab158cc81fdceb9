use Rattle.std.proofs.Common.{◌≡◌, ℕ, ◌+◌, ◌*◌, drop, length}
use Rattle.decimal_json.specs.View.{path_of}
use Rattle.expr_syntax.specs.Mentioned.{count}
use Rattle.expr_syntax.specs.TermSize.{nodes}
use Rattle.expr_syntax.specs.TermView.{term_of, terms, weight}
use Rattle.expr_types.specs.MisplacedReads.{all_noted}
use Rattle.expr_types.specs.WalkView.{allowed_in}
use Rattle.expr_types.specs.Visits.{visitings, all_visits, node_visits}
use Rattle.expr_types.proofs.visiting.ExpressionWalk.+visiting.Given as goal

abbrev pub decreases-visit : goal.decreases-visit
decreases-visit l = 3 * nodes (term_of l.expression.now)

abbrev pub decreases-visit_node : goal.decreases-visit_node
decreases-visit_node l = 3 * weight l.arguments.now + 2

abbrev pub decreases-visit_argument : goal.decreases-visit_argument
decreases-visit_argument l = 3 * nodes (term_of l.argument.now) + 1

abbrev pub invariant-visit_node-loop-place : goal.invariant-visit_node-loop-place
invariant-visit_node-loop-place l = all_noted (allowed_in l.self) (all_visits l.node.op.now (length l.arguments) l.place (visitings (terms (drop l.place l.arguments))) l.node.standing (path_of l.node.here.now)) l.found ≡ all_noted (allowed_in l.self) (node_visits l.node.op.now (length l.arguments) (visitings (terms l.arguments)) l.node.standing (path_of l.node.here.now)) l.fn.before
