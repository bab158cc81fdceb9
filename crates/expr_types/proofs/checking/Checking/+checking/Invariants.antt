use Rattle.std.proofs.Common.{◌≡◌, ℕ, ◌+◌, ◌*◌, drop, []}
use Rattle.prop_values.specs.Faults.{no_faults}
use Rattle.expr_syntax.specs.TermSize.{nodes}
use Rattle.expr_syntax.specs.TermView.{term_of, weight}
use Rattle.expr_types.specs.TypedView.{kinds_after, all_added, founds_in}
use Rattle.expr_types.proofs.checking.Checking.+checking.Given as goal

abbrev pub decreases-check_expression : goal.decreases-check_expression
decreases-check_expression l = 8 * nodes (term_of l.expression.now)

abbrev pub decreases-check_node : goal.decreases-check_node
decreases-check_node l = 8 * weight l.arguments.now + 7

abbrev pub decreases-check_inside : goal.decreases-check_inside
decreases-check_inside l = 8 * weight l.arguments.now + 6

abbrev pub decreases-check_plain : goal.decreases-check_plain
decreases-check_plain l = 8 * weight l.arguments.now + 5

abbrev pub decreases-check_let : goal.decreases-check_let
decreases-check_let l = 8 * weight l.arguments.now + 5

abbrev pub decreases-check_arguments : goal.decreases-check_arguments
decreases-check_arguments l = 8 * weight l.arguments.now + 4

abbrev pub decreases-check_body : goal.decreases-check_body
decreases-check_body l = 8 * nodes (term_of l.body.now) + 3

abbrev pub decreases-check_argument : goal.decreases-check_argument
decreases-check_argument l = 8 * nodes (term_of l.argument.now) + 2

abbrev pub decreases-check_at : goal.decreases-check_at
decreases-check_at l = 8 * nodes (term_of l.argument.now) + 1

abbrev pub invariant-check_arguments-loop-place : goal.invariant-check_arguments-loop-place
invariant-check_arguments-loop-place l = record {
  kinds : kinds_after l.kinds.items l.may (founds_in l.context l.count l.place (drop l.place l.arguments)) ≡ kinds_after [] no_faults (founds_in l.context l.count 0 l.arguments);
  places : all_added l.self.places.items (founds_in l.context l.count l.place (drop l.place l.arguments)) ≡ all_added l.fn.self.places.items (founds_in l.context l.count 0 l.arguments);
}
