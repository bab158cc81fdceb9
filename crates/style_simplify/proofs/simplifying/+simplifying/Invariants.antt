use Rattle.std.proofs.Common.{◌≡◌, ◌+◌, ◌*◌, ◌++◌, drop}
use Rattle.expr_syntax.specs.TermSize.{nodes}
use Rattle.expr_syntax.specs.TermView.{term_of, weight}
use Rattle.style_simplify.specs.NodeView.{elements_at, pieces_at}
use Rattle.style_simplify.specs.View.{elements_seen}
use Rattle.style_simplify.proofs.simplifying.+simplifying.Given as goal

abbrev pub decreases-choices : goal.decreases-choices
decreases-choices l = 8 * nodes (term_of l.expression.now)

abbrev pub decreases-simple_element : goal.decreases-simple_element
decreases-simple_element l = 8 * nodes (term_of l.expression.now) + 1

abbrev pub decreases-node_choices : goal.decreases-node_choices
decreases-node_choices l = 8 * weight l.arguments.now + 7

abbrev pub decreases-choices_inside : goal.decreases-choices_inside
decreases-choices_inside l = 8 * weight l.arguments.now + 6

abbrev pub decreases-plain_choices : goal.decreases-plain_choices
decreases-plain_choices l = 8 * weight l.arguments.now + 5

abbrev pub decreases-let_simple : goal.decreases-let_simple
decreases-let_simple l = 8 * weight l.arguments.now + 5

abbrev pub decreases-format_choices : goal.decreases-format_choices
decreases-format_choices l = 8 * weight l.arguments.now + 5

abbrev pub decreases-elements : goal.decreases-elements
decreases-elements l = 8 * weight l.given.now + 4

abbrev pub decreases-argument_element : goal.decreases-argument_element
decreases-argument_element l = 8 * nodes (term_of l.argument.now) + 2

abbrev pub decreases-let_body : goal.decreases-let_body
decreases-let_body l = 8 * weight l.rest.now + 4

abbrev pub decreases-body_inside : goal.decreases-body_inside
decreases-body_inside l = 8 * weight l.rest.now + 3

abbrev pub decreases-body_element : goal.decreases-body_element
decreases-body_element l = 8 * nodes (term_of l.body.now) + 2

abbrev pub decreases-piece_elements : goal.decreases-piece_elements
decreases-piece_elements l = 8 * weight l.arguments.now + 4

abbrev pub decreases-piece_element : goal.decreases-piece_element
decreases-piece_element l = 8 * nodes (term_of l.argument.now) + 3

abbrev pub decreases-piece_at : goal.decreases-piece_at
decreases-piece_at l = 8 * nodes (term_of l.argument.now) + 2

-- what was made and what is made of the rest are all elements
abbrev pub invariant-elements-loop-at : goal.invariant-elements-loop-at
invariant-elements-loop-at l =
    elements_seen l.made.items ++ elements_at l.context l.count l.arguments l.at l.place (drop l.place l.given) (drop l.at l.items) ≡ elements_at l.context l.count l.arguments 0 0 l.given l.items

abbrev pub invariant-piece_elements-loop-place : goal.invariant-piece_elements-loop-place
invariant-piece_elements-loop-place l =
    elements_seen l.made.items ++ pieces_at l.context l.pieces l.place (drop l.place l.arguments) l.items ≡ pieces_at l.context l.pieces 0 l.arguments l.items
