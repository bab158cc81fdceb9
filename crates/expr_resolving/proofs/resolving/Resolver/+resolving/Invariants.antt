use Rattle.std.proofs.Common.{◌≡◌, ◌+◌, ◌*◌, ◌≤◌, [], length}
use Rattle.std.specs.Vec.Iter.{into_iter_items}
use Rattle.expr_syntax.specs.TermSize.{nodes}
use Rattle.expr_syntax.specs.TermView.{term_of, terms, weight}
use Rattle.expr_nodes.specs.Boxed.{boxed_nodes}
use Rattle.expr_nodes.specs.Resolving.{resolve_let}
use Rattle.expr_resolving.specs.NumberScopes.{numbered_scope}
use Rattle.expr_resolving.specs.ResolvedParts.{inner_of, inner_after, let_after}
use Rattle.expr_resolving.proofs.resolving.Resolver.+resolving.Given as goal

-- An argument has fewer nodes than its node.

abbrev pub decreases-resolve : goal.decreases-resolve
decreases-resolve l = 4 * nodes (term_of l.expression)

abbrev pub decreases-resolve_node : goal.decreases-resolve_node
decreases-resolve_node l = 4 * weight l.arguments.items + 3

abbrev pub decreases-resolve_inner : goal.decreases-resolve_inner
decreases-resolve_inner l = 4 * weight l.arguments.items + 2

abbrev pub decreases-resolve_let : goal.decreases-resolve_let
decreases-resolve_let l = 4 * weight l.arguments.items + 2

abbrev pub decreases-resolve_body : goal.decreases-resolve_body
decreases-resolve_body l = 4 * nodes (term_of l.body.expression) + 1

-- the nodes so far and those to come are those of all arguments
abbrev pub invariant-resolve_inner-loop-argument : goal.invariant-resolve_inner-loop-argument
invariant-resolve_inner-loop-argument l =
    (inner_after l.fn.op l.count l.fn.want l.left (numbered_scope l.fn.scope) (boxed_nodes l.nodes.items)
    (terms (into_iter_items l.argument-iterator)) (boxed_nodes l.self.bindings.items)
    ≡ inner_of l.fn.op l.fn.want l.fn.marks (terms l.fn.arguments.items) (numbered_scope l.fn.scope) (boxed_nodes l.fn.self.bindings.items))
    × (weight (into_iter_items l.argument-iterator) ≤ weight l.fn.arguments.items)
    × (l.op ≡ l.fn.op)

-- so many names have numbers, and what is left of the arguments makes all of the `let`
abbrev pub invariant-resolve_let-loop-place : goal.invariant-resolve_let-loop-place
invariant-resolve_let-loop-place l =
    (let_after l.fn.names l.fn.want l.left (numbered_scope l.fn.scope) l.numbers.items
    (terms (into_iter_items l.rest)) (boxed_nodes l.self.bindings.items)
    ≡ resolve_let (terms l.fn.arguments.items) l.fn.names l.fn.want l.fn.marks (numbered_scope l.fn.scope) [] (boxed_nodes l.fn.self.bindings.items))
    × (weight (into_iter_items l.rest) ≤ weight l.fn.arguments.items)
    × (length l.numbers.items ≡ l._place)
