use Rattle.std.proofs.Common.{◌≡◌, ◌+◌, ◌*◌, drop}
use Rattle.expr_syntax.specs.TermSize.{nodes}
use Rattle.expr_syntax.specs.TermView.{term_of, terms, weight}
use Rattle.expr_syntax.specs.Mentioned.{either, all_mentions}
use Rattle.dependency_sets.proofs.mentioned.+mentions.Given as goal

abbrev pub decreases-mentions : goal.decreases-mentions
decreases-mentions l = 2 * nodes (term_of l.expression.now)

abbrev pub decreases-all_mentions : goal.decreases-all_mentions
decreases-all_mentions l = 2 * weight l.arguments.now + 1

abbrev pub invariant-all_mentions-loop-argument : goal.invariant-all_mentions-loop-argument
invariant-all_mentions-loop-argument l = either l.mentioned (all_mentions (terms (drop l.argument-index l.arguments))) ≡ all_mentions (terms l.arguments)
