use Rattle.std.proofs.Common.{arith}
use Rattle.expr_syntax.proofs.ElementLaws.{standing_rules}
use Rattle.expr_syntax.proofs.standing.+standing.Goals as goal

pub stands_in_array-returns-then-not-has_arity : goal.stands_in_array-returns-then-not-has_arity
stands_in_array-returns-then-not-has_arity t c = grind (arith, standing_rules)

pub stands_in_array-returns-else-is_format : goal.stands_in_array-returns-else-is_format
stands_in_array-returns-else-is_format t c = grind (arith, standing_rules)

pub stands_in_elements-stands-found-requires : goal.stands_in_elements-stands-found-requires
stands_in_elements-stands-found-requires t c = grind (arith, standing_rules)

pub stands_in_elements-stands-found-requires-in-Output : goal.stands_in_elements-stands-found-requires-in-Output
stands_in_elements-stands-found-requires-in-Output t c = grind (arith, standing_rules)

pub stands_in_options-stands-requires : goal.stands_in_options-stands-requires
stands_in_options-stands-requires t c = grind (arith, standing_rules)

pub stands_in_sections-stands_in_options-requires : goal.stands_in_sections-stands_in_options-requires
stands_in_sections-stands_in_options-requires t c = grind (arith, standing_rules)

pub stands_in_sections-stands-requires : goal.stands_in_sections-stands-requires
stands_in_sections-stands-requires t c = grind (arith, standing_rules)
