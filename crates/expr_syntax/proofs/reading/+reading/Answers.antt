use Rattle.std.proofs.Common.{arith}
use Rattle.expr_syntax.proofs.ElementLaws.{reading_rules}
use Rattle.expr_syntax.proofs.StopLaws.{ramp_arity}
use Rattle.expr_syntax.proofs.reading.+reading.Goals as goal

pub read_node-returns-then-not-has_arity : goal.read_node-returns-then-not-has_arity
read_node-returns-then-not-has_arity t c = grind (arith, reading_rules, ramp_arity)

pub read_node-returns-then-is_value : goal.read_node-returns-then-is_value
read_node-returns-then-is_value t c = grind (arith, reading_rules, ramp_arity)

pub read_node-returns-then-is_global : goal.read_node-returns-then-is_global
read_node-returns-then-is_global t c = grind (arith, reading_rules, ramp_arity)

pub read_node-returns-then-is_format : goal.read_node-returns-then-is_format
read_node-returns-then-is_format t c = grind (arith, reading_rules, ramp_arity)

pub read_node-returns-in_ok-arguments-in-Ok : goal.read_node-returns-in_ok-arguments-in-Ok
read_node-returns-in_ok-arguments-in-Ok t c = grind (arith, reading_rules, ramp_arity)

pub read_node-returns-in-Err : goal.read_node-returns-in-Err
read_node-returns-in-Err t c = grind (arith, reading_rules, ramp_arity)

pub read_arguments-read_json-requires : goal.read_arguments-read_json-requires
read_arguments-read_json-requires t c = grind (arith, reading_rules)

pub read_arguments-read_json-requires-else-i-items : goal.read_arguments-read_json-requires-else-i-items
read_arguments-read_json-requires-else-i-items t c = grind (arith, reading_rules)

pub read_options-read_json-requires : goal.read_options-read_json-requires
read_options-read_json-requires t c = grind (arith, reading_rules)

pub read_sections-read_section-requires : goal.read_sections-read_section-requires
read_sections-read_section-requires t c = grind (arith, reading_rules)
