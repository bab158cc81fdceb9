use Rattle.std.proofs.Common.{◌≡◌, ◌++◌, drop}
use Rattle.legacy_functions.specs.FunctionView.{default_tree, property_tree, rules_in}
use Rattle.legacy_functions.specs.ToExpression.{branch_elements, rule_branches}
use Rattle.legacy_functions.proofs.expression.push_rules.Given as goal

abbrev pub invariant-loop-rule : goal.invariant-loop-rule
invariant-loop-rule l =
    l.items ++ branch_elements (rule_branches (property_tree l.function) (default_tree l.function) (rules_in l.function (drop l.rule-index l.rules)))
    ≡ l.fn.items ++ branch_elements (rule_branches (property_tree l.function) (default_tree l.function) (rules_in l.function l.rules))
