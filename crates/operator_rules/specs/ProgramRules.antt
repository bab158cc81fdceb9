-- The rule of an operator, as the program has it.
use Rattle.interpolate_fixed.specs.PlaceFacts.{IsAscending}
use Rattle.expr_syntax.specs.declared.expression.Operator.{Operator}
use Rattle.eval_face.specs.Rules.{Rule, each, deciding, cases, labels, stops, ramp, bindings, variable, rule_of}
use Rattle.operator_rules.specs.RuleParts.{applied_by, decided_by, undecided_by}
use Rattle.operator_rules.specs.declared.rule.OperatorRule.{OperatorRule as ProgramRule}
use Rattle.operator_rules.specs.declared.rule.OperatorRule.TheVariants.{Each, Deciding, Cases, Labels, Stops, Ramp}
use Rattle.operator_rules.specs.declared.rule.OperatorRule.TheVariants.{Bindings, Variable}

-- the definition of the program's rule of an operator
abbrev pub rule_in : Operator → ProgramRule → Rule
rule_in op Each = each (applied_by (rule_of op))
rule_in op Deciding = deciding (decided_by (rule_of op)) (undecided_by (rule_of op))
rule_in op Cases = cases
rule_in op (Labels ls) = labels ls.now
rule_in op (Stops inputs) = stops inputs.now
rule_in op (Ramp r) = ramp r.now.0 r.now.1
rule_in op (Bindings names) = bindings names.now
rule_in op (Variable name) = variable name.now

-- the inputs of stops ascend
abbrev pub HasAscendingInputs : ProgramRule → Type 0
HasAscendingInputs (Stops inputs) = IsAscending inputs.now
HasAscendingInputs _ = Unit {0}
