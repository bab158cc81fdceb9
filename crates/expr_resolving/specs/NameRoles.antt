-- What an operator has to do with names.
use Rattle.std.specs.Prelude.{◌≡◌, false}
use Rattle.expr_syntax.specs.declared.expression.Operator.{Operator}
use Rattle.eval_face.specs.Rules.{bindings, variable, rule_of}
use Rattle.expr_nodes.specs.Limits.{has_names}
use Rattle.expr_resolving.specs.declared.name_role.NameRole.{NameRole}
use Rattle.expr_resolving.specs.declared.name_role.NameRole.TheVariants.{Binds, Asks, Neither}

abbrev pub IsRoleOf : NameRole → Operator → Type 0
IsRoleOf (Binds names) op = rule_of op ≡ bindings names
IsRoleOf (Asks name) op = rule_of op ≡ variable name
IsRoleOf (Neither other) op = (other ≡ op) × (has_names (rule_of op) ≡ false)
