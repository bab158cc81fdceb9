use Rattle.std.proofs.Common.{◌∙◌, ap}
use Rattle.operator_rules.proofs.RuleLaws.{each_rule}
use Rattle.operator_rules.proofs.rule.rule_of.Goals as goal

pub returns-in_default-manner : goal.returns-in_default-manner
returns-in_default-manner c = record {
  rule = each_rule c.args.op.now (c.in_default.not-Case, c.in_default.not-Match, c.in_default.not-Step, c.in_default.not-Interpolate, c.in_default.not-Let, c.in_default.not-Var) (λ q. c.in_default-manner.not-Deciding (ap (λ r. r.manner) c.row.ensures ∙ q));
  sound = tt;
}
