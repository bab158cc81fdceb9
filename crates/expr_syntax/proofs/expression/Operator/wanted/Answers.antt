use Rattle.std.proofs.Common.{◌∙◌, ap}
use Rattle.expr_syntax.specs.Rows.{wanted}
use Rattle.expr_syntax.proofs.OperatorLaws.{wanted_by_row}
use Rattle.expr_syntax.proofs.expression.Operator.wanted.Goals as goal

pub returns-in_default : goal.returns-in_default
returns-in_default c =
    c.wanted.ensures ∙
    ap (λ r. wanted r.wants c.args.arguments c.args.argument) c.row.ensures ∙
    wanted_by_row c.args.self.now c.args.arguments c.args.argument c.in_default.not-Format
