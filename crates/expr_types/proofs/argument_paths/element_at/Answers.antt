use Rattle.std.proofs.Common.{◌∙◌, ap}
use Rattle.expr_types.specs.ArgumentPaths.{element_of}
use Rattle.expr_types.proofs.PathLaws.{element_by_row}
use Rattle.expr_types.proofs.argument_paths.element_at.Goals as goal

pub returns-in_default : goal.returns-in_default
returns-in_default c =
    c.element_of.ensures ∙
    ap (λ r. element_of r.layout c.args.count c.args.argument) c.row.ensures ∙
    element_by_row c.args.op.now c.args.count c.args.argument c.in_default.not-Array c.in_default.not-Format
