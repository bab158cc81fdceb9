use Rattle.std.proofs.Common.{sym}
use Rattle.interpolate_fixed.proofs.LineLaws.{line_between}
use Rattle.interpolate_fixed.proofs.color.component.Goals as goal

pub returns-in-Ok-clause-between : goal.returns-in-Ok-clause-between
returns-in-Ok-clause-between c = λ low high a_low a_high b_low b_high.
    line_between c.args.x c.args.x0 c.args.a c.args.x1 c.args.b _ low high c.requires.from c.requires.to c.requires.apart a_low a_high b_low b_high (sym c.in-Ok.ensures)
