use Rattle.std.proofs.Common.{arith}
use Rattle.fixed_num.proofs.FractionDigits.{fraction_text-zero, fraction_text-some}
use Rattle.fixed_num.proofs.text.put_fraction.Goals as goal

pub returns-then-millionths-eq0-clause-text : goal.returns-then-millionths-eq0-clause-text
returns-then-millionths-eq0-clause-text c = fraction_text-zero _ c.args.millionths c.if-millionths-eq0.true

pub returns-clause-text : goal.returns-clause-text
returns-clause-text c = fraction_text-some _ c.args.out.now c.args.at c.args.millionths (omega arith) c.if-millionths-eq0.false c.put_fraction_digits.ensures.text
