use Rattle.std.proofs.Common.{arith}
use Rattle.fixed_num.proofs.Signs.{negative_text}
use Rattle.fixed_num.proofs.text.put_number.Goals as goal

pub returns-then-negative-clause-text : goal.returns-then-negative-clause-text
returns-then-negative-clause-text c = negative_text c.args.out.now _ _ c.args.negative (omega arith) c.if-negative.true c.put_magnitude.ensures.text
