use Rattle.std.proofs.Common.{rules, arith}
use Rattle.fixed_num.proofs.RoundTrip.{number_text_ascii, written_number}
use Rattle.fixed_num.proofs.Signs.{number_text_is, front_length}
use Rattle.fixed_num.proofs.fixed.Fixed.write.Goals as goal

pub returns-clause-text : goal.returns-clause-text
returns-clause-text c = search (rules, number_text_is)

pub returns-clause-length : goal.returns-clause-length
returns-clause-length c = front_length c.put_number.result c.put_number.new.out _ (omega arith) (returns-clause-text c)

pub returns-clause-ascii : goal.returns-clause-ascii
returns-clause-ascii c = search (rules, number_text_ascii)

pub returns-clause-number : goal.returns-clause-number
returns-clause-number c = written_number c.args.self (search rules)
