use Rattle.fixed_num.proofs.RoundTrip.{number_text_is_read}
use Rattle.fixed_num.proofs.laws.written_numbers_are_read.Goals as goal

pub returns : goal.returns
returns c = number_text_is_read
