use Rattle.fixed_num.proofs.JsonNumbers.{json_number_is_read, read_is_json_number}
use Rattle.fixed_num.proofs.laws.json_numbers_are_read.Goals as goal

pub returns-clause-read : goal.returns-clause-read
returns-clause-read c = json_number_is_read

pub returns-clause-only : goal.returns-clause-only
returns-clause-only c = read_is_json_number
