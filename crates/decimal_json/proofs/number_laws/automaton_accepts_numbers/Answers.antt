use Rattle.decimal_json.proofs.Rest.{number_accepted}
use Rattle.decimal_json.proofs.number_laws.automaton_accepts_numbers.Goals as goal

pub returns : goal.returns
returns c = number_accepted
