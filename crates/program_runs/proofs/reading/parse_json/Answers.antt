use Rattle.program_runs.proofs.reading.parse_json.Goals as goal

pub returns-clause-on : goal.returns-clause-on
returns-clause-on c = λ files asked. c.json_or_refusal.ensures.on files _ asked c.in_ok-parse.ensures

pub returns-clause-halt : goal.returns-clause-halt
returns-clause-halt c = λ files count failed asked. c.json_or_refusal.ensures.halt files _ count failed asked c.in_ok-parse.ensures
