use Rattle.decimal_json.proofs.PlainRuns.{run_plain, run_utf8, char_plain}
use Rattle.decimal_json.proofs.plain_text.plain_step.Goals as goal

pub returns-then-is_empty-clause-plain : goal.returns-then-is_empty-clause-plain
returns-then-is_empty-clause-plain c = run_plain c.args.bytes.now c.run_length.result c.run_length.ensures.front

pub returns-then-is_empty-clause-utf8 : goal.returns-then-is_empty-clause-utf8
returns-then-is_empty-clause-utf8 c = run_utf8 c.args.bytes.now c.run_length.result c.run_length.ensures.front

pub returns-in-Whole-clause-plain : goal.returns-in-Whole-clause-plain
returns-in-Whole-clause-plain c = char_plain c.args.bytes.now c.in-Whole.count c.in-Whole.ensures
