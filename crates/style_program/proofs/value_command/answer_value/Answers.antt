use Rattle.std.proofs.Common.{refl, ap, ◌∙◌}
use Rattle.decimal_json.specs.Tree.{Tree}
use Rattle.decimal_json.specs.View.{tree_of}
use Rattle.expr_syntax.specs.Reading.{reading}
use Rattle.program_runs.specs.Progress.{HaltsAt, outcome_of}
use Rattle.program_runs.specs.Runs.{Run, HasOutcome, ends}
use Rattle.program_runs.proofs.Going.{at_residual}
use Rattle.style_program.specs.ValueRun.{value_run, expression_outcome}
use Rattle.style_program.proofs.Answered.{of_text, halt_of_text}
use Rattle.style_program.proofs.value_command.answer_value.Goals as goal

pub returns-clause-answer : goal.returns-clause-answer
returns-clause-answer g c = λ files asked.
    let images = (goal.HostOp-dyn g c.args.images.now).test c.args.images.now.1 in let scripts = (goal.HostOp-dyn g c.args.scripts.now).test c.args.scripts.now.1 in
    let after : Tree → Run = λ t. ends (expression_outcome images scripts (reading t)) in
    let o = outcome_of c.in_ok-answer_expression.field-0 in
    let made : HasOutcome files (after (tree_of c.in_ok-json.json)) asked asked o = (c.in_ok-answer_expression.ensures ∙ ap (expression_outcome images scripts) c.in_ok-read.ensures, refl) in
    of_text files images scripts c.args.text.now c.as_bytes.result.now asked o c.as_bytes.ensures.value ((c.in_ok-json.ensures.on files asked after).outcomes asked o made)

pub returns-in_err-json-clause-halt : goal.returns-in_err-json-clause-halt
returns-in_err-json-clause-halt g c = λ files count failed asked.
    let images = (goal.HostOp-dyn g c.args.images.now).test c.args.images.now.1 in let scripts = (goal.HostOp-dyn g c.args.scripts.now).test c.args.scripts.now.1 in
    let after : Tree → Run = λ t. ends (expression_outcome images scripts (reading t)) in
    at_residual (λ h. HaltsAt files (value_run images scripts c.args.text.now) count count failed failed asked asked h) c.in_err-json.field-0.0 c.from_residual.result c.from_residual.ensures.1
    (halt_of_text files images scripts c.args.text.now c.as_bytes.result.now count failed asked c.in_err-json.field-0.0 c.as_bytes.ensures.value (c.in_err-json.ensures.halt files count failed asked after))
