use Rattle.std.proofs.Common.{refl}
use Rattle.std.specs.Prelude.{None}
use Rattle.decimal_json.specs.View.{tree_of}
use Rattle.program_runs.specs.Progress.{HaltSteps, HaltsAt, outcome_of}
use Rattle.program_runs.specs.Runs.{after_counts}
use Rattle.program_runs.specs.declared.halt.RunHalt.TheVariants.{Stopped}
use Rattle.program_runs.specs.declared.halt.RunStop.TheVariants.{NoMemory}
use Rattle.program_runs.proofs.Going.{at_residual, halts_on}
use Rattle.style_program.specs.GenerateRun.{generate_run, opened_run}
use Rattle.style_program.proofs.AnsweredSteps.{halt_still}
use Rattle.style_program.proofs.GeneratedRuns.{behind_style, generated_due, generated_made}
use Rattle.style_program.proofs.generate_command.answer_generate.Goals as goal

pub returns-clause-answer : goal.returns-clause-answer
returns-clause-answer g c =
    let images = (goal.HostOp-dyn g c.args.images.now).test c.args.images.now.1 in
    let can_change = (goal.HostOp-dyn g c.args.images.now).changes c.args.images.now.1 in
    let scripts = (goal.HostOp-dyn g c.args.scripts.now).test c.args.scripts.now.1 in
    λ files asked.
    let made = c.in_ok-answer_opened.ensures.answer files asked in (
      made.0,
      made.1,
      generated_made files c.args.features images scripts can_change asked (tree_of c.in_ok-style.style) (after_counts made.0 made.1 (outcome_of c.in_ok-answer_opened.field-0))
          (c.in_ok-style.ensures.on files asked) c.in_ok-refuse_broken.ensures.sound made.2,
      made.3,
    )

pub returns-in_err-style-clause-halt : goal.returns-in_err-style-clause-halt
returns-in_err-style-clause-halt g c =
    let images = (goal.HostOp-dyn g c.args.images.now).test c.args.images.now.1 in
    let can_change = (goal.HostOp-dyn g c.args.images.now).changes c.args.images.now.1 in
    let scripts = (goal.HostOp-dyn g c.args.scripts.now).test c.args.scripts.now.1 in
    λ files count failed asked. at_residual (λ h. HaltsAt files (generate_run c.args.features images scripts can_change) count count failed failed asked asked h)
    c.in_err-style.field-0.0 c.from_residual.result c.from_residual.ensures.1
    (c.in_err-style.ensures.halt files count failed asked (behind_style c.args.features images scripts can_change))

pub returns-in_err-refuse_broken-clause-halt : goal.returns-in_err-refuse_broken-clause-halt
returns-in_err-refuse_broken-clause-halt g c =
    let images = (goal.HostOp-dyn g c.args.images.now).test c.args.images.now.1 in
    let can_change = (goal.HostOp-dyn g c.args.images.now).changes c.args.images.now.1 in
    let scripts = (goal.HostOp-dyn g c.args.scripts.now).test c.args.scripts.now.1 in
    let document = tree_of c.in_ok-style.style in
    let run = generate_run c.args.features images scripts can_change in
    let after = behind_style c.args.features images scripts can_change in
    λ files count failed asked. at_residual (λ h. HaltsAt files run count count failed failed asked asked h)
    c.in_err-refuse_broken.field-0.0 c.from_residual-in_err-refuse_broken.result c.from_residual-in_err-refuse_broken.ensures.1
    (halts_on files run (after document) count count count failed failed failed asked asked asked c.in_err-refuse_broken.field-0.0
    (c.in_ok-style.ensures.on files asked after) (refl, refl)
    (c.in_err-refuse_broken.ensures.halt files count failed asked (opened_run c.args.features images scripts can_change document)))

pub returns-in_err-style-clause-steps : goal.returns-in_err-style-clause-steps
returns-in_err-style-clause-steps g c =
    let images = (goal.HostOp-dyn g c.args.images.now).test c.args.images.now.1 in
    let can_change = (goal.HostOp-dyn g c.args.images.now).changes c.args.images.now.1 in
    let scripts = (goal.HostOp-dyn g c.args.scripts.now).test c.args.scripts.now.1 in
    let run = generate_run c.args.features images scripts can_change in
    let halt = c.in_err-style.field-0.0 in
    λ files asked. at_residual (λ h. HaltSteps files run asked asked c.args.steps.now c.args.steps.now h) halt c.from_residual.result c.from_residual.ensures.1
    (halt_still files run asked asked 0 0 None None c.args.steps.now halt
    (c.in_err-style.ensures.halt files 0 None asked (behind_style c.args.features images scripts can_change)))

pub returns-in_err-refuse_broken-clause-steps : goal.returns-in_err-refuse_broken-clause-steps
returns-in_err-refuse_broken-clause-steps g c =
    let images = (goal.HostOp-dyn g c.args.images.now).test c.args.images.now.1 in
    let can_change = (goal.HostOp-dyn g c.args.images.now).changes c.args.images.now.1 in
    let scripts = (goal.HostOp-dyn g c.args.scripts.now).test c.args.scripts.now.1 in
    let document = tree_of c.in_ok-style.style in
    let run = generate_run c.args.features images scripts can_change in
    let after = behind_style c.args.features images scripts can_change in
    let halt = c.in_err-refuse_broken.field-0.0 in
    λ files asked. at_residual (λ h. HaltSteps files run asked asked c.args.steps.now c.args.steps.now h)
    halt c.from_residual-in_err-refuse_broken.result c.from_residual-in_err-refuse_broken.ensures.1
    (halt_still files run asked asked 0 0 None None c.args.steps.now halt
    (halts_on files run (after document) 0 0 0 None None None asked asked asked halt (c.in_ok-style.ensures.on files asked after) (refl, refl)
    (c.in_err-refuse_broken.ensures.halt files 0 None asked (opened_run c.args.features images scripts can_change document))))

pub returns-in_err-answer_opened-clause-steps : goal.returns-in_err-answer_opened-clause-steps
returns-in_err-answer_opened-clause-steps g c =
    let images = (goal.HostOp-dyn g c.args.images.now).test c.args.images.now.1 in
    let can_change = (goal.HostOp-dyn g c.args.images.now).changes c.args.images.now.1 in
    let scripts = (goal.HostOp-dyn g c.args.scripts.now).test c.args.scripts.now.1 in
    let run = generate_run c.args.features images scripts can_change in
    λ files asked. at_residual (λ h. HaltSteps files run asked asked c.args.steps.now c.answer_opened.new.steps h) (Stopped NoMemory)
    c.from_residual-in_err-answer_opened.result c.from_residual-in_err-answer_opened.ensures.1
    (generated_due files c.args.features images scripts can_change asked (tree_of c.in_ok-style.style) _ _
    (c.in_ok-style.ensures.on files asked) c.in_ok-refuse_broken.ensures.sound (c.in_err-answer_opened.ensures.due files asked))
