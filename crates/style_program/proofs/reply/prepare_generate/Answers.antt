use Rattle.std.specs.Prelude.{None}
use Rattle.style_program.specs.GenerateRun.{generate_run}
use Rattle.style_program.proofs.AnsweredSteps.{answered_still}
use Rattle.style_program.proofs.reply.prepare_generate.Goals as goal

pub returns-in-Ok-clause-run : goal.returns-in-Ok-clause-run
returns-in-Ok-clause-run g c = λ files asked then_images then_changes. c.in-Ok.ensures.answer files asked

pub returns-in-Err-Refused-clause-run : goal.returns-in-Err-Refused-clause-run
returns-in-Err-Refused-clause-run g c =
    let images = (goal.HostOp-dyn g c.args.images.now).test c.args.images.now.1 in
    let scripts = (goal.HostOp-dyn g c.args.scripts.now).test c.args.scripts.now.1 in
    let can_change = (goal.HostOp-dyn g c.args.images.now).changes c.args.images.now.1 in
    λ files asked then_images then_changes.
    answered_still files (generate_run c.args.features images scripts can_change) asked asked _ _
    c.in-Err-Refused.answer
    (rw c.in-Err-Refused.field-0-is at c.in-Err-Refused.ensures.steps files asked)
    (rw c.in-Err-Refused.field-0-is at c.in-Err-Refused.ensures.halt files 0 None asked).1

pub returns-in-Err-Stopped-clause-stop : goal.returns-in-Err-Stopped-clause-stop
returns-in-Err-Stopped-clause-stop g c = λ files count failed asked.
    rw c.in-Err-Stopped.field-0-is at c.in-Err-Stopped.ensures.halt files count failed asked

pub returns-in-Err-Stopped-clause-due : goal.returns-in-Err-Stopped-clause-due
returns-in-Err-Stopped-clause-due g c = λ files asked.
    rw c.in-Err-Stopped.field-0-is at c.in-Err-Stopped.ensures.steps files asked
