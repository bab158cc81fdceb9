use Rattle.std.proofs.Common.{true, refl}
use Rattle.style_program.specs.EvalRun.{eval_run}
use Rattle.style_program.specs.WordsView.{eval_words}
use Rattle.style_program.proofs.AnsweredSteps.{answered_still}
use Rattle.style_program.proofs.reply.prepare_eval.Goals as goal

pub returns-in-Ok-clause-run : goal.returns-in-Ok-clause-run
returns-in-Ok-clause-run g c = λ images scripts can_change steps.
    (c.in-Ok.ensures.sound images scripts, c.in-Ok.ensures.on images scripts, refl)

pub returns-in-Err-Refused-clause-failed : goal.returns-in-Err-Refused-clause-failed
returns-in-Err-Refused-clause-failed g c =
    (rw c.in-Err-Refused.field-0-is at c.in-Err-Refused.ensures.halt (λ _. true) (λ _. true)).0

pub returns-in-Err-Refused-clause-run : goal.returns-in-Err-Refused-clause-run
returns-in-Err-Refused-clause-run g c = λ images scripts can_change steps.
    answered_still (g.F.Files.told c.args.files.now) (eval_run (eval_words c.args.request.now) images scripts)
    (g.F.Files.asked c.args.files.now) (g.F.Files.asked c.open_eval.new.files) steps steps c.in-Err-Refused.answer refl
    (rw c.in-Err-Refused.field-0-is at c.in-Err-Refused.ensures.halt images scripts).1

pub returns-in-Err-Stopped-clause-stop : goal.returns-in-Err-Stopped-clause-stop
returns-in-Err-Stopped-clause-stop g c = λ images scripts.
    rw c.in-Err-Stopped.field-0-is at c.in-Err-Stopped.ensures.halt images scripts
