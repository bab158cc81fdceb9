use Rattle.std.proofs.Common.{refl}
use Rattle.style_program.proofs.AnsweredSteps.{answered_still}
use Rattle.style_program.proofs.reply.prepare_answer.Goals as goal

pub returns-in-Ok-clause-run : goal.returns-in-Ok-clause-run
returns-in-Ok-clause-run g c = λ then_images then_changes steps.
    answered_still (g.F.Files.told c.args.files.now) _ _ _ steps steps c.in-Ok.answer refl c.in-Ok.ensures.answer

pub returns-in-Err-Refused-clause-run : goal.returns-in-Err-Refused-clause-run
returns-in-Err-Refused-clause-run g c = λ then_images then_changes steps.
    answered_still (g.F.Files.told c.args.files.now) _ _ _ steps steps c.in-Err-Refused.answer refl (rw c.in-Err-Refused.field-0-is at c.in-Err-Refused.ensures.halt).1
