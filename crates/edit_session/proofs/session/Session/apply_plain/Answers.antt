use Rattle.std.proofs.Common.{◌∙◌, sym}
use Rattle.edit_session.proofs.ViewLaws.{of_fine}
use Rattle.edit_session.proofs.session.Session.apply_plain.Goals as goal

pub answer-answer-requires-clause-ready : goal.answer-answer-requires-clause-ready
answer-answer-requires-clause-ready g c = c.requires.ready c.if-self.false

pub answer-answer-requires-clause-kept : goal.answer-answer-requires-clause-kept
answer-answer-requires-clause-kept g c = c.requires.kept c.if-self.false

pub returns-clause-sound : goal.returns-clause-sound
returns-clause-sound g c = record {
  ready = λ off. of_fine c.answer-answer.result (sym c.is_err-self.ensures.value ∙ off) c.answer-answer.ensures.ready;
  kept = λ off. of_fine c.answer-answer.result (sym c.is_err-self.ensures.value ∙ off) c.answer-answer.ensures.kept;
}
