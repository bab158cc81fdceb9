use Rattle.std.proofs.Common.{ap, sym, subst}
use Rattle.std.specs.Prelude.{IfOk}
use Rattle.edit_script.specs.Edit.{Edit}
use Rattle.edit_script.specs.View.{command_seen}
use Rattle.edit_session.specs.Answering.{IsAnswer}
use Rattle.edit_session.specs.View.{tiles_of}
use Rattle.edit_session.specs.PlainView.{plain_state}
use Rattle.edit_session.proofs.session.Session.answer_possible.Goals as goal

pub returns-in-SetState-clause-answer : goal.returns-in-SetState-clause-answer
returns-in-SetState-clause-answer g c = λ scripts.
    let images = goal.HostOp-dyn g c.args.images.now in
    let has_image = images.test c.args.images.now.1 in
    let can_change = images.changes c.args.images.now.1 in
    let s = c.args.self.now in
    subst (λ (e : Edit). IfOk c.set_state.result (IsAnswer (tiles_of s) scripts can_change (plain_state s has_image) (plain_state c.set_state.new.self has_image) e))
    (sym (ap command_seen c.in-SetState.is)) (c.set_state.ensures.answer has_image scripts can_change)

pub returns-in-SetGlobal-clause-answer : goal.returns-in-SetGlobal-clause-answer
returns-in-SetGlobal-clause-answer g c = λ scripts.
    let images = goal.HostOp-dyn g c.args.images.now in
    let has_image = images.test c.args.images.now.1 in
    let can_change = images.changes c.args.images.now.1 in
    let s = c.args.self.now in
    subst (λ (e : Edit). IfOk c.set_global.result (IsAnswer (tiles_of s) scripts can_change (plain_state s has_image) (plain_state c.set_global.new.self has_image) e))
    (sym (ap command_seen c.in-SetGlobal.is)) (c.set_global.ensures.answer has_image scripts can_change)
