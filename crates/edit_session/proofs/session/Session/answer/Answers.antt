use Rattle.std.proofs.Common.{◌≡◌, ap, sym, subst}
use Rattle.std.specs.Prelude.{IfOk}
use Rattle.edit_script.specs.Edit.{Edit}
use Rattle.edit_script.specs.View.{command_seen}
use Rattle.edit_session.specs.Applied.{applied}
use Rattle.edit_session.specs.View.{reply_seen, tiles_of}
use Rattle.edit_session.specs.PlainView.{plain_state}
use Rattle.edit_session.proofs.AnswerLaws.{on_ok_always, quiet_least, quiet_most}
use Rattle.edit_session.proofs.session.Session.answer.Goals as goal

pub returns-in-List-clause-answer : goal.returns-in-List-clause-answer
returns-in-List-clause-answer g c =
    let images = goal.HostOp-dyn g c.args.images.now in
    let has_image = images.test c.args.images.now.1 in
    let scripts = (goal.HostOp-dyn g c.args.scripts.now).test c.args.scripts.now.1 in
    let can_change = images.changes c.args.images.now.1 in
    let s = c.args.self.now in
    subst (λ (e : Edit). IfOk c.answer_list.result (λ answer. (plain_state c.answer_list.new.self has_image, reply_seen answer)
    ≡ applied (tiles_of s) scripts can_change (plain_state s has_image) e))
    (sym (ap command_seen c.in-List.is)) (c.answer_list.ensures.answer can_change)

pub returns-in_default : goal.returns-in_default
returns-in_default g c =
    let has_image = (goal.HostOp-dyn g c.args.images.now).test c.args.images.now.1 in
    let scripts = (goal.HostOp-dyn g c.args.scripts.now).test c.args.scripts.now.1 in
    let s = c.args.self.now in
    let p = plain_state s has_image in
    let e = c.answer_edit.ensures in
    record {
      answer = e.answer scripts;
      tiles = e.tiles;
      ranges = e.ranges;
      changes = e.changes;
      count = e.count;
      lent = e.lent;
      ready = e.ready;
      kept = e.kept scripts c.requires.kept;
      least = on_ok_always c.answer_edit.result
          (quiet_least (tiles_of s) scripts p c.args.command.now c.in_default.not-List c.args.steps.now);
      most = quiet_most (tiles_of s) scripts p c.args.command.now c.args.steps.now;
      memory = e.memory;
    }
