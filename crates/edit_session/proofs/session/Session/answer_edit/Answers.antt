use Rattle.std.proofs.Common.{◌∙◌, sym}
use Rattle.edit_script.specs.View.{command_seen}
use Rattle.edit_session.specs.View.{reply_seen}
use Rattle.edit_session.specs.PlainView.{plain_state}
use Rattle.edit_session.proofs.DoneLaws.{accepted, done_answered, done_kept, other_answered, other_kept, same_images}
use Rattle.edit_session.proofs.FollowingLaws.{on_err_so}
use Rattle.edit_session.proofs.session.Session.answer_edit.Goals as goal

pub follow-requires-clause-accepted : goal.follow-requires-clause-accepted
follow-requires-clause-accepted g c =
    let s = c.args.self.now in
    let images = goal.HostOp-dyn g c.args.images.now in
    let (scripts, k) = c.requires.kept in (
      scripts,
      plain_state s (images.test c.args.images.now.1),
      accepted s c.changed.new.self (images.test c.args.images.now.1) (images.test c.changed.new.images) scripts (images.changes c.args.images.now.1)
          (command_seen c.args.command.now) (reply_seen c.in_ok-answer.answer) (c.in_ok-answer.ensures.answer scripts)
          c.changed.ensures.tiles c.changed.ensures.kept (sym c.is_done.ensures ∙ c.if-is_done.true)
          c.before-before.result c.before-before.ensures.there c.before-before.ensures.places c.before-before.ensures.zoom k,
    )

pub returns-clause-answer : goal.returns-clause-answer
returns-clause-answer g c = λ scripts.
    let s = c.args.self.now in
    let images = goal.HostOp-dyn g c.args.images.now in
    other_answered s c.changed.new.self (images.test c.args.images.now.1) (images.test c.changed.new.images) scripts (images.changes c.args.images.now.1)
    (command_seen c.args.command.now) (reply_seen c.in_ok-answer.answer) (c.in_ok-answer.ensures.answer scripts)
    c.changed.ensures.tiles c.changed.ensures.kept (sym c.is_done.ensures ∙ c.if-is_done.false)

pub returns-clause-kept : goal.returns-clause-kept
returns-clause-kept g c = λ scripts k.
    let s = c.args.self.now in
    let images = goal.HostOp-dyn g c.args.images.now in
    other_kept s c.changed.new.self (images.test c.args.images.now.1) (images.test c.changed.new.images) scripts (images.changes c.args.images.now.1)
    (command_seen c.args.command.now) (reply_seen c.in_ok-answer.answer) (c.in_ok-answer.ensures.answer scripts)
    c.changed.ensures.tiles c.changed.ensures.kept c.requires.edit (sym c.is_done.ensures ∙ c.if-is_done.false) k

pub returns-then-is_done-clause-answer : goal.returns-then-is_done-clause-answer
returns-then-is_done-clause-answer g c = λ scripts.
    let s = c.args.self.now in
    let images = goal.HostOp-dyn g c.args.images.now in
    let images₀ = images.test c.args.images.now.1 in
    let images₁ = images.test c.changed.new.images in
    let can_change = images.changes c.args.images.now.1 in
    let e = command_seen c.args.command.now in
    let r = reply_seen c.in_ok-answer.answer in
    let is_so = sym c.is_done.ensures ∙ c.if-is_done.true in
    let (tests, k) = c.requires.kept in
    let there = accepted s c.changed.new.self images₀ images₁ tests can_change e r (c.in_ok-answer.ensures.answer tests)
    c.changed.ensures.tiles c.changed.ensures.kept is_so c.before-before.result c.before-before.ensures.there c.before-before.ensures.places c.before-before.ensures.zoom k in
    let followed = c.in_ok-follow.ensures.followed tests (plain_state s images₀) there in
    done_answered s c.changed.new.self images₀ images₁ scripts can_change e r (c.in_ok-answer.ensures.answer scripts)
    c.changed.ensures.tiles c.changed.ensures.kept is_so c.follow.new.self c.follow.ensures.others followed.seen

pub returns-then-is_done-clause-kept : goal.returns-then-is_done-clause-kept
returns-then-is_done-clause-kept g c = λ scripts k.
    let s = c.args.self.now in
    let images = goal.HostOp-dyn g c.args.images.now in
    let images₀ = images.test c.args.images.now.1 in
    let images₁ = images.test c.changed.new.images in
    let can_change = images.changes c.args.images.now.1 in
    let e = command_seen c.args.command.now in
    let r = reply_seen c.in_ok-answer.answer in
    let is_so = sym c.is_done.ensures ∙ c.if-is_done.true in
    let given = c.in_ok-answer.ensures.answer scripts in
    let there = accepted s c.changed.new.self images₀ images₁ scripts can_change e r given
    c.changed.ensures.tiles c.changed.ensures.kept is_so c.before-before.result c.before-before.ensures.there c.before-before.ensures.places c.before-before.ensures.zoom k in
    let followed = c.in_ok-follow.ensures.followed scripts (plain_state s images₀) there in
    done_kept s c.changed.new.self images₀ images₁ scripts can_change e r given
    c.changed.ensures.tiles c.changed.ensures.kept is_so c.follow.new.self c.follow.ensures.others followed.seen followed.right

pub returns-in_err-follow-clause-lent : goal.returns-in_err-follow-clause-lent
returns-in_err-follow-clause-lent g c =
    let s = c.args.self.now in
    let images = goal.HostOp-dyn g c.args.images.now in
    let (tests, k) = c.requires.kept in
    on_err_so c.from_residual-in_err-follow.result
    (same_images s c.changed.new.self (images.test c.args.images.now.1) (images.test c.changed.new.images) tests (images.changes c.args.images.now.1)
    (command_seen c.args.command.now) (reply_seen c.in_ok-answer.answer) (c.in_ok-answer.ensures.answer tests)
    c.changed.ensures.tiles c.changed.ensures.kept c.in_err-follow.ensures.images)
