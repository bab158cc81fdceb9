use Rattle.std.proofs.Common.{◌∙◌, refl, sym}
use Rattle.decimal_json.specs.View.{tree_of}
use Rattle.edit_script.specs.View.{command_seen}
use Rattle.style_edits.specs.Edited.{edited_layers}
use Rattle.style_edits.specs.Layers.{layer_list}
use Rattle.edit_session.specs.View.{reply_seen, tiles_of}
use Rattle.edit_session.specs.PlainView.{plain_state}
use Rattle.edit_session.proofs.AllViewsLaws.{accepted, images_same, sound_done, sound_noted, sound_stays, sound_without, views_done, views_stay}
use Rattle.edit_session.proofs.FollowLaws.{changed_list}
use Rattle.edit_session.proofs.ViewLaws.{of_fault, of_fine}
use Rattle.edit_session.proofs.session.Session.apply_to_all_plain.Goals as goal

pub before-before-requires : goal.before-before-requires
before-before-requires g c = c.requires.session.ready c.if-self.false

pub returns-clause-views : goal.returns-clause-views
returns-clause-views g c =
    let s = c.args.self.now in
    let images = goal.HostOp-dyn g c.args.images.now in
    let images₀ = images.test c.args.images.now.1 in
    let images₁ = images.test c.apply_plain.new.images in
    let scripts = (goal.HostOp-dyn g c.args.scripts.now).test c.args.scripts.now.1 in
    let can_change = images.changes c.args.images.now.1 in
    let e = command_seen c.args.command.now in
    let r = reply_seen c.in_ok-answer.answer in
    let p = plain_state s images₀ in
    views_stay (tiles_of s) scripts can_change p s c.apply_plain.new.self images₀ images₁ r e c.requires.command refl refl c.apply_plain.ensures.tiles c.in_ok-answer.ensures.answer (sym c.is_done.ensures ∙ c.if-is_done.false) c.args.views.now

pub returns-clause-sound_views : goal.returns-clause-sound_views
returns-clause-sound_views g c =
    let s = c.args.self.now in
    let images = goal.HostOp-dyn g c.args.images.now in
    let images₀ = images.test c.args.images.now.1 in
    let images₁ = images.test c.apply_plain.new.images in
    let scripts = (goal.HostOp-dyn g c.args.scripts.now).test c.args.scripts.now.1 in
    let can_change = images.changes c.args.images.now.1 in
    let e = command_seen c.args.command.now in
    let r = reply_seen c.in_ok-answer.answer in
    let p = plain_state s images₀ in
    sound_stays (tiles_of s) scripts can_change p s c.apply_plain.new.self images₀ images₁ r e c.requires.command refl refl c.apply_plain.ensures.tiles c.in_ok-answer.ensures.answer (sym c.is_done.ensures ∙ c.if-is_done.false) c.if-self.false c.args.views.now c.requires.views

pub follow_in_all-requires-clause-ready : goal.follow_in_all-requires-clause-ready
follow_in_all-requires-clause-ready g c = c.apply_plain.ensures.sound.ready c.in_ok-answer.ensures.lacks

pub follow_in_all-requires-clause-accepted : goal.follow_in_all-requires-clause-accepted
follow_in_all-requires-clause-accepted g c =
    let s = c.args.self.now in
    let images = goal.HostOp-dyn g c.args.images.now in
    let images₀ = images.test c.args.images.now.1 in
    let images₁ = images.test c.apply_plain.new.images in
    let scripts = (goal.HostOp-dyn g c.args.scripts.now).test c.args.scripts.now.1 in
    let can_change = images.changes c.args.images.now.1 in
    let e = command_seen c.args.command.now in
    let r = reply_seen c.in_ok-answer.answer in
    let p = plain_state s images₀ in
    let d = tree_of s.document in (
      scripts,
      p,
      accepted (tiles_of s) scripts can_change p s c.apply_plain.new.self images₀ images₁ r e c.requires.command refl refl c.apply_plain.ensures.tiles c.in_ok-answer.ensures.answer c.before-before.result (sym c.is_done.ensures ∙ c.if-is_done.true) c.if-self.false
          (changed_list d (layer_list d) c.before-before.ensures.there (edited_layers e)) c.before-before.ensures.places c.args.views.now c.requires.views,
    )

pub returns-then-is_done-clause-views : goal.returns-then-is_done-clause-views
returns-then-is_done-clause-views g c =
    let s = c.args.self.now in
    let images = goal.HostOp-dyn g c.args.images.now in
    let images₀ = images.test c.args.images.now.1 in
    let images₁ = images.test c.apply_plain.new.images in
    let scripts = (goal.HostOp-dyn g c.args.scripts.now).test c.args.scripts.now.1 in
    let can_change = images.changes c.args.images.now.1 in
    let e = command_seen c.args.command.now in
    let r = reply_seen c.in_ok-answer.answer in
    let p = plain_state s images₀ in
    let d = tree_of s.document in
    let there = accepted (tiles_of s) scripts can_change p s c.apply_plain.new.self images₀ images₁ r e c.requires.command refl refl c.apply_plain.ensures.tiles c.in_ok-answer.ensures.answer c.before-before.result (sym c.is_done.ensures ∙ c.if-is_done.true) c.if-self.false
    (changed_list d (layer_list d) c.before-before.ensures.there (edited_layers e)) c.before-before.ensures.places c.args.views.now c.requires.views in
    views_done (tiles_of s) scripts can_change p s c.apply_plain.new.self images₀ images₁ r e c.requires.command refl refl c.apply_plain.ensures.tiles c.in_ok-answer.ensures.answer (sym c.is_done.ensures ∙ c.if-is_done.true) c.args.views.now c.follow_in_all.new.views
    (of_fine c.follow_in_all.result (sym c.is_err-lacks.ensures.value ∙ c.if-lacks.false) (c.follow_in_all.ensures.followed scripts p there))

pub returns-then-is_done-clause-sound_views : goal.returns-then-is_done-clause-sound_views
returns-then-is_done-clause-sound_views g c =
    let s = c.args.self.now in
    let images = goal.HostOp-dyn g c.args.images.now in
    let images₀ = images.test c.args.images.now.1 in
    let images₁ = images.test c.apply_plain.new.images in
    let scripts = (goal.HostOp-dyn g c.args.scripts.now).test c.args.scripts.now.1 in
    let can_change = images.changes c.args.images.now.1 in
    let e = command_seen c.args.command.now in
    let r = reply_seen c.in_ok-answer.answer in
    let p = plain_state s images₀ in
    let d = tree_of s.document in
    let there = accepted (tiles_of s) scripts can_change p s c.apply_plain.new.self images₀ images₁ r e c.requires.command refl refl c.apply_plain.ensures.tiles c.in_ok-answer.ensures.answer c.before-before.result (sym c.is_done.ensures ∙ c.if-is_done.true) c.if-self.false
    (changed_list d (layer_list d) c.before-before.ensures.there (edited_layers e)) c.before-before.ensures.places c.args.views.now c.requires.views in
    sound_noted c.apply_plain.new.self _ images₁ scripts c.follow_in_all.new.views refl c.in_ok-answer.ensures.lacks
    (sound_done (tiles_of s) scripts can_change p s c.apply_plain.new.self images₀ images₁ r e c.requires.command refl refl c.apply_plain.ensures.tiles c.in_ok-answer.ensures.answer (sym c.is_done.ensures ∙ c.if-is_done.true) c.args.views.now c.follow_in_all.new.views
    (of_fine c.follow_in_all.result (sym c.is_err-lacks.ensures.value ∙ c.if-lacks.false) (c.follow_in_all.ensures.followed scripts p there)))

pub returns-then-lacks-clause-lent : goal.returns-then-lacks-clause-lent
returns-then-lacks-clause-lent g c =
    let s = c.args.self.now in
    let images = goal.HostOp-dyn g c.args.images.now in
    let images₀ = images.test c.args.images.now.1 in
    let images₁ = images.test c.apply_plain.new.images in
    let scripts = (goal.HostOp-dyn g c.args.scripts.now).test c.args.scripts.now.1 in
    let can_change = images.changes c.args.images.now.1 in
    let e = command_seen c.args.command.now in
    let r = reply_seen c.in_ok-answer.answer in
    let p = plain_state s images₀ in
    images_same (tiles_of s) scripts can_change p s c.apply_plain.new.self images₀ images₁ r e c.requires.command refl refl c.apply_plain.ensures.tiles c.in_ok-answer.ensures.answer (sym c.is_done.ensures ∙ c.if-is_done.true) (of_fault c.follow_in_all.result (sym c.is_err-lacks.ensures.value ∙ c.if-lacks.true) c.follow_in_all.ensures.images)

pub returns-in_err-answer-clause-sound_views : goal.returns-in_err-answer-clause-sound_views
returns-in_err-answer-clause-sound_views g c =
    let images = goal.HostOp-dyn g c.args.images.now in
    let scripts = (goal.HostOp-dyn g c.args.scripts.now).test c.args.scripts.now.1 in
    sound_without c.apply_plain.new.self (images.test c.apply_plain.new.images) scripts c.args.views.now c.in_err-answer.ensures.lacks

pub returns-then-lacks-clause-sound_views : goal.returns-then-lacks-clause-sound_views
returns-then-lacks-clause-sound_views g c =
    let images = goal.HostOp-dyn g c.args.images.now in
    let scripts = (goal.HostOp-dyn g c.args.scripts.now).test c.args.scripts.now.1 in
    sound_without (record c.apply_plain.new.self { lacks_memory = c.is_err-lacks.result }) (images.test c.apply_plain.new.images) scripts
    c.follow_in_all.new.views c.if-lacks.true
