use Rattle.std.proofs.Common.{◌≡◌, ◌∙◌}
use Rattle.style_edits.proofs.DocumentLaws.{if_ok}
use Rattle.edit_session.specs.OpenViews.{fresh_view}
use Rattle.edit_session.specs.PlainView.{IsPlainSoundView, plain_state, plain_state_in}
use Rattle.edit_session.specs.View.{IsSoundView, session_state, tiles_of, view_seen}
use Rattle.edit_session.specs.declared.view.View.{View}
use Rattle.edit_session.proofs.RangedAnswers.{fresh_same}
use Rattle.edit_session.proofs.RangedKept.{kept_ranged}
use Rattle.edit_session.proofs.session.Session.open_view.Goals as goal

pub returns-clause-view : goal.returns-clause-view
returns-clause-view c = λ has_image.
    let s = c.args.self.now in
    let plain = λ (v : View). view_seen v ≡ fresh_view (plain_state s has_image) c.args.name c.args.zoom in
    if_ok c.open_view_plain.result plain plain (λ v. view_seen v ≡ fresh_view (session_state s has_image) c.args.name c.args.zoom)
    (λ v h k. h ∙ fresh_same s.ranges (plain_state s has_image) c.note_types.ensures.there c.args.name c.args.zoom)
    (c.open_view_plain.ensures.view has_image) (c.open_view_plain.ensures.view has_image)

pub returns-clause-sound : goal.returns-clause-sound
returns-clause-sound c = λ has_image scripts.
    let s = c.args.self.now in
    let plain = λ (v : View). IsPlainSoundView s has_image scripts v in
    if_ok c.open_view_plain.result plain plain (IsSoundView s has_image scripts)
    (λ v h k off. kept_ranged (tiles_of s) scripts (plain_state_in s v has_image) s.ranges v.kept c.note_types.ensures.there (h off))
    (c.open_view_plain.ensures.sound has_image scripts) (c.open_view_plain.ensures.sound has_image scripts)
