use Rattle.std.proofs.Common.{◌≡◌, ◌∙◌, ℕ, ap}
use Rattle.decimal_json.specs.View.{tree_of}
use Rattle.edit_session.specs.SessionState.{opened}
use Rattle.edit_session.specs.declared.opening.OpenedLayers.{OpenedLayers}
use Rattle.edit_session.proofs.RangedAnswers.{sound_session, with_none}
use Rattle.edit_session.specs.PlainView.{plain_state}
use Rattle.edit_session.proofs.ViewLaws.{of_ok}
use Rattle.edit_session.proofs.session.Session.open_sound.Goals as goal

pub returns-in-Ok-clause-opened : goal.returns-in-Ok-clause-opened
returns-in-Ok-clause-opened c = λ has_image.
    let s = c.in_ok-over-in-Ok.field-0 in
    let limit = of_ok (λ (first : OpenedLayers). first.layers.limit ≡ c.args.limit) c.in_ok-first.field-0 c.in-Ok.first c.in-Ok.is c.in_ok-first.ensures.limit in
    with_none s.ranges (plain_state s has_image) c.in_ok-over-in-Ok.ensures.there c.in_ok-over-in-Ok.ensures.none
    ∙ (c.in_ok-over-in-Ok.ensures.opened has_image ∙ ap (λ (l : ℕ). opened l (tree_of c.args.style) c.args.zoom has_image) limit)

pub returns-in-Ok-clause-sound : goal.returns-in-Ok-clause-sound
returns-in-Ok-clause-sound c = λ has_image scripts.
    let s = c.in_ok-over-in-Ok.field-0 in
    sound_session s has_image scripts c.in_ok-over-in-Ok.ensures.there c.in_ok-over-in-Ok.ensures.slots (c.in_ok-over-in-Ok.ensures.sound has_image scripts)
