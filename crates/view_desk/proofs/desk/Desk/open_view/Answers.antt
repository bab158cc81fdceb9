use Rattle.std.proofs.Common.{◌≡◌, ◌∙◌, ◌++◌, ◌∷◌, [], ap, map, subst, sym, List}
use Rattle.std.proofs.lemmas.List.{map-append}
use Rattle.edit_session.specs.OpenViews.{fresh_view}
use Rattle.edit_session.specs.View.{view_seen, AreSoundViews}
use Rattle.edit_session.specs.declared.view.View.{View}
use Rattle.view_desk.specs.DeskState.{DeskState, done, opened_unless}
use Rattle.view_desk.specs.View.{desk_state}
use Rattle.view_desk.proofs.ViewsSound.{one_more}
use Rattle.view_desk.proofs.desk.Desk.open_view.Goals as goal

pub returns-in-Some-clause-answer : goal.returns-in-Some-clause-answer
returns-in-Some-clause-answer c = λ has_image scripts can_change.
    ap (λ o. opened_unless o (desk_state c.args.self.now has_image) c.args.name.now c.args.zoom)
    (sym c.in-Some.is ∙ (rw c.as_str.ensures at c.opening_refusal.ensures has_image))

pub returns-clause-answer : goal.returns-clause-answer
returns-clause-answer c = λ has_image scripts can_change.
    let name = c.args.name.now in
    let s = c.args.self.now in
    let d : DeskState = desk_state s has_image in
    let view : View = c.in_ok-view.view in
    let fresh : view_seen view ≡ fresh_view d.style name c.args.zoom =
    c.in_ok-view.ensures.view has_image ∙ (λ k. fresh_view d.style (c.in_ok-share.ensures.same k) c.args.zoom) in
    let views : map view_seen c.push.new.self.items ≡ d.views ++ fresh_view d.style name c.args.zoom ∷ [] =
    ap (map view_seen) c.in_ok-push.ensures.items ∙ (map-append view_seen s.views.items (view ∷ []) ∙ ap (λ v. d.views ++ v ∷ []) fresh) in
    (λ k. (record d { views = views k }, done))
    ∙ ap (λ o. opened_unless o d name c.args.zoom) (sym c.in_default.is ∙ (rw c.as_str.ensures at c.opening_refusal.ensures has_image))

pub returns-clause-sound : goal.returns-clause-sound
returns-clause-sound c = λ has_image scripts sound.
    let s = c.args.self.now in
    record {
      session = sound.session;
      views = subst (λ (vs : List View). AreSoundViews s.session has_image scripts vs) (sym c.in_ok-push.ensures.items)
          (one_more s.session has_image scripts s.views.items c.in_ok-view.view sound.views (c.in_ok-view.ensures.sound has_image scripts));
    }

pub returns-in_err-push-clause-sound : goal.returns-in_err-push-clause-sound
returns-in_err-push-clause-sound c = λ has_image scripts sound.
    let s = c.args.self.now in
    record {
      session = sound.session;
      views = subst (λ (vs : List View). AreSoundViews s.session has_image scripts vs) (sym c.in_err-push.ensures.items) sound.views;
    }
