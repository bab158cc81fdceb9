use Rattle.std.proofs.Common.{◌∙◌, List, ap, map, subst, sym}
use Rattle.edit_session.specs.View.{session_state, view_seen, AreSoundViews}
use Rattle.edit_session.specs.declared.view.View.{View}
use Rattle.view_desk.specs.DeskState.{closed_if, done}
use Rattle.view_desk.specs.View.{desk_state}
use Rattle.view_desk.proofs.ViewPlaces.{is_at, is_nowhere}
use Rattle.view_desk.proofs.ViewsSound.{one_less}
use Rattle.view_desk.proofs.desk.Desk.close_view.Goals as goal

pub returns-in-Some-clause-answer : goal.returns-in-Some-clause-answer
returns-in-Some-clause-answer c = λ has_image scripts can_change.
    let s = c.args.self.now in
    let name = c.args.name.now in
    let at = is_at name s.views.items c.in-Some.place (sym c.in-Some.is ∙ (rw c.as_slice.ensures.value at c.place_of.ensures.place)) in
    (λ k. (record { style = session_state s.session has_image; views = (ap (map view_seen) c.remove.ensures.items ∙ at.without) k }, done))
    ∙ sym (ap (closed_if (desk_state s has_image) name) at.named)

pub returns-in-Some-clause-sound : goal.returns-in-Some-clause-sound
returns-in-Some-clause-sound c = λ has_image scripts sound.
    let s = c.args.self.now in
    record {
      session = sound.session;
      views = subst (λ (vs : List View). AreSoundViews s.session has_image scripts vs) (sym c.remove.ensures.items)
          (one_less s.session has_image scripts s.views.items c.in-Some.place sound.views);
    }

pub returns-in-None-clause-answer : goal.returns-in-None-clause-answer
returns-in-None-clause-answer c = λ has_image scripts can_change.
    let s = c.args.self.now in
    let name = c.args.name.now in
    let nowhere = is_nowhere name s.views.items (sym c.in-None.is ∙ (rw c.as_slice.ensures.value at c.place_of.ensures.place)) in
    sym (ap (closed_if (desk_state s has_image) name) nowhere)
