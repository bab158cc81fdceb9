use Rattle.std.proofs.Common.{rules, ◌<◌, ◌∙◌, length, ap, arith, subst, sym}
use Rattle.edit_script.specs.View.{command_seen}
use Rattle.edit_session.specs.View.{reply_seen, session_state, view_seen, IsSoundView}
use Rattle.edit_session.specs.declared.view.View.{View}
use Rattle.view_desk.specs.DeskState.{done_if, least_in}
use Rattle.view_desk.specs.View.{desk_state, desk_tiles}
use Rattle.view_desk.proofs.DeskReports.{view_is_silent}
use Rattle.view_desk.proofs.ViewPlaces.{is_at, is_nowhere}
use Rattle.view_desk.proofs.ViewsDone.{done_in_view, least_there, most_there}
use Rattle.view_desk.proofs.ViewsSound.{done_sound, sound_at}
use Rattle.view_desk.proofs.desk.Desk.apply_in.Goals as goal

-- ---- no view has the name

pub returns-in_default-clause-answer : goal.returns-in_default-clause-answer
returns-in_default-clause-answer g c =
    let images = goal.HostOp-dyn g c.args.images.now in
    let scripts = (goal.HostOp-dyn g c.args.scripts.now).test c.args.scripts.now.1 in
    let s = c.args.self.now in
    let name = c.args.name.now in
    let nowhere = is_nowhere name s.views.items (sym c.in_default.is ∙ (rw c.as_str.ensures at (rw c.as_slice.ensures.value at c.place_of.ensures.place))) in
    sym (ap (done_if (desk_tiles s) scripts (images.changes c.args.images.now.1) (desk_state s (images.test c.args.images.now.1)) name (command_seen c.args.command.now)) nowhere)

pub returns-in_default-clause-least : goal.returns-in_default-clause-least
returns-in_default-clause-least g c =
    let images = goal.HostOp-dyn g c.args.images.now in
    let scripts = (goal.HostOp-dyn g c.args.scripts.now).test c.args.scripts.now.1 in
    let s = c.args.self.now in
    let name = c.args.name.now in
    let nowhere = is_nowhere name s.views.items (sym c.in_default.is ∙ (rw c.as_str.ensures at (rw c.as_slice.ensures.value at c.place_of.ensures.place))) in
    let none = ap (least_in (desk_tiles s) scripts (session_state s.session (images.test c.args.images.now.1)) (command_seen c.args.command.now)) nowhere in
    omega (arith, none)

-- ---- something is done in the view of the name

pub apply_in-requires-clause-view : goal.apply_in-requires-clause-view
apply_in-requires-clause-view g c =
    let images = (goal.HostOp-dyn g c.args.images.now).test c.args.images.now.1 in
    let scripts = (goal.HostOp-dyn g c.args.scripts.now).test c.args.scripts.now.1 in
    let s = c.args.self.now in
    let within : c.in-Some.place < length s.views.items = search rules in
    subst (λ (v : View). IsSoundView s.session images scripts v) (sym c.index_mut-view.ensures.value)
    (sound_at s.session images scripts s.views.items c.in-Some.place c.index_mut-view.result.now within c.requires.desk.views)

pub returns-clause-answer : goal.returns-clause-answer
returns-clause-answer g c =
    let images = goal.HostOp-dyn g c.args.images.now in
    let scripts = (goal.HostOp-dyn g c.args.scripts.now).test c.args.scripts.now.1 in
    let s = c.args.self.now in
    let name = c.args.name.now in
    let old = c.index_mut-view.result.now in
    let at = is_at name s.views.items c.in-Some.place (sym c.in-Some.is ∙ (rw c.as_str.ensures at (rw c.as_slice.ensures.value at c.place_of.ensures.place))) in
    done_in_view (desk_tiles s) scripts (images.changes c.args.images.now.1) s.session c.apply_in.new.self s.views.items c.in-Some.place name _
    old c.apply_in.new.view (images.test c.args.images.now.1) (images.test c.apply_in.new.images) (command_seen c.args.command.now) (reply_seen c.in_ok-answer.answer)
    at (ap view_seen c.index_mut-view.ensures.value ∙ at.seen old) c.apply_in.ensures.name c.in_ok-answer.ensures.own c.in_ok-name.ensures.same c.in_ok-answer.ensures.answer

pub returns-clause-sound : goal.returns-clause-sound
returns-clause-sound g c =
    let images = goal.HostOp-dyn g c.args.images.now in
    let scripts = (goal.HostOp-dyn g c.args.scripts.now).test c.args.scripts.now.1 in
    let s = c.args.self.now in
    record {
      session = c.apply_in.ensures.sound;
      views = done_sound s.session c.apply_in.new.self (images.test c.args.images.now.1) (images.test c.apply_in.new.images) scripts c.apply_in.result
          c.apply_in.ensures.tiles c.apply_in.ensures.lacks c.apply_in.ensures.memory c.apply_in.ensures.own
          s.views.items c.in-Some.place c.apply_in.new.view c.requires.desk.views c.apply_in.ensures.sound_view;
    }

pub returns-in_err-answer-clause-sound : goal.returns-in_err-answer-clause-sound
returns-in_err-answer-clause-sound g c =
    let images = goal.HostOp-dyn g c.args.images.now in
    let scripts = (goal.HostOp-dyn g c.args.scripts.now).test c.args.scripts.now.1 in
    let s = c.args.self.now in
    record {
      session = c.apply_in.ensures.sound;
      views = done_sound s.session c.apply_in.new.self (images.test c.args.images.now.1) (images.test c.apply_in.new.images) scripts c.apply_in.result
          c.apply_in.ensures.tiles c.apply_in.ensures.lacks c.apply_in.ensures.memory c.apply_in.ensures.own
          s.views.items c.in-Some.place c.apply_in.new.view c.requires.desk.views c.apply_in.ensures.sound_view;
    }

pub returns-clause-least : goal.returns-clause-least
returns-clause-least g c =
    let images = goal.HostOp-dyn g c.args.images.now in
    let scripts = (goal.HostOp-dyn g c.args.scripts.now).test c.args.scripts.now.1 in
    let s = c.args.self.now in
    let name = c.args.name.now in
    let old = c.index_mut-view.result.now in
    let at = is_at name s.views.items c.in-Some.place (sym c.in-Some.is ∙ (rw c.as_str.ensures at (rw c.as_slice.ensures.value at c.place_of.ensures.place))) in
    let same = least_there (desk_tiles s) scripts (session_state s.session (images.test c.args.images.now.1)) (command_seen c.args.command.now)
    s.views.items c.in-Some.place name old at (ap view_seen c.index_mut-view.ensures.value ∙ at.seen old) in
    omega (arith, same, c.in_ok-answer.ensures.least)

pub returns-clause-most : goal.returns-clause-most
returns-clause-most g c =
    let images = goal.HostOp-dyn g c.args.images.now in
    let scripts = (goal.HostOp-dyn g c.args.scripts.now).test c.args.scripts.now.1 in
    let s = c.args.self.now in
    let name = c.args.name.now in
    let old = c.index_mut-view.result.now in
    let at = is_at name s.views.items c.in-Some.place (sym c.in-Some.is ∙ (rw c.as_str.ensures at (rw c.as_slice.ensures.value at c.place_of.ensures.place))) in
    let same = most_there (desk_tiles s) scripts (session_state s.session (images.test c.args.images.now.1)) (command_seen c.args.command.now)
    s.views.items c.in-Some.place name old at (ap view_seen c.index_mut-view.ensures.value ∙ at.seen old) in
    omega (arith, same, c.apply_in.ensures.most)

pub returns-in_err-answer-clause-most : goal.returns-in_err-answer-clause-most
returns-in_err-answer-clause-most g c =
    let images = goal.HostOp-dyn g c.args.images.now in
    let scripts = (goal.HostOp-dyn g c.args.scripts.now).test c.args.scripts.now.1 in
    let s = c.args.self.now in
    let name = c.args.name.now in
    let old = c.index_mut-view.result.now in
    let at = is_at name s.views.items c.in-Some.place (sym c.in-Some.is ∙ (rw c.as_str.ensures at (rw c.as_slice.ensures.value at c.place_of.ensures.place))) in
    let same = most_there (desk_tiles s) scripts (session_state s.session (images.test c.args.images.now.1)) (command_seen c.args.command.now)
    s.views.items c.in-Some.place name old at (ap view_seen c.index_mut-view.ensures.value ∙ at.seen old) in
    omega (arith, same, c.apply_in.ensures.most)

pub returns-clause-silent : goal.returns-clause-silent
returns-clause-silent g c =
    view_is_silent _ (command_seen c.args.command.now) _ _ _ c.requires.command c.apply_in.ensures.count c.apply_in.ensures.silent

pub returns-in_err-answer-clause-silent : goal.returns-in_err-answer-clause-silent
returns-in_err-answer-clause-silent g c =
    view_is_silent _ (command_seen c.args.command.now) _ _ _ c.requires.command c.apply_in.ensures.count c.apply_in.ensures.silent
