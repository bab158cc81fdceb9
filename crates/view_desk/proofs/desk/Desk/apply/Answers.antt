use Rattle.std.proofs.Common.{◌≡◌, ◌∙◌, rules, List, ap, map}
use Rattle.std.proofs.lemmas.List.{places, with_items_is}
use Rattle.std.specs.Vec.{with_items}
use Rattle.edit_script.specs.View.{command_seen}
use Rattle.edit_session.specs.OpenViews.{OpenView, in_each}
use Rattle.edit_session.specs.View.{reply_seen, session_state, view_seen}
use Rattle.edit_session.specs.declared.view.View.{View}
use Rattle.outside_io.specs.WritingLaws.{at_error}
use Rattle.script_runs.proofs.ImageReports.{where_answered, where_failed}
use Rattle.view_desk.specs.DeskState.{done_to_all, style_reply}
use Rattle.view_desk.specs.View.{desk_state, desk_tiles}
use Rattle.view_desk.proofs.desk.Desk.apply.Goals as goal

pub returns-clause-answer : goal.returns-clause-answer
returns-clause-answer g c =
    let images = goal.HostOp-dyn g c.args.images.now in
    let scripts = (goal.HostOp-dyn g c.args.scripts.now).test c.args.scripts.now.1 in
    let s = c.args.self.now in
    let has_image = images.test c.args.images.now.1 in
    let can_change = images.changes c.args.images.now.1 in
    let edit = command_seen c.args.command.now in
    let views : List View = c.apply_to_all.new.views in
    let put : (with_items s.views views).items ≡ views = with_items_is s.views views (search (rules, places)) in
    let each : List View → List OpenView = λ vs. in_each (desk_tiles s) scripts can_change (session_state s.session has_image) edit (map view_seen vs) in
    let left : map view_seen (with_items s.views views).items ≡ each s.views.items =
    ap (map view_seen) put ∙ (c.in_ok-answer.ensures.views ∙ ap each c.as_mut_slice-views.ensures.value) in
    (λ k. (
      record { style = session_state c.apply_to_all.new.self (images.test c.apply_to_all.new.images); views = left k },
      style_reply (reply_seen c.in_ok-answer.answer),
    ))
    ∙ ap (done_to_all (desk_tiles s) scripts can_change (desk_state s has_image) edit) c.in_ok-answer.ensures.answer

pub returns-clause-count : goal.returns-clause-count
returns-clause-count g c = where_answered _ c.in_ok-answer.ensures.memory c.in_ok-answer.ensures.count

pub returns-in_err-answer-clause-count_failed : goal.returns-in_err-answer-clause-count_failed
returns-in_err-answer-clause-count_failed g c =
    at_error c.from_residual.result (where_failed _ c.in_err-answer.ensures.silent c.in_err-answer.ensures.count)
