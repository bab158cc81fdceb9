use Rattle.std.proofs.Common.{◌≡◌, ◌+◌, ◌≤◌, Ok, ap, sym, subst}
use Rattle.std.specs.Prelude.{IfOk, OnOk}
use Rattle.view_desk.specs.DeskLines.{DeskEdit}
use Rattle.view_desk.specs.DeskState.{desk_applied, desk_least, desk_most}
use Rattle.view_desk.specs.View.{answer_seen, desk_command_seen, desk_state, desk_tiles, IsWellSorted}
use Rattle.view_desk.proofs.desk.Desk.obey.Goals as goal

pub open_view-requires : goal.open_view-requires
open_view-requires g c = c.requires.desk.session.ready

pub returns-in-OpenView-clause-answer : goal.returns-in-OpenView-clause-answer
returns-in-OpenView-clause-answer g c =
    let images = goal.HostOp-dyn g c.args.images.now in
    let has_image = images.test c.args.images.now.1 in
    let scripts = (goal.HostOp-dyn g c.args.scripts.now).test c.args.scripts.now.1 in
    let can_change = images.changes c.args.images.now.1 in
    let s = c.args.self.now in
    subst (λ (e : DeskEdit). IfOk c.open_view.result (λ answer. (desk_state c.open_view.new.self has_image, answer_seen answer) ≡ desk_applied (desk_tiles s) scripts can_change (desk_state s has_image) e))
    (sym (ap desk_command_seen c.in-OpenView.is)) (c.open_view.ensures.answer has_image scripts can_change)

pub returns-in-OpenView-clause-sound : goal.returns-in-OpenView-clause-sound
returns-in-OpenView-clause-sound g c = c.open_view.ensures.sound _ _ c.requires.desk

pub returns-in-CloseView-clause-answer : goal.returns-in-CloseView-clause-answer
returns-in-CloseView-clause-answer g c =
    let images = goal.HostOp-dyn g c.args.images.now in
    let has_image = images.test c.args.images.now.1 in
    let scripts = (goal.HostOp-dyn g c.args.scripts.now).test c.args.scripts.now.1 in
    let can_change = images.changes c.args.images.now.1 in
    let s = c.args.self.now in
    subst (λ (e : DeskEdit). (desk_state c.close_view.new.self has_image, answer_seen c.close_view.result) ≡ desk_applied (desk_tiles s) scripts can_change (desk_state s has_image) e)
    (sym (ap desk_command_seen c.in-CloseView.is)) (rw c.as_str.ensures at c.close_view.ensures.answer has_image scripts can_change)

pub returns-in-CloseView-clause-sound : goal.returns-in-CloseView-clause-sound
returns-in-CloseView-clause-sound g c = c.close_view.ensures.sound _ _ c.requires.desk

pub apply_in-requires-clause-command : goal.apply_in-requires-clause-command
apply_in-requires-clause-command g c = subst IsWellSorted c.in-InView.is c.requires.command

pub apply-requires-clause-command : goal.apply-requires-clause-command
apply-requires-clause-command g c = subst IsWellSorted c.in-OfStyle.is c.requires.command

pub returns-in-InView-clause-least : goal.returns-in-InView-clause-least
returns-in-InView-clause-least g c =
    let images = goal.HostOp-dyn g c.args.images.now in
    let has_image = images.test c.args.images.now.1 in
    let scripts = (goal.HostOp-dyn g c.args.scripts.now).test c.args.scripts.now.1 in
    let s = c.args.self.now in
    subst (λ (e : DeskEdit). OnOk c.apply_in.result (c.args.steps.now + desk_least (desk_tiles s) scripts (desk_state s has_image) (Ok e) ≤ c.apply_in.new.steps))
    (sym (ap desk_command_seen c.in-InView.is)) c.apply_in.ensures.least

pub returns-in-InView-clause-most : goal.returns-in-InView-clause-most
returns-in-InView-clause-most g c =
    let images = goal.HostOp-dyn g c.args.images.now in
    let has_image = images.test c.args.images.now.1 in
    let scripts = (goal.HostOp-dyn g c.args.scripts.now).test c.args.scripts.now.1 in
    let s = c.args.self.now in
    subst (λ (e : DeskEdit). c.apply_in.new.steps ≤ c.args.steps.now + desk_most (desk_tiles s) scripts (desk_state s has_image) (Ok e))
    (sym (ap desk_command_seen c.in-InView.is)) c.apply_in.ensures.most
