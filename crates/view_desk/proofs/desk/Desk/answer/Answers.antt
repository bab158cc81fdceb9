use Rattle.std.proofs.Common.{ap, refl}
use Rattle.std.specs.Prelude.{Ok, Err}
use Rattle.std.proofs.lemmas.Result.{on_err_weaker, on_ok_weaker}
use Rattle.view_desk.specs.View.{desk_command_seen, desk_read_seen, desk_state, desk_tiles}
use Rattle.view_desk.proofs.DeskLinesRead.{command_given, command_most}
use Rattle.view_desk.proofs.DeskReports.{line_may_report, line_reports}
use Rattle.view_desk.proofs.desk.Desk.answer.Goals as goal

pub returns-in-Ok-clause-gives : goal.returns-in-Ok-clause-gives
returns-in-Ok-clause-gives g c =
    let images = goal.HostOp-dyn g c.args.images.now in
    let scripts = (goal.HostOp-dyn g c.args.scripts.now).test c.args.scripts.now.1 in
    let s = c.args.self.now in
    command_given (desk_tiles s) scripts (images.changes c.args.images.now.1) (desk_state s (images.test c.args.images.now.1))
    (desk_state c.obey.new.self (images.test c.obey.new.images)) c.args.line.now (desk_read_seen c.in_ok-command.field-0) (desk_command_seen c.in-Ok.command)
    (ap desk_read_seen c.in-Ok.is) c.in_ok-command.ensures.answers c.obey.result _ _ c.obey.ensures.most c.obey.ensures.answer c.obey.ensures.least

pub returns-in-Ok-clause-most : goal.returns-in-Ok-clause-most
returns-in-Ok-clause-most g c =
    let images = goal.HostOp-dyn g c.args.images.now in
    let scripts = (goal.HostOp-dyn g c.args.scripts.now).test c.args.scripts.now.1 in
    let s = c.args.self.now in
    command_most (desk_tiles s) scripts (images.changes c.args.images.now.1) (desk_state s (images.test c.args.images.now.1))
    (desk_state c.obey.new.self (images.test c.obey.new.images)) c.args.line.now (desk_read_seen c.in_ok-command.field-0) (desk_command_seen c.in-Ok.command)
    (ap desk_read_seen c.in-Ok.is) c.in_ok-command.ensures.answers c.obey.result _ _ c.obey.ensures.most

-- ---- reports to the test of images

pub returns-in-Ok-clause-count : goal.returns-in-Ok-clause-count
returns-in-Ok-clause-count g c = on_ok_weaker c.obey.result
    (line_reports _ c.args.line.now (desk_read_seen c.in_ok-command.field-0) (Ok (desk_command_seen c.in-Ok.command)) (ap desk_read_seen c.in-Ok.is)
    c.in_ok-command.ensures.answers _ _) c.obey.ensures.count

pub returns-in-Ok-clause-count_failed : goal.returns-in-Ok-clause-count_failed
returns-in-Ok-clause-count_failed g c = on_err_weaker c.obey.result
    (line_may_report _ c.args.line.now (desk_read_seen c.in_ok-command.field-0) (Ok (desk_command_seen c.in-Ok.command)) (ap desk_read_seen c.in-Ok.is)
    c.in_ok-command.ensures.answers _ _) c.obey.ensures.count_failed

pub returns-in-Err-clause-count : goal.returns-in-Err-clause-count
returns-in-Err-clause-count g c =
    line_reports _ c.args.line.now (desk_read_seen c.in_ok-command.field-0) (Err c.in-Err.fault) (ap desk_read_seen c.in-Err.is)
    c.in_ok-command.ensures.answers _ _ refl
