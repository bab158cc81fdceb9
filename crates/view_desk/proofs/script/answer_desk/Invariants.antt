use Rattle.std.proofs.Common.{◌≡◌, ◌≤◌, ◌+◌, length}
use Rattle.outside_io.specs.Writing.{Gains}
use Rattle.program_runs.specs.Progress.{Stretch, HasWritten}
use Rattle.program_runs.specs.Written.{RoseBetween}
use Rattle.script_runs.specs.ScriptLines.{script_lines}
use Rattle.view_desk.specs.DeskRun.{desk_lines_run, desk_script_run}
use Rattle.view_desk.specs.View.{desk_state, desk_tiles, ImageReportsOfDeskLine, ImagesOfDeskLine, IsSoundDesk}
use Rattle.script_runs.proofs.ImageReports.{HasGone}
use Rattle.view_desk.proofs.script.answer_desk.Given as goal

abbrev pub invariant-loop-line : goal.invariant-loop-line
invariant-loop-line g l =
    let images = (goal.HostOp-dyn g l.images.now).test l.images.now.1 in
    let images_first = (goal.HostOp-dyn g l.fn.images.now).test l.fn.images.now.1 in
    let can_change = (goal.HostOp-dyn g l.fn.images.now).changes l.fn.images.now.1 in
    let scripts = (goal.HostOp-dyn g l.scripts.now).test l.scripts.now.1 in
    record {
      sound : IsSoundDesk l.desk images scripts;
      tiles : desk_tiles l.desk ≡ desk_tiles l.fn.desk;
      changes : (goal.HostOp-dyn g l.images.now).changes l.images.now.1 ≡ can_change;
      counted : l.number + length l.rest ≤ length l.fn.script + 1;
      none_failed : g.O.Sink.faults l.out ≡ g.O.Sink.faults l.fn.out;
      written : (s : Stretch) × Gains (g.O.Sink.held l.fn.out) (g.O.Sink.held l.out) s.text
          × RoseBetween l.fn.steps l.steps s.least s.most
          × HasWritten (desk_script_run (desk_tiles l.fn.desk) scripts can_change (desk_state l.fn.desk images_first) l.fn.script) s
          (desk_lines_run (desk_tiles l.fn.desk) scripts can_change l.number (desk_state l.desk images) l.any (script_lines l.rest));
      reports : HasGone (ImageReportsOfDeskLine can_change) (script_lines l.fn.script) (script_lines l.rest)
          ((goal.HostOp-dyn g l.fn.images.now).tell_count l.fn.images.now.1) ((goal.HostOp-dyn g l.images.now).tell_count l.images.now.1);
      answers : HasGone (ImagesOfDeskLine can_change) (script_lines l.fn.script) (script_lines l.rest) images_first images;
    }

abbrev pub decreases-loop-line : goal.decreases-loop-line
decreases-loop-line g l = length l.rest
