use Rattle.std.proofs.Common.{◌≡◌, ◌+◌, drop}
use Rattle.edit_session.specs.View.{IsSoundSession}
use Rattle.generated_runs.specs.Counting.{EndsAs, IsSmall, lines_left}
use Rattle.generated_runs.specs.GeneratedScript.{generated_lines}
use Rattle.script_runs.specs.ImageReports.{ImageReportsOfLine, ImagesOfLine}
use Rattle.script_runs.proofs.ImageReports.{HasGone}
use Rattle.generated_runs.proofs.counting.Counting.answer_all.Given as goal

abbrev pub invariant-loop-place : goal.invariant-loop-place
invariant-loop-place g l =
    let images = (goal.HostOp-dyn g l.images.now).test l.images.now.1 in
    let images_first = (goal.HostOp-dyn g l.fn.images.now).test l.fn.images.now.1 in
    let can_change = (goal.HostOp-dyn g l.fn.images.now).changes l.fn.images.now.1 in
    let scripts = (goal.HostOp-dyn g l.scripts.now).test l.scripts.now.1 in
    record {
      sound : IsSoundSession l.session images scripts;
      changes : (goal.HostOp-dyn g l.images.now).changes l.images.now.1 ≡ can_change;
      small : IsSmall l.self;
      number : l.self.number ≡ l.place + 1;
      on : EndsAs l.fn.steps l.steps (lines_left l.fn.features scripts can_change images_first l.fn.session l.fn.self (generated_lines l.fn.features))
          (lines_left l.fn.features scripts can_change images l.session l.self (drop l.place (generated_lines l.fn.features)));
      reports : HasGone (ImageReportsOfLine can_change) (generated_lines l.fn.features) (drop l.place (generated_lines l.fn.features))
          ((goal.HostOp-dyn g l.fn.images.now).tell_count l.fn.images.now.1) ((goal.HostOp-dyn g l.images.now).tell_count l.images.now.1);
      answers : HasGone (ImagesOfLine can_change) (generated_lines l.fn.features) (drop l.place (generated_lines l.fn.features)) images_first images;
    }
