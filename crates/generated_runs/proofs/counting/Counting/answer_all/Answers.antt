use Rattle.std.proofs.Common.{◌≡◌, ◌∙◌, ◌≤◌, [], refl, subst, arith, ℕ, List, drop, length}
use Rattle.std.proofs.lemmas.List.{drop_all}
use Rattle.outside_io.specs.WritingLaws.{at_error}
use Rattle.script_runs.specs.ImageReports.{ImageReportsOfLine, ImagesOfLine}
use Rattle.script_runs.proofs.ImageReports.{all_gone, line_cut, line_gone, none_gone, some_gone}
use Rattle.generated_runs.specs.Counting.{EndsAs, lines_left}
use Rattle.generated_runs.specs.GeneratedScript.{generated_lines}
use Rattle.generated_runs.proofs.ScriptLaws.{due_so_far, none_yet, one_answered, one_due}
use Rattle.generated_runs.proofs.counting.Counting.answer_all.Goals as goal

pub loop-place-init : goal.loop-place-init
loop-place-init g c = record {
  sound = c.requires.sound;
  changes = refl;
  small = c.requires.small;
  number = c.requires.first;
  on = none_yet _ _;
  reports = none_gone _ (generated_lines c.args.features) _;
  answers = none_gone _ (generated_lines c.args.features) _;
}

pub loop-place-preserved : goal.loop-place-preserved
loop-place-preserved g c =
    let images = (goal.HostOp-dyn g c.loop-place.images.now).test c.loop-place.images.now.1 in
    let images_first = (goal.HostOp-dyn g c.args.images.now).test c.args.images.now.1 in
    let can_change = (goal.HostOp-dyn g c.args.images.now).changes c.args.images.now.1 in
    let scripts = (goal.HostOp-dyn g c.args.scripts.now).test c.args.scripts.now.1 in
    record {
      sound = c.answer.ensures.sound;
      changes = c.answer.ensures.changes ∙ c.loop-place.invariant.changes;
      small = c.in_ok-answer.ensures.small (omega (arith, c.in_ok-answer.ensures.next, c.loop-place.invariant.number, c.loop-place-test.true, c.line_count_of-place-end.ensures.few));
      number = omega (arith, c.in_ok-answer.ensures.next, c.loop-place.invariant.number);
      on = one_answered c.args.features scripts _ _ c.loop-place.invariant.changes images c.loop-place.session c.loop-place.self _ _ c.as_slice.result.now _
          c.in_ok-put_line.ensures c.as_slice.ensures.value _ _ _
          (lines_left c.args.features scripts can_change images_first c.args.session.now c.args.self.now (generated_lines c.args.features))
          _ c.answer.new.session _ (c.in_ok-answer.ensures.on c.args.features _) c.loop-place.invariant.on;
      reports = line_gone ImageReportsOfLine _ _ c.loop-place.invariant.changes (generated_lines c.args.features) _ _ _ c.in_ok-put_line.ensures _ _ _
          (rw c.as_slice.ensures.value at c.in_ok-answer.ensures.count) c.loop-place.invariant.reports;
      answers = line_gone ImagesOfLine _ _ c.loop-place.invariant.changes (generated_lines c.args.features) _ _ _ c.in_ok-put_line.ensures _ _ _
          (rw c.as_slice.ensures.value at c.in_ok-answer.ensures.images) c.loop-place.invariant.answers;
    }

pub returns-clause-on : goal.returns-clause-on
returns-clause-on g c =
    let images = (goal.HostOp-dyn g c.loop-place.images.now).test c.loop-place.images.now.1 in
    let images_first = (goal.HostOp-dyn g c.args.images.now).test c.args.images.now.1 in
    let can_change = (goal.HostOp-dyn g c.args.images.now).changes c.args.images.now.1 in
    let scripts = (goal.HostOp-dyn g c.args.scripts.now).test c.args.scripts.now.1 in
    let past : length (generated_lines c.args.features) ≤ c.loop-place.place = omega (arith, c.loop-place-test.false, c.line_count_of-place-end.ensures.count) in
    let none : drop c.loop-place.place (generated_lines c.args.features) ≡ [] = drop_all c.loop-place.place (generated_lines c.args.features) past in
    subst (λ (ls : List (List ℕ)). EndsAs c.args.steps.now c.loop-place.steps
    (lines_left c.args.features scripts can_change images_first c.args.session.now c.args.self.now (generated_lines c.args.features))
    (lines_left c.args.features scripts can_change images c.loop-place.session c.loop-place.self ls))
    none c.loop-place.invariant.on

-- a line does not fit into memory
pub returns-in_err-put_line-clause-due : goal.returns-in_err-put_line-clause-due
returns-in_err-put_line-clause-due g c = λ files asked. at_error c.from_residual.result (due_so_far _ _ _ _ files asked c.loop-place.invariant.on)

pub returns-in_err-answer-clause-due : goal.returns-in_err-answer-clause-due
returns-in_err-answer-clause-due g c =
    let images = (goal.HostOp-dyn g c.loop-place.images.now).test c.loop-place.images.now.1 in
    let scripts = (goal.HostOp-dyn g c.args.scripts.now).test c.args.scripts.now.1 in
    λ files asked. at_error c.from_residual-in_err-answer.result (one_due c.args.features scripts _ _ c.loop-place.invariant.changes images c.loop-place.session c.loop-place.self _ _ c.as_slice.result.now _
    c.in_ok-put_line.ensures c.as_slice.ensures.value _ _ _ _ files asked (c.in_err-answer.ensures.due c.args.features _ files asked) c.loop-place.invariant.on)

-- ---- reports to the test of images

pub returns-clause-count : goal.returns-clause-count
returns-clause-count g c =
    let can_change = (goal.HostOp-dyn g c.args.images.now).changes c.args.images.now.1 in
    let past : length (generated_lines c.args.features) ≤ c.loop-place.place = omega (arith, c.loop-place-test.false, c.line_count_of-place-end.ensures.count) in
    let none : drop c.loop-place.place (generated_lines c.args.features) ≡ [] = drop_all c.loop-place.place (generated_lines c.args.features) past in
    all_gone (ImageReportsOfLine can_change) (generated_lines c.args.features) (drop c.loop-place.place (generated_lines c.args.features)) _ _ none c.loop-place.invariant.reports

pub returns-in_err-put_line-clause-count_failed : goal.returns-in_err-put_line-clause-count_failed
returns-in_err-put_line-clause-count_failed g c =
    let can_change = (goal.HostOp-dyn g c.args.images.now).changes c.args.images.now.1 in
    at_error c.from_residual.result (some_gone (ImageReportsOfLine can_change) (generated_lines c.args.features) _ _ _ c.loop-place.invariant.reports)

pub returns-in_err-answer-clause-count_failed : goal.returns-in_err-answer-clause-count_failed
returns-in_err-answer-clause-count_failed g c =
    at_error c.from_residual-in_err-answer.result
    (line_cut ImageReportsOfLine _ _ c.loop-place.invariant.changes (generated_lines c.args.features) _ _ _ c.in_ok-put_line.ensures _ _ _
    (rw c.as_slice.ensures.value at c.in_err-answer.ensures.count_failed) c.loop-place.invariant.reports)

-- ---- what the test of images answers

pub returns-clause-images : goal.returns-clause-images
returns-clause-images g c =
    let can_change = (goal.HostOp-dyn g c.args.images.now).changes c.args.images.now.1 in
    let past : length (generated_lines c.args.features) ≤ c.loop-place.place = omega (arith, c.loop-place-test.false, c.line_count_of-place-end.ensures.count) in
    let none : drop c.loop-place.place (generated_lines c.args.features) ≡ [] = drop_all c.loop-place.place (generated_lines c.args.features) past in
    all_gone (ImagesOfLine can_change) (generated_lines c.args.features) (drop c.loop-place.place (generated_lines c.args.features)) _ _ none c.loop-place.invariant.answers

pub returns-in_err-put_line-clause-images_failed : goal.returns-in_err-put_line-clause-images_failed
returns-in_err-put_line-clause-images_failed g c =
    let can_change = (goal.HostOp-dyn g c.args.images.now).changes c.args.images.now.1 in
    at_error c.from_residual.result (some_gone (ImagesOfLine can_change) (generated_lines c.args.features) _ _ _ c.loop-place.invariant.answers)

pub returns-in_err-answer-clause-images_failed : goal.returns-in_err-answer-clause-images_failed
returns-in_err-answer-clause-images_failed g c =
    at_error c.from_residual-in_err-answer.result
    (line_cut ImagesOfLine _ _ c.loop-place.invariant.changes (generated_lines c.args.features) _ _ _ c.in_ok-put_line.ensures _ _ _
    (rw c.as_slice.ensures.value at c.in_err-answer.ensures.images_failed) c.loop-place.invariant.answers)
