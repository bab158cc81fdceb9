use Rattle.std.proofs.Common.{false}
use Rattle.edit_session.specs.View.{session_state, tiles_of}
use Rattle.outside_io.specs.WritingLaws.{at_error}
use Rattle.script_runs.specs.ScriptRun.{lines_run}
use Rattle.script_runs.specs.ImageReports.{ImageReportsOfLine, ImagesOfLine}
use Rattle.script_runs.proofs.ImageReports.{all_partway, at_answer}
use Rattle.generated_runs.specs.Counted.{counted}
use Rattle.generated_runs.specs.GeneratedScript.{generated_lines}
use Rattle.generated_runs.proofs.ScriptLaws.{all_counted, due_so_far}
use Rattle.generated_runs.proofs.counting.count_answers.Goals as goal

pub returns-clause-answer : goal.returns-clause-answer
returns-clause-answer g c =
    let images = (goal.HostOp-dyn g c.args.images.now).test c.args.images.now.1 in
    let last_images = (goal.HostOp-dyn g c.args.images.now).test c.answer_all.new.images in
    let can_change = (goal.HostOp-dyn g c.args.images.now).changes c.args.images.now.1 in
    let scripts = (goal.HostOp-dyn g c.args.scripts.now).test c.args.scripts.now.1 in
    let start = session_state c.args.session.now images in
    let run = counted c.args.features (lines_run (tiles_of c.args.session.now) scripts can_change 1 start false (generated_lines c.args.features)) in
    all_counted c.args.features scripts can_change last_images c.answer_all.new.session c.answer_all.new.self run _ _ c.finish.result
    c.in_ok-answer_all.ensures.on c.finish.ensures

-- the line of counts does not fit into memory
pub returns-clause-due : goal.returns-clause-due
returns-clause-due g c =
    let images = (goal.HostOp-dyn g c.args.images.now).test c.args.images.now.1 in
    let can_change = (goal.HostOp-dyn g c.args.images.now).changes c.args.images.now.1 in
    let scripts = (goal.HostOp-dyn g c.args.scripts.now).test c.args.scripts.now.1 in
    let start = session_state c.args.session.now images in
    let run = counted c.args.features (lines_run (tiles_of c.args.session.now) scripts can_change 1 start false (generated_lines c.args.features)) in
    λ files asked. at_error c.finish.result (due_so_far _ _ run _ files asked c.in_ok-answer_all.ensures.on)

pub returns-in_err-answer_all-clause-due : goal.returns-in_err-answer_all-clause-due
returns-in_err-answer_all-clause-due g c = λ files asked. at_error c.from_residual.result (c.in_err-answer_all.ensures.due files asked)

-- ---- reports to the test of images

pub returns-clause-count : goal.returns-clause-count
returns-clause-count g c = at_answer c.finish.result c.in_ok-answer_all.ensures.count

-- the line of counts does not fit into memory
pub returns-clause-count_failed : goal.returns-clause-count_failed
returns-clause-count_failed g c =
    let can_change = (goal.HostOp-dyn g c.args.images.now).changes c.args.images.now.1 in
    at_error c.finish.result (all_partway (ImageReportsOfLine can_change) (generated_lines c.args.features) _ _ c.in_ok-answer_all.ensures.count)

pub returns-in_err-answer_all-clause-count_failed : goal.returns-in_err-answer_all-clause-count_failed
returns-in_err-answer_all-clause-count_failed g c = at_error c.from_residual.result c.in_err-answer_all.ensures.count_failed

-- ---- what the test of images answers

pub returns-clause-images : goal.returns-clause-images
returns-clause-images g c = at_answer c.finish.result c.in_ok-answer_all.ensures.images

-- the line of counts does not fit into memory
pub returns-clause-images_failed : goal.returns-clause-images_failed
returns-clause-images_failed g c =
    let can_change = (goal.HostOp-dyn g c.args.images.now).changes c.args.images.now.1 in
    at_error c.finish.result (all_partway (ImagesOfLine can_change) (generated_lines c.args.features) _ _ c.in_ok-answer_all.ensures.images)

pub returns-in_err-answer_all-clause-images_failed : goal.returns-in_err-answer_all-clause-images_failed
returns-in_err-answer_all-clause-images_failed g c = at_error c.from_residual.result c.in_err-answer_all.ensures.images_failed
