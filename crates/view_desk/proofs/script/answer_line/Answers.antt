use Rattle.std.proofs.Common.{inl, inr}
use Rattle.outside_io.specs.WritingLaws.{at_error}
use Rattle.script_runs.proofs.ImageReports.{at_answer, same_answers}
use Rattle.view_desk.specs.View.{desk_state, desk_tiles}
use Rattle.view_desk.proofs.DeskLineRuns.{line_given, line_most}
use Rattle.view_desk.proofs.DeskReports.{given_images}
use Rattle.view_desk.proofs.script.answer_line.Goals as goal

pub returns-clause-gives : goal.returns-clause-gives
returns-clause-gives g c =
    let images = goal.HostOp-dyn g c.args.images.now in
    let scripts = (goal.HostOp-dyn g c.args.scripts.now).test c.args.scripts.now.1 in
    line_given (desk_tiles c.args.desk.now) scripts (images.changes c.args.images.now.1) c.args.line.now.number
    (desk_state c.args.desk.now (images.test c.args.images.now.1)) _ c.args.line.now.bytes.now _ _ _ c.line_answer.result
    c.in_ok-answer.ensures.gives c.line_answer.ensures.text c.line_answer.ensures.refused

pub returns-clause-most : goal.returns-clause-most
returns-clause-most g c =
    let images = goal.HostOp-dyn g c.args.images.now in
    let scripts = (goal.HostOp-dyn g c.args.scripts.now).test c.args.scripts.now.1 in
    line_most (desk_tiles c.args.desk.now) scripts (images.changes c.args.images.now.1) c.args.line.now.number
    (desk_state c.args.desk.now (images.test c.args.images.now.1)) _ c.args.line.now.bytes.now _ _ _ c.line_answer.result
    c.in_ok-answer.ensures.gives

pub returns-clause-count : goal.returns-clause-count
returns-clause-count g c = at_answer c.line_answer.result c.in_ok-answer.ensures.count

pub returns-clause-count_failed : goal.returns-clause-count_failed
returns-clause-count_failed g c = at_error c.line_answer.result (inr c.in_ok-answer.ensures.count)

pub returns-in_err-answer-clause-count_failed : goal.returns-in_err-answer-clause-count_failed
returns-in_err-answer-clause-count_failed g c = at_error c.from_residual.result c.in_err-answer.ensures.count_failed

-- ---- what the test of images answers

-- what is written of the answer does not fit into memory
pub returns-clause-images_failed : goal.returns-clause-images_failed
returns-clause-images_failed g c =
    let images = goal.HostOp-dyn g c.args.images.now in
    let scripts = (goal.HostOp-dyn g c.args.scripts.now).test c.args.scripts.now.1 in
    at_error c.line_answer.result (inr (given_images (desk_tiles c.args.desk.now) scripts (images.changes c.args.images.now.1)
    (desk_state c.args.desk.now (images.test c.args.images.now.1)) _ _ c.args.line.now.bytes.now _ c.in_ok-answer.ensures.gives))

pub returns-in_err-answer-clause-images_failed : goal.returns-in_err-answer-clause-images_failed
returns-in_err-answer-clause-images_failed g c =
    at_error c.from_residual.result (inl (same_answers _ _ c.in_err-answer.ensures.lent))
