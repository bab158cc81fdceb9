use Rattle.std.proofs.Common.{ap, inl, inr, refl, arith}
use Rattle.outside_io.specs.WritingLaws.{at_error}
use Rattle.edit_script.specs.View.{command_seen, read_seen}
use Rattle.edit_session.specs.View.{session_state, reply_seen, tiles_of}
use Rattle.script_runs.proofs.LineRuns.{command_steps, fault_given, reply_given}
use Rattle.script_runs.proofs.ImageReports.{at_answer, command_images, command_reports, fault_reports, same_answers, where_answered, where_failed}
use Rattle.script_runs.proofs.script.answer_line.Goals as goal

pub returns-in_ok-answer-in-Ok-clause-gives : goal.returns-in_ok-answer-in-Ok-clause-gives
returns-in_ok-answer-in-Ok-clause-gives g c =
    reply_given (tiles_of c.args.session.now) _ _ _ _ c.args.line.now.number (session_state c.args.session.now _) c.args.line.now.bytes.now
    (read_seen c.in_ok-command.field-0) (command_seen c.in-Ok.command) (session_state c.apply.new.self _) (reply_seen c.in_ok-answer-in-Ok.answer) c.answer_of.result
    c.in_ok-command.ensures (ap read_seen c.in-Ok.is) c.in_ok-answer-in-Ok.ensures.answer (c.in_ok-answer-in-Ok.ensures.least, c.in_ok-answer-in-Ok.ensures.most)
    c.answer_of.ensures.text c.answer_of.ensures.refused

pub returns-in_ok-answer-in-Ok-clause-most : goal.returns-in_ok-answer-in-Ok-clause-most
returns-in_ok-answer-in-Ok-clause-most g c = at_error c.answer_of.result
    (command_steps (tiles_of c.args.session.now) _ _ _ (session_state c.args.session.now _) c.args.line.now.bytes.now
    (read_seen c.in_ok-command.field-0) (command_seen c.in-Ok.command) c.in_ok-command.ensures (ap read_seen c.in-Ok.is) c.in_ok-answer-in-Ok.ensures.most)

pub returns-in_err-answer-in-Ok-clause-most : goal.returns-in_err-answer-in-Ok-clause-most
returns-in_err-answer-in-Ok-clause-most g c = at_error c.from_residual-in_err-answer-in-Ok.result
    (command_steps (tiles_of c.args.session.now) _ _ _ (session_state c.args.session.now _) c.args.line.now.bytes.now
    (read_seen c.in_ok-command.field-0) (command_seen c.in-Ok.command) c.in_ok-command.ensures (ap read_seen c.in-Ok.is) c.in_err-answer-in-Ok.ensures.most)

pub returns-in-Err-clause-gives : goal.returns-in-Err-clause-gives
returns-in-Err-clause-gives g c =
    fault_given (tiles_of c.args.session.now) _ _ _ _ c.args.line.now.number (session_state c.args.session.now _) c.args.line.now.bytes.now
    (read_seen c.in_ok-command.field-0) c.in-Err.fault c.fault_answer.result
    c.in_ok-command.ensures (ap read_seen c.in-Err.is) refl c.fault_answer.ensures.text c.fault_answer.ensures.refused

pub returns-in-Err-clause-most : goal.returns-in-Err-clause-most
returns-in-Err-clause-most g c = at_error c.fault_answer.result (inl (omega arith))

-- ---- reports to the test of images

pub returns-in_ok-answer-in-Ok-clause-count : goal.returns-in_ok-answer-in-Ok-clause-count
returns-in_ok-answer-in-Ok-clause-count g c = at_answer c.answer_of.result (where_answered _ c.in_ok-answer-in-Ok.ensures.memory (λ has.
    command_reports _ c.args.line.now.bytes.now (read_seen c.in_ok-command.field-0) c.in_ok-command.ensures _ _
    (command_seen c.in-Ok.command) (ap read_seen c.in-Ok.is) (c.in_ok-answer-in-Ok.ensures.count has)))

pub returns-in_ok-answer-in-Ok-clause-count_failed : goal.returns-in_ok-answer-in-Ok-clause-count_failed
returns-in_ok-answer-in-Ok-clause-count_failed g c = at_error c.answer_of.result (inr (where_answered _ c.in_ok-answer-in-Ok.ensures.memory (λ has.
    command_reports _ c.args.line.now.bytes.now (read_seen c.in_ok-command.field-0) c.in_ok-command.ensures _ _
    (command_seen c.in-Ok.command) (ap read_seen c.in-Ok.is) (c.in_ok-answer-in-Ok.ensures.count has))))

pub returns-in_err-answer-in-Ok-clause-count_failed : goal.returns-in_err-answer-in-Ok-clause-count_failed
returns-in_err-answer-in-Ok-clause-count_failed g c = at_error c.from_residual-in_err-answer-in-Ok.result
    (where_failed _ c.in_err-answer-in-Ok.ensures.silent (λ has.
    command_reports _ c.args.line.now.bytes.now (read_seen c.in_ok-command.field-0) c.in_ok-command.ensures _ _
    (command_seen c.in-Ok.command) (ap read_seen c.in-Ok.is) (c.in_err-answer-in-Ok.ensures.count has)))

pub returns-in-Err-clause-count : goal.returns-in-Err-clause-count
returns-in-Err-clause-count g c = at_answer c.fault_answer.result
    (fault_reports _ c.args.line.now.bytes.now (read_seen c.in_ok-command.field-0) c.in_ok-command.ensures _ _
    c.in-Err.fault (ap read_seen c.in-Err.is) refl)

pub returns-in-Err-clause-count_failed : goal.returns-in-Err-clause-count_failed
returns-in-Err-clause-count_failed g c = at_error c.fault_answer.result (inl refl)

-- ---- what the test of images answers

-- what is written of the answer does not fit into memory
pub returns-in_ok-answer-in-Ok-clause-images_failed : goal.returns-in_ok-answer-in-Ok-clause-images_failed
returns-in_ok-answer-in-Ok-clause-images_failed g c =
    let images = goal.HostOp-dyn g c.args.images.now in
    let scripts = (goal.HostOp-dyn g c.args.scripts.now).test c.args.scripts.now.1 in
    at_error c.answer_of.result (inr (command_images (tiles_of c.args.session.now) scripts
    (session_state c.args.session.now (images.test c.args.images.now.1)) (images.changes c.args.images.now.1) c.args.line.now.bytes.now
    (read_seen c.in_ok-command.field-0) c.in_ok-command.ensures (command_seen c.in-Ok.command) (ap read_seen c.in-Ok.is)
    (session_state c.apply.new.self (images.test c.apply.new.images)) (reply_seen c.in_ok-answer-in-Ok.answer)
    c.in_ok-answer-in-Ok.ensures.answer))

pub returns-in_err-answer-in-Ok-clause-images_failed : goal.returns-in_err-answer-in-Ok-clause-images_failed
returns-in_err-answer-in-Ok-clause-images_failed g c =
    at_error c.from_residual-in_err-answer-in-Ok.result (inl (same_answers _ _ c.in_err-answer-in-Ok.ensures.lent))

pub returns-in-Err-clause-images_failed : goal.returns-in-Err-clause-images_failed
returns-in-Err-clause-images_failed g c = at_error c.fault_answer.result (inl refl)
