use Rattle.std.proofs.Common.{rules, ◌≡◌, ◌∙◌, ◌||◌, ap, refl, sym, ℕ, ◌+◌, length}
use Rattle.outside_io.specs.WritingLaws.{at_error}
use Rattle.edit_session.specs.View.{session_state, tiles_of}
use Rattle.script_runs.proofs.ImageReports.{line_images}
use Rattle.generated_runs.specs.Counted.{line_count}
use Rattle.generated_runs.proofs.ScriptLaws.{line_due, next_counted}
use Rattle.generated_runs.proofs.counting.Counting.answer.Goals as goal

pub returns-clause-on : goal.returns-clause-on
returns-clause-on g c =
    let images = (goal.HostOp-dyn g c.args.images.now).test c.args.images.now.1 in
    let images_next = (goal.HostOp-dyn g c.args.images.now).test c.answer_line.new.images in
    let can_change = (goal.HostOp-dyn g c.args.images.now).changes c.args.images.now.1 in
    let scripts = (goal.HostOp-dyn g c.args.scripts.now).test c.args.scripts.now.1 in
    let any : (c.args.self.now.any || c.in_ok-answer.answer.is_refused) ≡ c.if-self.self = search rules in
    λ features rest. next_counted features scripts can_change _ _ c.args.session.now c.answer_line.new.session c.args.self.now _ images images_next
    c.in_ok-answer.answer.text.items c.in_ok-answer.answer.is_refused c.args.line.now rest c.answer_line.ensures.tiles refl any
    (ap (λ (n : ℕ). c.args.self.now.lines + n) (c.line_count.ensures ∙ ap line_count c.as_slice.ensures.value))
    (ap (λ (n : ℕ). c.args.self.now.bytes + n) (c.len.ensures ∙ (sym c.as_slice.ensures.len ∙ ap length c.as_slice.ensures.value)))
    c.in_ok-answer.ensures.gives

pub returns-in_err-answer-clause-due : goal.returns-in_err-answer-clause-due
returns-in_err-answer-clause-due g c =
    let images = (goal.HostOp-dyn g c.args.images.now).test c.args.images.now.1 in
    let can_change = (goal.HostOp-dyn g c.args.images.now).changes c.args.images.now.1 in
    let scripts = (goal.HostOp-dyn g c.args.scripts.now).test c.args.scripts.now.1 in
    λ features rest files asked. at_error c.from_residual.result (line_due features (tiles_of c.args.session.now) scripts can_change _ _ c.args.self.now.lines c.args.self.now.bytes
    c.args.self.now.number (session_state c.args.session.now images) c.args.self.now.any rest c.args.line.now files asked c.in_err-answer.ensures.most)

-- ---- what the test of images answers

pub returns-clause-images : goal.returns-clause-images
returns-clause-images g c =
    let images = (goal.HostOp-dyn g c.args.images.now).test c.args.images.now.1 in
    let scripts = (goal.HostOp-dyn g c.args.scripts.now).test c.args.scripts.now.1 in
    line_images (tiles_of c.args.session.now) scripts (session_state c.args.session.now images) _ _ _ c.args.self.now.number _ _
    c.in_ok-answer.ensures.gives
