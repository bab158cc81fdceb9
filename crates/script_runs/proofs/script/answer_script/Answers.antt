use Rattle.std.proofs.Common.{rules, ◌≡◌, ◌∙◌, ◌||◌, [], List, ℕ, refl, sym, subst, ap, arith}
use Rattle.edit_session.specs.View.{session_state, tiles_of}
use Rattle.outside_io.specs.Counts.{raised}
use Rattle.outside_io.specs.WritingLaws.{gains_both, gains_nothing}
use Rattle.program_runs.proofs.Counting.{rose_on}
use Rattle.program_runs.proofs.Pieces.{all_written, cut_by_memory, cut_by_write, none_written, piece_written}
use Rattle.program_runs.specs.Progress.{HasWritten, IsWritten, Stretch, no_stretch, then_stretch}
use Rattle.program_runs.specs.declared.status.Ending.{Ending}
use Rattle.script_runs.specs.ImageReports.{ImageReportsOfLine, ImagesOfLine}
use Rattle.script_runs.specs.ScriptLines.{script_lines}
use Rattle.script_runs.specs.ScriptRun.{lines_run, script_run, ending_by}
use Rattle.script_runs.proofs.LineRuns.{due_of_line, writes_line}
use Rattle.script_runs.proofs.ImageReports.{all_gone, line_cut, line_gone, line_images, none_gone, some_gone}
use Rattle.script_runs.proofs.script.answer_script.Goals as goal

pub loop-line-init : goal.loop-line-init
loop-line-init g c = record {
  sound = c.requires;
  tiles = refl;
  changes = refl;
  counted = omega arith;
  none_failed = refl;
  written = (no_stretch, gains_nothing (g.O.Sink.held c.args.out.now), (omega arith, omega arith), none_written _);
  reports = none_gone _ (script_lines c.args.script.now) _;
  answers = none_gone _ (script_lines c.args.script.now) _;
}

pub loop-line-preserved : goal.loop-line-preserved
loop-line-preserved g c =
    let scripts = (goal.HostOp-dyn g c.args.scripts.now).test c.args.scripts.now.1 in
    let any : (c.loop-line.any || c.in-Ok.answer.is_refused) ≡ c.if-any.any = search rules in
    let before = c.loop-line.invariant.written in
    let text = c.in-Ok.answer.text.items in
    let next =
    writes_line scripts _ _ c.loop-line.invariant.tiles _ _ c.loop-line.number (session_state c.loop-line.session _) c.loop-line.any
    _ _ _ c.in-Some.ensures.some _ _ c.loop-line.invariant.changes _ text c.in-Ok.answer.is_refused _ any c.in-Ok.ensures.gives in
    let piece : Stretch = record { text = text; least = next.0; most = next.1 } in
    record {
      sound = c.answer_line.ensures.sound;
      tiles = c.answer_line.ensures.tiles ∙ c.loop-line.invariant.tiles;
      changes = c.answer_line.ensures.changes ∙ c.loop-line.invariant.changes;
      counted = omega (arith, c.in-Some.ensures.shorter, c.loop-line.invariant.counted);
      none_failed = c.in-Ok-write_piece.ensures.none_failed ∙ c.loop-line.invariant.none_failed;
      written = (
        then_stretch before.0 piece,
        gains_both _ _ _ before.0.text text before.1 (rw c.as_slice.ensures.value at c.in-Ok-write_piece.ensures.ok),
        rose_on _ _ _ before.0.least before.0.most next.0 next.1 before.2 next.3,
        piece_written _ _ _ before.0 piece before.3 next.2,
      );
      reports = line_gone ImageReportsOfLine _ _ c.loop-line.invariant.changes _ _ _ _ c.in-Some.ensures.some _ _ _ c.in-Ok.ensures.count c.loop-line.invariant.reports;
      answers = line_gone ImagesOfLine _ _ c.loop-line.invariant.changes _ _ _ _ c.in-Some.ensures.some _ _ _
          (line_images (tiles_of c.loop-line.session) scripts (session_state c.loop-line.session _) _ _ _ c.loop-line.number _ _ c.in-Ok.ensures.gives)
          c.loop-line.invariant.answers;
    }

-- no line is left
pub returns-clause-written : goal.returns-clause-written
returns-clause-written g c =
    let images = (goal.HostOp-dyn g c.loop-line.images.now).test c.loop-line.images.now.1 in
    let images_first = (goal.HostOp-dyn g c.args.images.now).test c.args.images.now.1 in
    let can_change = (goal.HostOp-dyn g c.args.images.now).changes c.args.images.now.1 in
    let scripts = (goal.HostOp-dyn g c.args.scripts.now).test c.args.scripts.now.1 in
    let run = script_run (tiles_of c.args.session) scripts can_change (session_state c.args.session images_first) c.args.script.now in
    let before = c.loop-line.invariant.written in
    let none : script_lines c.loop-line.rest.now ≡ [] = search rules in
    let ended : HasWritten run before.0 (lines_run (tiles_of c.args.session) scripts can_change c.loop-line.number (session_state c.loop-line.session images) c.loop-line.any []) =
    subst (λ (ls : List (List ℕ)). HasWritten run before.0 (lines_run (tiles_of c.args.session) scripts can_change c.loop-line.number (session_state c.loop-line.session images) c.loop-line.any ls))
    none before.3 in
    λ files asked. subst (λ (e : Ending). IsWritten files run asked (g.O.Sink.held c.args.out.now) (g.O.Sink.held c.loop-line.out) c.args.steps.now c.loop-line.steps e)
    (sym c.ending_by.ensures) (all_written files run run asked before.0 _ _ before.1 _ _ before.2 (ending_by c.loop-line.any) ended)

pub returns-in_default-answer_line-clause-stop : goal.returns-in_default-answer_line-clause-stop
returns-in_default-answer_line-clause-stop g c =
    let scripts = (goal.HostOp-dyn g c.args.scripts.now).test c.args.scripts.now.1 in
    let can_change = (goal.HostOp-dyn g c.args.images.now).changes c.args.images.now.1 in
    let before = c.loop-line.invariant.written in
    λ files asked. cut_by_memory files _ _ asked before.0 _ _ before.1 _ _ before.2 _ _ _ before.3
    (due_of_line scripts _ _ c.loop-line.invariant.tiles _ _ c.loop-line.number (session_state c.loop-line.session _) c.loop-line.any
    _ _ _ c.in-Some.ensures.some can_change files asked c.in_default-answer_line.ensures.most)
    c.loop-line.invariant.none_failed

pub returns-in-Err-clause-stop : goal.returns-in-Err-clause-stop
returns-in-Err-clause-stop g c =
    let scripts = (goal.HostOp-dyn g c.args.scripts.now).test c.args.scripts.now.1 in
    let before = c.loop-line.invariant.written in
    let text = c.in-Ok.answer.text.items in
    let next =
    writes_line scripts _ _ c.loop-line.invariant.tiles _ _ c.loop-line.number (session_state c.loop-line.session _) c.loop-line.any
    _ _ _ c.in-Some.ensures.some _ _ c.loop-line.invariant.changes _ text c.in-Ok.answer.is_refused _ refl c.in-Ok.ensures.gives in
    let piece : Stretch = record { text = text; least = next.0; most = next.1 } in
    λ files asked. cut_by_write files _ _ asked before.0 _ _ before.1 _ _ before.2 _ _ piece _ _ _ before.3 next.2 next.3
    (rw c.as_slice.ensures.value at c.in-Err.ensures.err) (rw c.as_slice.ensures.value at c.in-Err.ensures.one_failed.0)
    (c.in-Err.ensures.one_failed.1 ∙ ap raised c.loop-line.invariant.none_failed)

-- ---- reports to the test of images

pub returns-clause-count : goal.returns-clause-count
returns-clause-count g c =
    let can_change = (goal.HostOp-dyn g c.args.images.now).changes c.args.images.now.1 in
    let none : script_lines c.loop-line.rest.now ≡ [] = search rules in
    all_gone (ImageReportsOfLine can_change) (script_lines c.args.script.now) (script_lines c.loop-line.rest.now) _ _ none c.loop-line.invariant.reports

pub returns-in_default-answer_line-clause-count_failed : goal.returns-in_default-answer_line-clause-count_failed
returns-in_default-answer_line-clause-count_failed g c =
    line_cut ImageReportsOfLine _ _ c.loop-line.invariant.changes (script_lines c.args.script.now) _ _ _ c.in-Some.ensures.some _ _ _
    c.in_default-answer_line.ensures.count_failed c.loop-line.invariant.reports

pub returns-in-Err-clause-count_failed : goal.returns-in-Err-clause-count_failed
returns-in-Err-clause-count_failed g c =
    let can_change = (goal.HostOp-dyn g c.args.images.now).changes c.args.images.now.1 in
    some_gone (ImageReportsOfLine can_change) (script_lines c.args.script.now) _ _ _
    (line_gone ImageReportsOfLine _ _ c.loop-line.invariant.changes (script_lines c.args.script.now) _ _ _ c.in-Some.ensures.some _ _ _
    c.in-Ok.ensures.count c.loop-line.invariant.reports)

-- ---- what the test of images answers

pub returns-clause-images : goal.returns-clause-images
returns-clause-images g c =
    let can_change = (goal.HostOp-dyn g c.args.images.now).changes c.args.images.now.1 in
    let none : script_lines c.loop-line.rest.now ≡ [] = search rules in
    all_gone (ImagesOfLine can_change) (script_lines c.args.script.now) (script_lines c.loop-line.rest.now) _ _ none c.loop-line.invariant.answers

pub returns-in_default-answer_line-clause-images_failed : goal.returns-in_default-answer_line-clause-images_failed
returns-in_default-answer_line-clause-images_failed g c =
    line_cut ImagesOfLine _ _ c.loop-line.invariant.changes (script_lines c.args.script.now) _ _ _ c.in-Some.ensures.some _ _ _
    c.in_default-answer_line.ensures.images_failed c.loop-line.invariant.answers

pub returns-in-Err-clause-images_failed : goal.returns-in-Err-clause-images_failed
returns-in-Err-clause-images_failed g c =
    let can_change = (goal.HostOp-dyn g c.args.images.now).changes c.args.images.now.1 in
    let scripts = (goal.HostOp-dyn g c.args.scripts.now).test c.args.scripts.now.1 in
    some_gone (ImagesOfLine can_change) (script_lines c.args.script.now) _ _ _
    (line_gone ImagesOfLine _ _ c.loop-line.invariant.changes (script_lines c.args.script.now) _ _ _ c.in-Some.ensures.some _ _ _
    (line_images (tiles_of c.loop-line.session) scripts (session_state c.loop-line.session _) _ _ _ c.loop-line.number _ _ c.in-Ok.ensures.gives)
    c.loop-line.invariant.answers)
