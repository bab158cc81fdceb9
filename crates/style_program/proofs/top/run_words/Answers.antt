use Rattle.std.proofs.Common.{refl, map, string_bytes}
use Rattle.outside_io.specs.WritingLaws.{front_of_nothing}
use Rattle.program_runs.specs.Progress.{outcome_of, stretch_outcome, IsAnswered}
use Rattle.program_runs.specs.Runs.{after_counts}
use Rattle.style_program.specs.Commands.{run_of}
use Rattle.style_program.specs.PreparedRun.{IsPrepared}
use Rattle.style_program.specs.Words.{asked}
use Rattle.style_program.specs.declared.reply.PreparedRun.TheVariants as runs
use Rattle.style_program.proofs.AnsweredSteps.{answered_rose, never_both}
use Rattle.style_program.proofs.Kept.{written, not_written, lacks_memory, stops_unread}
use Rattle.style_program.proofs.ListedFaults.{found_is_listed}
use Rattle.style_program.proofs.ScriptRuns.{all_answered, memory_lacked, write_failed}
use Rattle.style_program.proofs.top.run_words.Goals as goal

-- ---- the run ended, and its texts are written

pub returns-in-Ok-clause-promises : goal.returns-in-Ok-clause-promises
returns-in-Ok-clause-promises g c =
    let images = (goal.HostOp-dyn g c.args.images.now).test c.args.images.now.1 in
    let scripts = (goal.HostOp-dyn g c.args.call.scripts.now).test c.args.call.scripts.now.1 in
    let can_change = (goal.HostOp-dyn g c.args.images.now).changes c.args.images.now.1 in
    let run = run_of images scripts can_change (map string_bytes c.args.call.words.now) in
    let made : IsAnswered (g.F.Files.told c.args.files.now) run (g.F.Files.asked c.args.files.now) (g.F.Files.asked c.prepared.new.files)
    c.args.steps.now c.prepared.new.steps c.in-Ok-Ended.answer = rw c.in-Ok-Ended.field-0-is at c.in-Ok-Ended.ensures.run in
    written _ _ _ c.prepared.ensures.fileless _ _ _ _ _ _ _ _ _ _ _ _ _ _ _ _ (after_counts made.0 made.1 (outcome_of c.in-Ok-Ended.answer)) made.2
    c.in-Ok-Ended.ensures.failed (rw c.in-Ok-Ended.field-0-is at c.write_answer.ensures.out) (rw c.in-Ok-Ended.field-0-is at c.write_answer.ensures.err) (answered_rose _ _ made.0 made.1 made.3)
    (rw c.in-Ok-Ended.field-0-is at c.in-Ok.ensures.ok) c.in-Ok.ensures.none_failed c.status.result (rw c.in-Ok-Ended.field-0-is at c.status.ensures)

pub returns-in-Ok-Ended-clause-promises : goal.returns-in-Ok-Ended-clause-promises
returns-in-Ok-Ended-clause-promises g c =
    let images = (goal.HostOp-dyn g c.args.images.now).test c.args.images.now.1 in
    let scripts = (goal.HostOp-dyn g c.args.call.scripts.now).test c.args.call.scripts.now.1 in
    let can_change = (goal.HostOp-dyn g c.args.images.now).changes c.args.images.now.1 in
    let run = run_of images scripts can_change (map string_bytes c.args.call.words.now) in
    let made : IsAnswered (g.F.Files.told c.args.files.now) run (g.F.Files.asked c.args.files.now) (g.F.Files.asked c.prepared.new.files)
    c.args.steps.now c.prepared.new.steps c.in-Ok-Ended.answer = rw c.in-Ok-Ended.field-0-is at c.in-Ok-Ended.ensures.run in
    not_written _ _ _ c.prepared.ensures.fileless _ _ _ _ _ _ _ _ _ _ _ _ _ _ _ _ (after_counts made.0 made.1 (outcome_of c.in-Ok-Ended.answer)) made.2
    c.in-Ok-Ended.ensures.failed (rw c.in-Ok-Ended.field-0-is at c.write_answer.ensures.out) (rw c.in-Ok-Ended.field-0-is at c.write_answer.ensures.err) (answered_rose _ _ made.0 made.1 made.3) (rw c.in-Ok-Ended.field-0-is at c.in-Err.ensures.one_failed)

pub returns-in-Ok-clause-listed : goal.returns-in-Ok-clause-listed
returns-in-Ok-clause-listed g c = λ is.
    let images = (goal.HostOp-dyn g c.args.images.now).test c.args.images.now.1 in
    let scripts = (goal.HostOp-dyn g c.args.call.scripts.now).test c.args.call.scripts.now.1 in
    let can_change = (goal.HostOp-dyn g c.args.images.now).changes c.args.images.now.1 in
    let run = run_of images scripts can_change (map string_bytes c.args.call.words.now) in
    let made : IsAnswered (g.F.Files.told c.args.files.now) run (g.F.Files.asked c.args.files.now) (g.F.Files.asked c.prepared.new.files)
    c.args.steps.now c.prepared.new.steps c.in-Ok-Ended.answer = rw c.in-Ok-Ended.field-0-is at c.in-Ok-Ended.ensures.run in
    found_is_listed c.faults_are_listed.ensures (g.F.Files.told c.args.files.now) _ _ _ (map string_bytes c.args.call.words.now)
    (asked (map string_bytes c.args.call.words.now)) _ _ (after_counts made.0 made.1 (outcome_of c.in-Ok-Ended.answer)) _ refl made.2 (rw c.in-Ok-Ended.field-0-is at c.status.ensures) is

-- ---- it opened a style, and its answers are written

pub write_answers-requires : goal.write_answers-requires
write_answers-requires g c =
    let images = (goal.HostOp-dyn g c.args.images.now).test c.args.images.now.1 in
    let scripts = (goal.HostOp-dyn g c.args.call.scripts.now).test c.args.call.scripts.now.1 in
    let can_change = (goal.HostOp-dyn g c.args.images.now).changes c.args.images.now.1 in
    let then_images = (goal.HostOp-dyn g c.args.images.now).test c.prepared.new.images in
    let then_changes = (goal.HostOp-dyn g c.args.images.now).changes c.prepared.new.images in
    let run = run_of images scripts can_change (map string_bytes c.args.call.words.now) in
    let ready : IsPrepared then_images scripts then_changes (g.F.Files.told c.args.files.now) run (g.F.Files.asked c.args.files.now)
    (g.F.Files.asked c.prepared.new.files) c.args.steps.now c.prepared.new.steps (runs.Opened c.in-Ok-Opened.opened) =
    rw c.in-Ok-Opened.field-0-is at c.in-Ok-Opened.ensures.run in
    rw c.in-Ok-Opened.field-0-is ready.0

pub returns-in-Ok-write_answers-clause-promises : goal.returns-in-Ok-write_answers-clause-promises
returns-in-Ok-write_answers-clause-promises g c =
    let files = g.F.Files.told c.args.files.now in
    let asked_new = g.F.Files.asked c.prepared.new.files in
    let images = (goal.HostOp-dyn g c.args.images.now).test c.args.images.now.1 in
    let scripts = (goal.HostOp-dyn g c.args.call.scripts.now).test c.args.call.scripts.now.1 in
    let can_change = (goal.HostOp-dyn g c.args.images.now).changes c.args.images.now.1 in
    let then_images = (goal.HostOp-dyn g c.args.images.now).test c.prepared.new.images in
    let then_changes = (goal.HostOp-dyn g c.args.images.now).changes c.prepared.new.images in
    let run = run_of images scripts can_change (map string_bytes c.args.call.words.now) in
    let ready : IsPrepared then_images scripts then_changes (g.F.Files.told c.args.files.now) run (g.F.Files.asked c.args.files.now)
    (g.F.Files.asked c.prepared.new.files) c.args.steps.now c.prepared.new.steps (runs.Opened c.in-Ok-Opened.opened) =
    rw c.in-Ok-Opened.field-0-is at c.in-Ok-Opened.ensures.run in
    all_answered files _ _ (g.F.Files.asked c.args.files.now) asked_new ready.1 _ c.prepared.ensures.fileless _ _ _ _ _ _ _ _ _ _ _ _ _ ready.2 c.in-Ok-Opened.ensures.failed
    c.in-Ok-write_answers.ending c.status-in-Ok-write_answers.result (rw c.in-Ok-Opened.field-0-is at c.in-Ok-write_answers.ensures.written files asked_new) c.in-Ok-write_answers.ensures.none_failed c.status-in-Ok-write_answers.ensures

pub returns-in-Ok-write_answers-clause-listed : goal.returns-in-Ok-write_answers-clause-listed
returns-in-Ok-write_answers-clause-listed g c = λ is.
    let files = g.F.Files.told c.args.files.now in
    let asked_new = g.F.Files.asked c.prepared.new.files in
    let images = (goal.HostOp-dyn g c.args.images.now).test c.args.images.now.1 in
    let scripts = (goal.HostOp-dyn g c.args.call.scripts.now).test c.args.call.scripts.now.1 in
    let can_change = (goal.HostOp-dyn g c.args.images.now).changes c.args.images.now.1 in
    let then_images = (goal.HostOp-dyn g c.args.images.now).test c.prepared.new.images in
    let then_changes = (goal.HostOp-dyn g c.args.images.now).changes c.prepared.new.images in
    let run = run_of images scripts can_change (map string_bytes c.args.call.words.now) in
    let ready : IsPrepared then_images scripts then_changes (g.F.Files.told c.args.files.now) run (g.F.Files.asked c.args.files.now)
    (g.F.Files.asked c.prepared.new.files) c.args.steps.now c.prepared.new.steps (runs.Opened c.in-Ok-Opened.opened) =
    rw c.in-Ok-Opened.field-0-is at c.in-Ok-Opened.ensures.run in
    let ended = rw c.in-Ok-Opened.field-0-is at c.in-Ok-write_answers.ensures.written files asked_new in
    let made = stretch_outcome ended.0 c.in-Ok-write_answers.ending in
    found_is_listed c.faults_are_listed.ensures files _ _ _ (map string_bytes c.args.call.words.now)
    (asked (map string_bytes c.args.call.words.now)) _ _ made _ refl (ready.1.outcomes asked_new made ended.1) c.status-in-Ok-write_answers.ensures is

pub returns-in-Err-NoMemory-write_answers-clause-promises : goal.returns-in-Err-NoMemory-write_answers-clause-promises
returns-in-Err-NoMemory-write_answers-clause-promises g c =
    let files = g.F.Files.told c.args.files.now in
    let asked_new = g.F.Files.asked c.prepared.new.files in
    let images = (goal.HostOp-dyn g c.args.images.now).test c.args.images.now.1 in
    let scripts = (goal.HostOp-dyn g c.args.call.scripts.now).test c.args.call.scripts.now.1 in
    let can_change = (goal.HostOp-dyn g c.args.images.now).changes c.args.images.now.1 in
    let then_images = (goal.HostOp-dyn g c.args.images.now).test c.prepared.new.images in
    let then_changes = (goal.HostOp-dyn g c.args.images.now).changes c.prepared.new.images in
    let run = run_of images scripts can_change (map string_bytes c.args.call.words.now) in
    let ready : IsPrepared then_images scripts then_changes (g.F.Files.told c.args.files.now) run (g.F.Files.asked c.args.files.now)
    (g.F.Files.asked c.prepared.new.files) c.args.steps.now c.prepared.new.steps (runs.Opened c.in-Ok-Opened.opened) =
    rw c.in-Ok-Opened.field-0-is at c.in-Ok-Opened.ensures.run in
    memory_lacked files _ _ (g.F.Files.asked c.args.files.now) asked_new ready.1 _ c.prepared.ensures.fileless _ _ _ _ _ _ _ _ _ _ _ _ _ ready.2 c.in-Ok-Opened.ensures.failed
    (rw (c.in-Err-NoMemory-write_answers.field-0-is, c.in-Ok-Opened.field-0-is) at c.in-Err-NoMemory-write_answers.ensures.stop files asked_new)

pub returns-in-Ok-Opened-clause-promises : goal.returns-in-Ok-Opened-clause-promises
returns-in-Ok-Opened-clause-promises g c =
    let files = g.F.Files.told c.args.files.now in
    let asked_new = g.F.Files.asked c.prepared.new.files in
    let images = (goal.HostOp-dyn g c.args.images.now).test c.args.images.now.1 in
    let scripts = (goal.HostOp-dyn g c.args.call.scripts.now).test c.args.call.scripts.now.1 in
    let can_change = (goal.HostOp-dyn g c.args.images.now).changes c.args.images.now.1 in
    let then_images = (goal.HostOp-dyn g c.args.images.now).test c.prepared.new.images in
    let then_changes = (goal.HostOp-dyn g c.args.images.now).changes c.prepared.new.images in
    let run = run_of images scripts can_change (map string_bytes c.args.call.words.now) in
    let ready : IsPrepared then_images scripts then_changes (g.F.Files.told c.args.files.now) run (g.F.Files.asked c.args.files.now)
    (g.F.Files.asked c.prepared.new.files) c.args.steps.now c.prepared.new.steps (runs.Opened c.in-Ok-Opened.opened) =
    rw c.in-Ok-Opened.field-0-is at c.in-Ok-Opened.ensures.run in
    write_failed files _ _ (g.F.Files.asked c.args.files.now) asked_new ready.1 _ c.prepared.ensures.fileless _ _ _ _ _ _ _ _ _ _ _ _ _ ready.2 c.in-Ok-Opened.ensures.failed
    (rw (c.in-Err-Unwritten.field-0-is, c.in-Ok-Opened.field-0-is) at c.in-Err-Unwritten.ensures.stop files asked_new)

pub returns-in-Ok-write_answers-clause-steps : goal.returns-in-Ok-write_answers-clause-steps
returns-in-Ok-write_answers-clause-steps g c = λ none.
    absurd (never_both _ (rw c.in-Ok-Opened.field-0-is at c.in-Ok-Opened.ensures.script) none)

pub returns-in-Err-NoMemory-write_answers-clause-steps : goal.returns-in-Err-NoMemory-write_answers-clause-steps
returns-in-Err-NoMemory-write_answers-clause-steps g c = λ none.
    absurd (never_both _ (rw c.in-Ok-Opened.field-0-is at c.in-Ok-Opened.ensures.script) none)

pub returns-in-Ok-Opened-clause-steps : goal.returns-in-Ok-Opened-clause-steps
returns-in-Ok-Opened-clause-steps g c = λ none.
    absurd (never_both _ (rw c.in-Ok-Opened.field-0-is at c.in-Ok-Opened.ensures.script) none)

-- ---- the run has no answer

pub returns-in-Err-NoMemory-clause-promises : goal.returns-in-Err-NoMemory-clause-promises
returns-in-Err-NoMemory-clause-promises g c =
    let stopped = rw c.in-Err-NoMemory.field-0-is at c.in-Err-NoMemory.ensures.stop in
    lacks_memory _ _ _ c.prepared.ensures.fileless _ _ _ _ _ _ _ _ c.in-Err-NoMemory.ensures.due (g.O.Sink.held c.args.out.now) _ _ _ _ _ stopped.0 stopped.1
    (λ _ o _ _. front_of_nothing (g.O.Sink.held c.args.out.now) o.out) refl

pub returns-clause-promises : goal.returns-clause-promises
returns-clause-promises g c =
    stops_unread _ _ _ c.prepared.ensures.fileless _ _ _ _ _ _ _ _ c.in-Err-Unread.ensures.due _ _ _ _ _ _ c.in-Err-Unread.name.now
    (rw c.in-Err-Unread.field-0-is at c.in-Err-Unread.ensures.stop)
    (rw c.in-Err-Unread.field-0-is at c.write_unread.ensures.front) c.write_unread.result (rw c.in-Err-Unread.field-0-is at c.write_unread.ensures.status)
