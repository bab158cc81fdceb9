use Rattle.std.proofs.Common.{◌≡◌, IfOk, IfErr, false, sym, subst}
use Rattle.std.specs.Prelude.{OnErr}
use Rattle.program_runs.specs.Progress.{IsStop}
use Rattle.program_runs.specs.Written.{StepsAreDue}
use Rattle.style_program.specs.Commands.{asked_run, lists_cells}
use Rattle.style_program.specs.PreparedRun.{IsPrepared, MayList}
use Rattle.style_program.specs.ReplayRun.{script_kind_run}
use Rattle.style_program.specs.WordsView.{answer_asked, asked_by, script_words}
use Rattle.style_program.proofs.AnsweredSteps.{always_lists, stops_due}
use Rattle.style_program.proofs.reply.prepare_run.Goals as goal

-- ---- an answer that lists nothing

pub returns-in-Answer-clause-run : goal.returns-in-Answer-clause-run
returns-in-Answer-clause-run g c =
    let files = g.F.Files.told c.args.files.now in
    let images = (goal.HostOp-dyn g c.args.images.now).test c.args.images.now.1 in
    let scripts = (goal.HostOp-dyn g c.args.scripts.now).test c.args.scripts.now.1 in
    let can_change = (goal.HostOp-dyn g c.args.images.now).changes c.args.images.now.1 in
    let then_images = (goal.HostOp-dyn g c.args.images.now).test c.prepare_answer.new.images in
    let then_changes = (goal.HostOp-dyn g c.args.images.now).changes c.prepare_answer.new.images in
    subst (λ r. IfOk c.prepare_answer.result (IsPrepared then_images scripts then_changes files (asked_run images scripts can_change (asked_by r))
    (g.F.Files.asked c.args.files.now) (g.F.Files.asked c.prepare_answer.new.files) c.args.steps.now c.args.steps.now))
    (sym c.in-Answer.is) (c.prepare_answer.ensures.run then_images then_changes c.args.steps.now)

pub returns-in-Answer-clause-stop : goal.returns-in-Answer-clause-stop
returns-in-Answer-clause-stop g c =
    let files = g.F.Files.told c.args.files.now in
    let images = (goal.HostOp-dyn g c.args.images.now).test c.args.images.now.1 in
    let scripts = (goal.HostOp-dyn g c.args.scripts.now).test c.args.scripts.now.1 in
    let can_change = (goal.HostOp-dyn g c.args.images.now).changes c.args.images.now.1 in
    subst (λ r. IfErr c.prepare_answer.result (λ stop. IsStop files (asked_run images scripts can_change (asked_by r))
    (g.F.Files.faults c.args.files.now) (g.F.Files.faults c.prepare_answer.new.files) (g.F.Files.failed c.args.files.now) (g.F.Files.failed c.prepare_answer.new.files)
    (g.F.Files.asked c.args.files.now) (g.F.Files.asked c.prepare_answer.new.files) stop))
    (sym c.in-Answer.is) c.prepare_answer.ensures.stop

pub returns-in-Answer-clause-due : goal.returns-in-Answer-clause-due
returns-in-Answer-clause-due g c =
    let files = g.F.Files.told c.args.files.now in
    let images = (goal.HostOp-dyn g c.args.images.now).test c.args.images.now.1 in
    let scripts = (goal.HostOp-dyn g c.args.scripts.now).test c.args.scripts.now.1 in
    let can_change = (goal.HostOp-dyn g c.args.images.now).changes c.args.images.now.1 in
    subst (λ r. OnErr c.prepare_answer.result (StepsAreDue files (asked_run images scripts can_change (asked_by r)) (g.F.Files.asked c.args.files.now) (g.F.Files.asked c.prepare_answer.new.files) c.args.steps.now c.args.steps.now))
    (sym c.in-Answer.is) (stops_due files (asked_run images scripts can_change (answer_asked c.in-Answer.answer)) (g.F.Files.asked c.args.files.now) (g.F.Files.asked c.prepare_answer.new.files)
    (g.F.Files.faults c.args.files.now) (g.F.Files.faults c.prepare_answer.new.files) (g.F.Files.failed c.args.files.now) (g.F.Files.failed c.prepare_answer.new.files)
    c.args.steps.now c.prepare_answer.result c.prepare_answer.ensures.stop)

pub returns-in-Answer-clause-script : goal.returns-in-Answer-clause-script
returns-in-Answer-clause-script g c =
    subst (λ r. IfOk c.prepare_answer.result (MayList (asked_by r))) (sym c.in-Answer.is) c.prepare_answer.ensures.script

-- ---- an answer that lists

pub returns-in-Listing-clause-run : goal.returns-in-Listing-clause-run
returns-in-Listing-clause-run g c =
    let files = g.F.Files.told c.args.files.now in
    let images = (goal.HostOp-dyn g c.args.images.now).test c.args.images.now.1 in
    let scripts = (goal.HostOp-dyn g c.args.scripts.now).test c.args.scripts.now.1 in
    let can_change = (goal.HostOp-dyn g c.args.images.now).changes c.args.images.now.1 in
    let then_images = (goal.HostOp-dyn g c.args.images.now).test c.prepare_listing.new.images in
    let then_changes = (goal.HostOp-dyn g c.args.images.now).changes c.prepare_listing.new.images in
    subst (λ r. IfOk c.prepare_listing.result (IsPrepared then_images scripts then_changes files (asked_run images scripts can_change (asked_by r))
    (g.F.Files.asked c.args.files.now) (g.F.Files.asked c.prepare_listing.new.files) c.args.steps.now c.prepare_listing.new.steps))
    (sym c.in-Listing.is) c.prepare_listing.ensures.run

pub returns-in-Listing-clause-stop : goal.returns-in-Listing-clause-stop
returns-in-Listing-clause-stop g c =
    let files = g.F.Files.told c.args.files.now in
    let images = (goal.HostOp-dyn g c.args.images.now).test c.args.images.now.1 in
    let scripts = (goal.HostOp-dyn g c.args.scripts.now).test c.args.scripts.now.1 in
    let can_change = (goal.HostOp-dyn g c.args.images.now).changes c.args.images.now.1 in
    subst (λ r. IfErr c.prepare_listing.result (λ stop. IsStop files (asked_run images scripts can_change (asked_by r))
    (g.F.Files.faults c.args.files.now) (g.F.Files.faults c.prepare_listing.new.files) (g.F.Files.failed c.args.files.now) (g.F.Files.failed c.prepare_listing.new.files)
    (g.F.Files.asked c.args.files.now) (g.F.Files.asked c.prepare_listing.new.files) stop))
    (sym c.in-Listing.is) c.prepare_listing.ensures.stop

pub returns-in-Listing-clause-due : goal.returns-in-Listing-clause-due
returns-in-Listing-clause-due g c =
    let files = g.F.Files.told c.args.files.now in
    let images = (goal.HostOp-dyn g c.args.images.now).test c.args.images.now.1 in
    let scripts = (goal.HostOp-dyn g c.args.scripts.now).test c.args.scripts.now.1 in
    let can_change = (goal.HostOp-dyn g c.args.images.now).changes c.args.images.now.1 in
    subst (λ r. OnErr c.prepare_listing.result (StepsAreDue files (asked_run images scripts can_change (asked_by r)) (g.F.Files.asked c.args.files.now) (g.F.Files.asked c.prepare_listing.new.files) c.args.steps.now c.prepare_listing.new.steps))
    (sym c.in-Listing.is) c.prepare_listing.ensures.due

pub returns-in-Listing-clause-script : goal.returns-in-Listing-clause-script
returns-in-Listing-clause-script g c =
    subst (λ r. IfOk c.prepare_listing.result (MayList (asked_by r))) (sym c.in-Listing.is) c.prepare_listing.ensures.script

pub returns-in-Listing-clause-steps : goal.returns-in-Listing-clause-steps
returns-in-Listing-clause-steps g c =
    λ none. absurd (always_lists _ (subst (λ r. lists_cells (asked_by r) ≡ false) c.in-Listing.is none))

-- ---- a script

pub returns-in-Script-clause-run : goal.returns-in-Script-clause-run
returns-in-Script-clause-run g c =
    let files = g.F.Files.told c.args.files.now in
    let images = (goal.HostOp-dyn g c.args.images.now).test c.args.images.now.1 in
    let scripts = (goal.HostOp-dyn g c.args.scripts.now).test c.args.scripts.now.1 in
    let can_change = (goal.HostOp-dyn g c.args.images.now).changes c.args.images.now.1 in
    subst (λ r. IfOk c.prepare_script.result (IsPrepared images scripts can_change files (asked_run images scripts can_change (asked_by r))
    (g.F.Files.asked c.args.files.now) (g.F.Files.asked c.prepare_script.new.files) c.args.steps.now c.args.steps.now))
    (sym c.in-Script.is) (c.prepare_script.ensures.run images scripts can_change c.args.steps.now)

pub returns-in-Script-clause-stop : goal.returns-in-Script-clause-stop
returns-in-Script-clause-stop g c =
    let files = g.F.Files.told c.args.files.now in
    let images = (goal.HostOp-dyn g c.args.images.now).test c.args.images.now.1 in
    let scripts = (goal.HostOp-dyn g c.args.scripts.now).test c.args.scripts.now.1 in
    let can_change = (goal.HostOp-dyn g c.args.images.now).changes c.args.images.now.1 in
    subst (λ r. IfErr c.prepare_script.result (λ stop. IsStop files (asked_run images scripts can_change (asked_by r))
    (g.F.Files.faults c.args.files.now) (g.F.Files.faults c.prepare_script.new.files) (g.F.Files.failed c.args.files.now) (g.F.Files.failed c.prepare_script.new.files)
    (g.F.Files.asked c.args.files.now) (g.F.Files.asked c.prepare_script.new.files) stop))
    (sym c.in-Script.is) (c.prepare_script.ensures.stop images scripts can_change)

pub returns-in-Script-clause-due : goal.returns-in-Script-clause-due
returns-in-Script-clause-due g c =
    let files = g.F.Files.told c.args.files.now in
    let images = (goal.HostOp-dyn g c.args.images.now).test c.args.images.now.1 in
    let scripts = (goal.HostOp-dyn g c.args.scripts.now).test c.args.scripts.now.1 in
    let can_change = (goal.HostOp-dyn g c.args.images.now).changes c.args.images.now.1 in
    subst (λ r. OnErr c.prepare_script.result (StepsAreDue files (asked_run images scripts can_change (asked_by r)) (g.F.Files.asked c.args.files.now) (g.F.Files.asked c.prepare_script.new.files) c.args.steps.now c.args.steps.now))
    (sym c.in-Script.is) (stops_due files (script_kind_run c.in-Script.script.kind (script_words c.in-Script.script) images scripts can_change) (g.F.Files.asked c.args.files.now)
    (g.F.Files.asked c.prepare_script.new.files) (g.F.Files.faults c.args.files.now) (g.F.Files.faults c.prepare_script.new.files) (g.F.Files.failed c.args.files.now)
    (g.F.Files.failed c.prepare_script.new.files) c.args.steps.now c.prepare_script.result (c.prepare_script.ensures.stop images scripts can_change))

pub returns-in-Script-clause-script : goal.returns-in-Script-clause-script
returns-in-Script-clause-script g c =
    subst (λ r. IfOk c.prepare_script.result (MayList (asked_by r))) (sym c.in-Script.is) c.prepare_script.ensures.script
