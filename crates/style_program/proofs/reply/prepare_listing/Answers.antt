use Rattle.std.proofs.Common.{IfOk, IfErr, sym, subst}
use Rattle.std.specs.Prelude.{OnErr}
use Rattle.program_runs.specs.Progress.{IsStop}
use Rattle.program_runs.specs.Written.{StepsAreDue}
use Rattle.style_program.specs.Commands.{asked_run}
use Rattle.style_program.specs.EvalRun.{eval_run}
use Rattle.style_program.specs.PreparedRun.{IsPrepared, MayList}
use Rattle.style_program.specs.WordsView.{eval_words, listing_asked}
use Rattle.style_program.proofs.AnsweredSteps.{stops_due}
use Rattle.style_program.proofs.reply.prepare_listing.Goals as goal

-- ---- `eval`

pub returns-in-Eval-clause-run : goal.returns-in-Eval-clause-run
returns-in-Eval-clause-run g c =
    let files = g.F.Files.told c.args.files.now in
    let images = (goal.HostOp-dyn g c.args.images.now).test c.args.images.now.1 in
    let scripts = (goal.HostOp-dyn g c.args.scripts.now).test c.args.scripts.now.1 in
    let can_change = (goal.HostOp-dyn g c.args.images.now).changes c.args.images.now.1 in
    subst (λ r. IfOk c.prepare_eval.result (IsPrepared images scripts can_change files
    (asked_run images scripts can_change (listing_asked r))
    (g.F.Files.asked c.args.files.now) (g.F.Files.asked c.prepare_eval.new.files) c.args.steps.now c.args.steps.now))
    (sym c.in-Eval.is) (c.prepare_eval.ensures.run images scripts can_change c.args.steps.now)

pub returns-in-Eval-clause-stop : goal.returns-in-Eval-clause-stop
returns-in-Eval-clause-stop g c =
    let files = g.F.Files.told c.args.files.now in
    let images = (goal.HostOp-dyn g c.args.images.now).test c.args.images.now.1 in
    let scripts = (goal.HostOp-dyn g c.args.scripts.now).test c.args.scripts.now.1 in
    let can_change = (goal.HostOp-dyn g c.args.images.now).changes c.args.images.now.1 in
    subst (λ r. IfErr c.prepare_eval.result (λ stop. IsStop files
    (asked_run images scripts can_change (listing_asked r))
    (g.F.Files.faults c.args.files.now) (g.F.Files.faults c.prepare_eval.new.files)
    (g.F.Files.failed c.args.files.now) (g.F.Files.failed c.prepare_eval.new.files)
    (g.F.Files.asked c.args.files.now) (g.F.Files.asked c.prepare_eval.new.files) stop))
    (sym c.in-Eval.is) (c.prepare_eval.ensures.stop images scripts)

pub returns-in-Eval-clause-due : goal.returns-in-Eval-clause-due
returns-in-Eval-clause-due g c =
    let files = g.F.Files.told c.args.files.now in
    let images = (goal.HostOp-dyn g c.args.images.now).test c.args.images.now.1 in
    let scripts = (goal.HostOp-dyn g c.args.scripts.now).test c.args.scripts.now.1 in
    let can_change = (goal.HostOp-dyn g c.args.images.now).changes c.args.images.now.1 in
    subst (λ r. OnErr c.prepare_eval.result (StepsAreDue files (asked_run images scripts can_change (listing_asked r))
    (g.F.Files.asked c.args.files.now) (g.F.Files.asked c.prepare_eval.new.files) c.args.steps.now c.args.steps.now))
    (sym c.in-Eval.is) (stops_due files (eval_run (eval_words c.in-Eval.request) images scripts)
    (g.F.Files.asked c.args.files.now) (g.F.Files.asked c.prepare_eval.new.files)
    (g.F.Files.faults c.args.files.now) (g.F.Files.faults c.prepare_eval.new.files)
    (g.F.Files.failed c.args.files.now) (g.F.Files.failed c.prepare_eval.new.files)
    c.args.steps.now c.prepare_eval.result (c.prepare_eval.ensures.stop images scripts))

pub returns-in-Eval-clause-script : goal.returns-in-Eval-clause-script
returns-in-Eval-clause-script g c =
    subst (λ r. IfOk c.prepare_eval.result (MayList (listing_asked r))) (sym c.in-Eval.is) c.prepare_eval.ensures.script

-- ---- `generate`

pub returns-in-Generate-clause-run : goal.returns-in-Generate-clause-run
returns-in-Generate-clause-run g c =
    let files = g.F.Files.told c.args.files.now in
    let asked = g.F.Files.asked c.args.files.now in
    let images = (goal.HostOp-dyn g c.args.images.now).test c.args.images.now.1 in
    let scripts = (goal.HostOp-dyn g c.args.scripts.now).test c.args.scripts.now.1 in
    let can_change = (goal.HostOp-dyn g c.args.images.now).changes c.args.images.now.1 in
    let then_images = (goal.HostOp-dyn g c.args.images.now).test c.prepare_generate.new.images in
    let then_changes = (goal.HostOp-dyn g c.args.images.now).changes c.prepare_generate.new.images in
    subst (λ r. IfOk c.prepare_generate.result (IsPrepared then_images scripts then_changes files
    (asked_run images scripts can_change (listing_asked r)) asked asked c.args.steps.now c.prepare_generate.new.steps))
    (sym c.in-Generate.is) (c.prepare_generate.ensures.run files asked then_images then_changes)

pub returns-in-Generate-clause-stop : goal.returns-in-Generate-clause-stop
returns-in-Generate-clause-stop g c =
    let files = g.F.Files.told c.args.files.now in
    let asked = g.F.Files.asked c.args.files.now in
    let images = (goal.HostOp-dyn g c.args.images.now).test c.args.images.now.1 in
    let scripts = (goal.HostOp-dyn g c.args.scripts.now).test c.args.scripts.now.1 in
    let can_change = (goal.HostOp-dyn g c.args.images.now).changes c.args.images.now.1 in
    subst (λ r. IfErr c.prepare_generate.result (λ stop. IsStop files
    (asked_run images scripts can_change (listing_asked r))
    (g.F.Files.faults c.args.files.now) (g.F.Files.faults c.args.files.now)
    (g.F.Files.failed c.args.files.now) (g.F.Files.failed c.args.files.now) asked asked stop))
    (sym c.in-Generate.is)
    (c.prepare_generate.ensures.stop files (g.F.Files.faults c.args.files.now)
    (g.F.Files.failed c.args.files.now) asked)

pub returns-in-Generate-clause-due : goal.returns-in-Generate-clause-due
returns-in-Generate-clause-due g c =
    let files = g.F.Files.told c.args.files.now in
    let asked = g.F.Files.asked c.args.files.now in
    let images = (goal.HostOp-dyn g c.args.images.now).test c.args.images.now.1 in
    let scripts = (goal.HostOp-dyn g c.args.scripts.now).test c.args.scripts.now.1 in
    let can_change = (goal.HostOp-dyn g c.args.images.now).changes c.args.images.now.1 in
    subst (λ r. OnErr c.prepare_generate.result (StepsAreDue files
    (asked_run images scripts can_change (listing_asked r)) asked asked
    c.args.steps.now c.prepare_generate.new.steps))
    (sym c.in-Generate.is) (c.prepare_generate.ensures.due files asked)

pub returns-in-Generate-clause-script : goal.returns-in-Generate-clause-script
returns-in-Generate-clause-script g c =
    subst (λ r. IfOk c.prepare_generate.result (MayList (listing_asked r))) (sym c.in-Generate.is)
    c.prepare_generate.ensures.script
