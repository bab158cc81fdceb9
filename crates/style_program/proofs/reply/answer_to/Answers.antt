use Rattle.std.proofs.Common.{IfOk, IfErr, refl, sym, subst}
use Rattle.program_runs.specs.Progress.{outcome_of, HaltsAt}
use Rattle.program_runs.specs.Runs.{HasOutcome}
use Rattle.style_program.specs.Commands.{asked_run}
use Rattle.style_program.specs.WordsView.{answer_asked}
use Rattle.style_program.proofs.reply.answer_to.Goals as goal

pub returns-in-Value-clause-answer : goal.returns-in-Value-clause-answer
returns-in-Value-clause-answer g c =
    let files = g.F.Files.told c.args.files.now in let asked = g.F.Files.asked c.args.files.now in
    let images = (goal.HostOp-dyn g c.args.images.now).test c.args.images.now.1 in let scripts = (goal.HostOp-dyn g c.args.scripts.now).test c.args.scripts.now.1 in
    let can_change = (goal.HostOp-dyn g c.args.images.now).changes c.args.images.now.1 in
    subst (λ r. IfOk c.answer_value.result (λ a. HasOutcome files (asked_run images scripts can_change (answer_asked r)) asked asked (outcome_of a))) (sym c.in-Value.is) (c.answer_value.ensures.answer files asked)

pub returns-in-Value-clause-halt : goal.returns-in-Value-clause-halt
returns-in-Value-clause-halt g c =
    let files = g.F.Files.told c.args.files.now in let asked = g.F.Files.asked c.args.files.now in let count = g.F.Files.faults c.args.files.now in let failed = g.F.Files.failed c.args.files.now in
    let images = (goal.HostOp-dyn g c.args.images.now).test c.args.images.now.1 in let scripts = (goal.HostOp-dyn g c.args.scripts.now).test c.args.scripts.now.1 in
    let can_change = (goal.HostOp-dyn g c.args.images.now).changes c.args.images.now.1 in
    subst (λ r. IfErr c.answer_value.result (λ h. HaltsAt files (asked_run images scripts can_change (answer_asked r)) count count failed failed asked asked h)) (sym c.in-Value.is) (c.answer_value.ensures.halt files count failed asked)

pub returns-in_ok-answer_said-in-Help-clause-answer : goal.returns-in_ok-answer_said-in-Help-clause-answer
returns-in_ok-answer_said-in-Help-clause-answer g c =
    let files = g.F.Files.told c.args.files.now in let asked = g.F.Files.asked c.args.files.now in
    let images = (goal.HostOp-dyn g c.args.images.now).test c.args.images.now.1 in let scripts = (goal.HostOp-dyn g c.args.scripts.now).test c.args.scripts.now.1 in
    let can_change = (goal.HostOp-dyn g c.args.images.now).changes c.args.images.now.1 in
    subst (λ r. HasOutcome files (asked_run images scripts can_change (answer_asked r)) asked asked (outcome_of c.in_ok-answer_said-in-Help.field-0)) (sym c.in-Help.is) (c.in_ok-answer_said-in-Help.ensures, refl)
