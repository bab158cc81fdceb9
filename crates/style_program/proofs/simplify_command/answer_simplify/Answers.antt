use Rattle.std.proofs.Common.{refl}
use Rattle.decimal_json.specs.Tree.{Tree}
use Rattle.decimal_json.specs.View.{tree_of}
use Rattle.program_runs.specs.declared.halt.RunHalt.TheVariants.{Stopped}
use Rattle.program_runs.specs.declared.halt.RunStop.TheVariants.{NoMemory}
use Rattle.program_runs.proofs.Asked.{none_asked}
use Rattle.program_runs.specs.Progress.{HaltsAt, outcome_of}
use Rattle.program_runs.specs.Runs.{Run, ends}
use Rattle.program_runs.proofs.Going.{at_residual}
use Rattle.style_program.specs.SimplifyRun.{simplify_run, simplify_outcome}
use Rattle.style_program.proofs.simplify_command.answer_simplify.Goals as goal

-- what comes after the style was read
abbrev after : Tree → Run
after t = ends (simplify_outcome t)

pub returns-clause-answer : goal.returns-clause-answer
returns-clause-answer g c = (c.in_ok-style.ensures.on after).outcomes _ (outcome_of c.in_ok-answer_style.field-0) (c.in_ok-answer_style.ensures, refl)

pub returns-in_err-style-clause-halt : goal.returns-in_err-style-clause-halt
returns-in_err-style-clause-halt g c =
    at_residual (λ h. HaltsAt (g.F.Files.told c.args.files.now) (simplify_run c.args.name.now) _ _ _ _ _ _ h) c.in_err-style.field-0.0 c.from_residual.result c.from_residual.ensures.1
    (c.in_err-style.ensures.halt after)

pub returns-in_err-answer_style-clause-halt : goal.returns-in_err-answer_style-clause-halt
returns-in_err-answer_style-clause-halt g c =
    let files = g.F.Files.told c.args.files.now in
    at_residual (λ h. HaltsAt files (simplify_run c.args.name.now) _ _ _ _ _ _ h) (Stopped NoMemory)
    c.from_residual-in_err-answer_style.result c.from_residual-in_err-answer_style.ensures.1
    (c.in_ok-style.ensures.failed, (c.in_ok-style.ensures.on after).reads _ (none_asked files (after (tree_of c.in_ok-style.style)) _))
