use Rattle.std.proofs.Common.{rules, ◌≡◌, refl, map, subst}
use Rattle.std.specs.Prelude.{IfErr}
use Rattle.decimal_json.specs.View.{tree_of}
use Rattle.program_runs.specs.declared.halt.RunHalt.TheVariants.{Stopped}
use Rattle.program_runs.specs.declared.halt.RunStop.TheVariants.{NoMemory}
use Rattle.program_runs.proofs.Asked.{none_asked}
use Rattle.program_runs.proofs.Going.{at_residual}
use Rattle.program_runs.specs.Progress.{HaltsAt}
use Rattle.style_program.specs.ShownRun.{sound_or_broken}
use Rattle.style_rules.specs.CodeView.{finding_seen}
use Rattle.style_rules.specs.Findings.{findings}
use Rattle.style_program.proofs.loading.refuse_broken.Goals as goal

pub returns-clause-halt : goal.returns-clause-halt
returns-clause-halt c =
    let same : map finding_seen c.as_slice.result.now ≡ findings (tree_of c.args.style.now) = search rules in
    λ files count failed asked next. subst (λ f. IfErr c.refuse_found.result (λ h. HaltsAt files (sound_or_broken f next) count count failed failed asked asked h)) same
    (c.refuse_found.ensures.halt files count failed asked next)

pub returns-in_err-found-clause-halt : goal.returns-in_err-found-clause-halt
returns-in_err-found-clause-halt c = λ files count failed asked next.
    at_residual (λ h. HaltsAt files (sound_or_broken (findings (tree_of c.args.style.now)) next) count count failed failed asked asked h) (Stopped NoMemory)
    c.from_residual.result c.from_residual.ensures.1
    ((refl, refl), none_asked files (sound_or_broken (findings (tree_of c.args.style.now)) next) asked)
