use Rattle.std.proofs.Common.{◌∷◌, ℕ, List, subst, sym}
use Rattle.lint_runs.specs.LintRun.{LintedStyles, and_styles, lint_part, lint_parts}
use Rattle.lint_runs.specs.Views.{styles_seen}
use Rattle.program_runs.specs.Progress.{ComesTo, Halts}
use Rattle.program_runs.specs.Runs.{Run}
use Rattle.program_runs.specs.declared.halt.RunHalt.TheVariants.{Stopped}
use Rattle.program_runs.specs.declared.halt.RunStop.TheVariants.{NoMemory}
use Rattle.program_runs.proofs.Asked.{none_asked}
use Rattle.program_runs.proofs.Going.{at_residual}
use Rattle.lint_texts.specs.declared.form.LintForm.{LintForm}
use Rattle.lint_runs.proofs.styles.lint_next.Goals as goal

-- what comes after the style
abbrev rest : LintForm → LintedStyles → List (List ℕ) → (LintedStyles → Run) → LintedStyles → Run
rest form all names k one = lint_parts form (and_styles all one) names k

pub returns-in_err-one-clause-halt : goal.returns-in_err-one-clause-halt
returns-in_err-one-clause-halt g c = λ names.
    let files = g.F.Files.told c.args.files.now in
    let all = styles_seen c.args.all.now in
    at_residual (λ h. Halts files (lint_parts c.args.form all (c.args.name.now ∷ names)) _ _ _ _ _ _ h) c.in_err-one.field-0.0 c.from_residual.result c.from_residual.ensures.1
    (λ k. c.in_err-one.ensures.halt (rest c.args.form all names k))

-- the style's lines do not fit into memory beside those before
pub returns-in_err-add_styles-clause-halt : goal.returns-in_err-add_styles-clause-halt
returns-in_err-add_styles-clause-halt g c = λ names.
    let files = g.F.Files.told c.args.files.now in
    let all = styles_seen c.args.all.now in
    at_residual (λ h. Halts files (lint_parts c.args.form all (c.args.name.now ∷ names)) _ _ _ _ _ _ h) (Stopped NoMemory)
    c.from_residual-in_err-add_styles.result c.from_residual-in_err-add_styles.ensures.1
    (λ k. (
      c.in_ok-one.ensures.failed,
      (c.in_ok-one.ensures.on (rest c.args.form all names k)).reads _
          (none_asked files (rest c.args.form all names k (styles_seen c.in_ok-one.one)) _),
    ))

pub returns-clause-on : goal.returns-clause-on
returns-clause-on g c = λ names after.
    let files = g.F.Files.told c.args.files.now in
    let all = styles_seen c.args.all.now in
    subst (λ (s : LintedStyles). ComesTo files (lint_part c.args.form c.args.all.now.left c.args.name.now (rest c.args.form all names after)) (lint_parts c.args.form s names after)
    (g.F.Files.asked c.args.files.now) (g.F.Files.asked c.lint_one.new.files))
    (sym c.in_ok-add_styles.ensures.added) (c.in_ok-one.ensures.on (rest c.args.form all names after))
