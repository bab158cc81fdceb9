use Rattle.std.proofs.Common.{length, map, string_bytes}
use Rattle.lint_runs.specs.LintRun.{lint_outcome, lint_run}
use Rattle.program_runs.specs.Progress.{HaltsAt}
use Rattle.program_runs.specs.Runs.{ends}
use Rattle.program_runs.proofs.Going.{at_residual}
use Rattle.lint_runs.proofs.Turns.{no_names}
use Rattle.lint_runs.proofs.answer.answer_lint.Goals as goal

pub returns-in_err-styles-clause-fileless : goal.returns-in_err-styles-clause-fileless
returns-in_err-styles-clause-fileless g c = λ none. c.lint_styles.ensures.none (no_names c.args.form c.args.names.now none)

pub returns-in_err-answer_linted-clause-fileless : goal.returns-in_err-answer_linted-clause-fileless
returns-in_err-answer_linted-clause-fileless g c = λ none. c.lint_styles.ensures.none (no_names c.args.form c.args.names.now none)

pub returns-clause-fileless : goal.returns-clause-fileless
returns-clause-fileless g c = λ none. c.lint_styles.ensures.none (no_names c.args.form c.args.names.now none)

pub returns-in_err-styles-clause-halt : goal.returns-in_err-styles-clause-halt
returns-in_err-styles-clause-halt g c =
    let files = g.F.Files.told c.args.files.now in
    let names = map string_bytes c.args.names.now in
    at_residual (λ h. HaltsAt files (lint_run c.args.form names) _ _ _ _ _ _ h) c.in_err-styles.field-0.0 c.from_residual.result c.from_residual.ensures.1
    (c.in_err-styles.ensures.halt (λ all. ends (lint_outcome (length names) all.linted)))
