use Rattle.lint_texts.specs.LintedStyle.{linted_seen}
use Rattle.lint_runs.proofs.FileLines.{file_has_lines}
use Rattle.lint_runs.proofs.one_style.lint_read.Goals as goal

pub returns-clause-lines : goal.returns-clause-lines
returns-clause-lines c =
    file_has_lines c.args.form c.args.file.now c.as_slice.result.now (linted_seen c.in_ok-linted-2.linted) c.in_ok-linted-2.ensures
