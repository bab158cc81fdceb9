-- What contracts see of the program's values.
use Rattle.lint_texts.specs.LintedStyle.{linted_seen}
use Rattle.lint_runs.specs.LintRun as runs
use Rattle.lint_runs.specs.declared.one_style.LintedStyles.{LintedStyles}

abbrev pub styles_seen : LintedStyles → runs.LintedStyles
styles_seen s = record { linted = linted_seen s.linted; left = s.left }
