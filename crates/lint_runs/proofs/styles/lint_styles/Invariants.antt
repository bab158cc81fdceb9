use Rattle.std.proofs.Common.{◌≡◌, [], map, drop, string_bytes}
use Rattle.lint_texts.specs.LintedStyle.{linted_seen}
use Rattle.lint_runs.specs.Counting.{HasLines}
use Rattle.lint_runs.specs.LintRun.{LintedStyles, lint_parts, none_linted}
use Rattle.lint_runs.specs.Views.{styles_seen}
use Rattle.program_runs.specs.FailedReads.{NoneFailed}
use Rattle.program_runs.specs.Progress.{ComesTo}
use Rattle.program_runs.specs.Runs.{Run}
use Rattle.lint_runs.proofs.styles.lint_styles.Given as goal

abbrev pub invariant-loop-name : goal.invariant-loop-name
invariant-loop-name g l = record {
  told : g.F.Files.told l.files ≡ g.F.Files.told l.fn.files;
  none : l.fn.names ≡ [] → l.files ≡ l.fn.files;
  failed : NoneFailed (g.F.Files.faults l.fn.files) (g.F.Files.faults l.files) (g.F.Files.failed l.fn.files) (g.F.Files.failed l.files);
  lines : HasLines (linted_seen l.all.linted);
  leads : (k : LintedStyles → Run) → ComesTo (g.F.Files.told l.fn.files) (lint_parts l.form none_linted (map string_bytes l.names) k)
      (lint_parts l.form (styles_seen l.all) (map string_bytes (drop l.name-index l.names)) k) (g.F.Files.asked l.fn.files) (g.F.Files.asked l.files);
}
