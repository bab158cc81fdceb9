use Rattle.std.proofs.Common.{◌≡◌, ◌+◌, ◌≤◌, count_by, drop, map}
use Rattle.lint_texts.specs.DiagnosticLine.{diagnostic_severity}
use Rattle.lint_texts.specs.Diagnostics.{StyleDiagnostic}
use Rattle.lint_texts.specs.LintLine.{is_error}
use Rattle.lint_texts.specs.Views.{diagnostic_seen}
use Rattle.lint_texts.proofs.counting.count_errors.Given as goal

abbrev pub invariant-loop-diagnostic : goal.invariant-loop-diagnostic
invariant-loop-diagnostic l = record {
  few : l.count ≤ l.diagnostic-index;
  left : l.count + count_by (λ (d : StyleDiagnostic). is_error (diagnostic_severity d)) (map diagnostic_seen (drop l.diagnostic-index l.all))
      ≡ count_by (λ (d : StyleDiagnostic). is_error (diagnostic_severity d)) (map diagnostic_seen l.all);
}
