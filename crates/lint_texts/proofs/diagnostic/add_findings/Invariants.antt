use Rattle.std.proofs.Common.{◌≡◌, ◌++◌, drop, map}
use Rattle.style_rules.specs.CodeView.{finding_seen}
use Rattle.lint_texts.specs.Diagnostics.{finding_diagnostic}
use Rattle.lint_texts.specs.Views.{diagnostic_seen}
use Rattle.lint_texts.proofs.diagnostic.add_findings.Given as goal

abbrev pub invariant-loop-finding : goal.invariant-loop-finding
invariant-loop-finding l =
    map diagnostic_seen l.all.items ++ map finding_diagnostic (map finding_seen (drop l.finding-index l.findings))
    ≡ map diagnostic_seen l.fn.all.items ++ map finding_diagnostic (map finding_seen l.findings)
