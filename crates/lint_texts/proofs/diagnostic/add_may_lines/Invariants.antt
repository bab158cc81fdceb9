use Rattle.std.proofs.Common.{◌≡◌, ◌++◌, drop, map}
use Rattle.style_rules.specs.CodeView.{may_seen}
use Rattle.lint_texts.specs.Diagnostics.{may_diagnostic}
use Rattle.lint_texts.specs.Views.{diagnostic_seen}
use Rattle.lint_texts.proofs.diagnostic.add_may_lines.Given as goal

abbrev pub invariant-loop-line : goal.invariant-loop-line
invariant-loop-line l =
    map diagnostic_seen l.all.items ++ map may_diagnostic (map may_seen (drop l.line-index l.lines))
    ≡ map diagnostic_seen l.fn.all.items ++ map may_diagnostic (map may_seen l.lines)
