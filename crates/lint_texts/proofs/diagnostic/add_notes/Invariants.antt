use Rattle.std.proofs.Common.{◌≡◌, ◌++◌, drop, map}
use Rattle.lint_texts.specs.Diagnostics.{note}
use Rattle.lint_texts.specs.Views.{diagnostic_seen}
use Rattle.lint_texts.proofs.diagnostic.add_notes.Given as goal

abbrev pub invariant-loop-path : goal.invariant-loop-path
invariant-loop-path l =
    map diagnostic_seen l.all.items ++ map note (drop l.path-index l.paths) ≡ map diagnostic_seen l.fn.all.items ++ map note l.paths
