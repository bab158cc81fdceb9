use Rattle.std.proofs.Common.{◌≡◌, ◌++◌, drop, map}
use Rattle.text_places.specs.Starts.{paths_seen}
use Rattle.lint_texts.specs.DiagnosticLine.{diagnostic_path}
use Rattle.lint_texts.specs.Views.{diagnostic_seen}
use Rattle.lint_texts.proofs.diagnostic.paths_of.Given as goal

abbrev pub invariant-loop-diagnostic : goal.invariant-loop-diagnostic
invariant-loop-diagnostic l =
    paths_seen l.paths.items ++ map diagnostic_path (map diagnostic_seen (drop l.diagnostic-index l.all))
    ≡ map diagnostic_path (map diagnostic_seen l.all)
