use Rattle.std.proofs.Common.{◌≡◌, drop, length}
use Rattle.style_simplify.specs.AskedBindings.{marks_after, asked_marks}
use Rattle.style_simplify.proofs.asked_bindings.asked_marks.Given as goal

abbrev pub invariant-loop-asked : goal.invariant-loop-asked
invariant-loop-asked l =
    (marks_after l.marks.items l.names (drop l.asked-index l.asks) ≡ asked_marks l.names l.asks) × (length l.marks.items ≡ length l.names)
