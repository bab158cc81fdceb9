use Rattle.std.proofs.Common.{◌≡◌, ◌++◌, drop}
use Rattle.style_simplify.specs.AskedBindings.{unmarked}
use Rattle.style_simplify.proofs.asked_bindings.unmarked.Given as goal

abbrev pub invariant-loop-name : goal.invariant-loop-name
invariant-loop-name l = l.marks.items ++ unmarked (drop l._name-index l.names) ≡ unmarked l.names
