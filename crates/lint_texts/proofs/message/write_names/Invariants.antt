use Rattle.std.proofs.Common.{◌≡◌, ◌++◌, drop}
use Rattle.std.specs.Prelude.{codes}
use Rattle.lint_texts.specs.DiagnosticLine.{fault_names}
use Rattle.lint_texts.proofs.message.write_names.Given as goal

abbrev pub invariant-loop-fault : goal.invariant-loop-fault
invariant-loop-fault l =
    l.out.items ++ fault_names l.faults l.before (drop l.fault-index l.among) ≡ l.fn.out.items ++ fault_names l.faults (codes " [") l.among
