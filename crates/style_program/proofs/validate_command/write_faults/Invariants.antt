use Rattle.std.proofs.Common.{◌≡◌, ◌++◌, drop, flat_map}
use Rattle.style_program.specs.ValidateRun.{fault_word}
use Rattle.style_program.proofs.validate_command.write_faults.Given as goal

abbrev pub invariant-loop-fault : goal.invariant-loop-fault
invariant-loop-fault l =
    l.out.items ++ flat_map (fault_word l.faults) (drop l.fault-index l.among) ≡ l.fn.out.items ++ flat_map (fault_word l.faults) l.among
