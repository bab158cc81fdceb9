use Rattle.std.proofs.Common.{◌≡◌, ◌++◌, drop, flat_map}
use Rattle.finding_sentences.specs.MaySentence.{fault_part}
use Rattle.finding_sentences.proofs.may_sentence.write_faults.Given as goal

abbrev pub invariant-loop-fault : goal.invariant-loop-fault
invariant-loop-fault l =
    l.out.items ++ flat_map (fault_part l.faults) (drop l.fault-index l.among) ≡ l.fn.out.items ++ flat_map (fault_part l.faults) l.among
