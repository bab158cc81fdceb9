-- How a run ends, its status, and the number that the program ends with.
use Rattle.std.specs.Prelude.{ℕ}
use Rattle.program_runs.specs.declared.status.Status.{Status}
use Rattle.program_runs.specs.declared.status.Status.TheVariants as status
use Rattle.program_runs.specs.declared.status.Ending.{Ending}
use Rattle.program_runs.specs.declared.status.Ending.TheVariants.{Fine, Found, Usage, Refused}

abbrev pub status_of : Ending → Status
status_of Fine = status.Fine
status_of Found = status.Found
status_of Usage = status.Usage
status_of Refused = status.Refused

abbrev pub code_of : Status → ℕ
code_of status.Fine = 0
code_of status.Found = 1
code_of status.Usage = 2
code_of status.Refused = 3
code_of status.ReadFault = 4
code_of status.WriteFault = 5
code_of status.NoMemory = 6
