-- What is made of an open section and of those before it.
use Rattle.std.specs.Prelude.{◌≡◌, List, Result, Ok, Err}
use Rattle.prop_values.specs.Data.{Data}
use Rattle.prop_values.specs.declared.fault.EvalFault.{EvalFault}
use Rattle.halts.specs.declared.halt.Halt.{Halt}
use Rattle.halts.specs.declared.halt.Halt.TheVariants.{Fault, NoMemory}
use Rattle.format_text.specs.declared.formatted.Section.{Section}
use Rattle.eval_face.specs.Sections.{Open}

-- the section that is open next, after these values of sections, is what is meant, unless an allocation failed
abbrev pub GivesOpen : List Data → Result Section (Halt EvalFault) → Result Open EvalFault → Type 0
GivesOpen before (Ok next) meant = meant ≡ Ok (before, next)
GivesOpen before (Err (Fault fault)) meant = meant ≡ Err fault
GivesOpen before (Err NoMemory) meant = Unit {0}
