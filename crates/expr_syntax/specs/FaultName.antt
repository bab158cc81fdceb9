-- The names of the faults of reading, as they are printed.
use Rattle.std.specs.Prelude.{ℕ, List, codes}
use Rattle.expr_syntax.specs.declared.fault.SynCode.{SynCode}
use Rattle.expr_syntax.specs.declared.fault.SynCode.TheVariants.{NoOperator, UnknownOperator, Arity, Part, BareObject}
use Rattle.expr_syntax.specs.declared.fault.SynCode.TheVariants.{NumberRange, UnknownVar}

abbrev pub code_name : SynCode → List ℕ
code_name NoOperator = codes "NoOperator"
code_name UnknownOperator = codes "UnknownOperator"
code_name Arity = codes "Arity"
code_name Part = codes "Part"
code_name BareObject = codes "BareObject"
code_name NumberRange = codes "NumberRange"
code_name UnknownVar = codes "UnknownVar"
