-- The names of type faults.
use Rattle.std.specs.Prelude.{ℕ, List, codes}
use Rattle.expr_types.specs.declared.fault.TypeCode.{TypeCode}
use Rattle.expr_types.specs.declared.fault.TypeCode.TheVariants.{Kind, NotInterpolable, NotComparable, Input, ZoomPlace}

-- The name that is printed. Source: own
abbrev pub code_name : TypeCode → List ℕ
code_name Kind = codes "Kind"
code_name NotInterpolable = codes "NotInterpolable"
code_name NotComparable = codes "NotComparable"
code_name Input = codes "Input"
code_name ZoomPlace = codes "ZoomPlace"
