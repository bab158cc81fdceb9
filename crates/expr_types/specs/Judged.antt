-- What is known of an expression that was checked: it follows from the expression and the want.
use Rattle.prop_values.specs.declared.kinds.Want.{Want}
use Rattle.expr_syntax.specs.Term.{Term}

-- an expression and the want that it was checked under
abbrev pub Judged : Type 0
Judged = Term × Want
