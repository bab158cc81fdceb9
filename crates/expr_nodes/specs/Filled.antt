-- A node with what its bindings gave in the place of where it asks for them. Own.
use Rattle.std.specs.Prelude.{ℕ, List, Option, Some, None}
use Rattle.std.specs.List.{slice_get}
use Rattle.prop_values.specs.declared.kinds.Want.{Want}
use Rattle.property_tables.specs.Fitting.{fit}
use Rattle.operator_values.specs.Evaluated.{Evaluated, then_value}
use Rattle.expr_nodes.specs.Node.{Node, constant, asked, property, inner, Children, childless, child}

-- what is asked for, by what the binding of its number gave: a binding that gave nothing yet is asked for as before
abbrev pub given_or_asked : Option Evaluated → ℕ → Want → Node
given_or_asked (Some outcome) slot want = constant (then_value outcome (fit want))
given_or_asked None slot want = asked slot want

abbrev mutual
  pub filled : List Evaluated → Node → Node
  filled given (constant outcome) = constant outcome
  filled given (asked slot want) = given_or_asked (slice_get given slot) slot want
  filled given (property key want) = property key want
  filled given (inner op want ns) = inner op want (filled_children given ns)

  pub filled_children : List Evaluated → Children → Children
  filled_children given childless = childless
  filled_children given (child n ns) = child (filled given n) (filled_children given ns)
