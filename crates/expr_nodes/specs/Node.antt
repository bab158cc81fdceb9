-- An expression without names, as a counted evaluator has it: a binding is asked for by its number, and a node knows
-- what it is wanted as.
use Rattle.std.specs.Prelude.{ℕ, ◌+◌, List, [], ◌∷◌}
use Rattle.prop_values.specs.declared.kinds.Want.{Want}
use Rattle.expr_syntax.specs.declared.expression.Operator.{Operator}
use Rattle.operator_values.specs.Evaluated.{Evaluated}

mutual
  pub data Node : Type 0 where
    -- a literal that is fitted already: it may be a fault
    constant : Evaluated → Node
    -- the binding of a number
    asked : ℕ → Want → Node
    -- the feature's property of a key
    property : List ℕ → Want → Node
    -- an operator over its arguments
    inner : Operator → Want → Children → Node

  pub data Children : Type 0 where
    childless : Children
    child : Node → Children → Children

abbrev pub listed : Children → List Node
listed childless = []
listed (child n ns) = n ∷ listed ns

abbrev pub children_of : List Node → Children
children_of [] = childless
children_of (n ∷ ns) = child n (children_of ns)

-- the arguments of a node
abbrev pub children : Node → List Node
children (constant outcome) = []
children (asked slot want) = []
children (property key want) = []
children (inner op want ns) = listed ns

-- How many nodes a node has.
abbrev mutual
  pub size : Node → ℕ
  size (constant outcome) = 1
  size (asked slot want) = 1
  size (property key want) = 1
  size (inner op want ns) = 1 + children_size ns

  pub children_size : Children → ℕ
  children_size childless = 0
  children_size (child n ns) = size n + children_size ns

abbrev pub total_size : List Node → ℕ
total_size [] = 0
total_size (n ∷ ns) = size n + total_size ns
