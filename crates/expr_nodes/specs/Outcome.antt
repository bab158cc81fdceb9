-- What a node gives, by what the bindings give that it asks for. Own; the operators are those of eval_face.
use Rattle.std.specs.Prelude.{List, [], ◌∷◌, ◌++◌, Option, Some, None, Err}
use Rattle.std.specs.List.{slice_get}
use Rattle.prop_values.specs.Data.{pairs_of}
use Rattle.prop_values.specs.declared.fault.EvalFault.TheVariants.{WrongType}
use Rattle.property_tables.specs.Fitting.{fit}
use Rattle.operator_values.specs.Evaluated.{Evaluated, then_value}
use Rattle.eval_face.specs.World.{World}
use Rattle.eval_face.specs.Lookups.{entry_at}
use Rattle.eval_face.specs.Meanings.{Meaning}
use Rattle.eval_face.specs.Meaning.{node_meaning}
use Rattle.expr_nodes.specs.Node.{Node, constant, asked, property, inner, Children, childless, child}

-- An argument whose outcome is known, as a meaning: an argument of a node knows what it is wanted as.
abbrev pub known : Evaluated → Meaning
known outcome want names world = outcome

abbrev pub all_known : List Evaluated → List Meaning
all_known [] = []
all_known (outcome ∷ outcomes) = known outcome ∷ all_known outcomes

-- what a binding gives; a number that no binding has is asked for by no resolved expression
abbrev pub promised : Option Evaluated → Evaluated
promised (Some outcome) = outcome
promised None = Err WrongType

abbrev mutual
  pub outcome : Node → List Evaluated → World → Evaluated
  outcome (constant known) = λ promises world. known
  outcome (asked slot want) = λ promises world. then_value (promised (slice_get promises slot)) (fit want)
  outcome (property key want) = λ promises world. fit want (entry_at key (pairs_of world.properties))
  outcome (inner op want ns) = λ promises world. node_meaning op (all_known (outcomes ns promises world)) want [] world

  pub outcomes : Children → List Evaluated → World → List Evaluated
  outcomes childless = λ promises world. []
  outcomes (child n ns) = λ promises world. outcome n promises world ∷ outcomes ns promises world

abbrev pub each_outcome : List Node → List Evaluated → World → List Evaluated
each_outcome [] promises world = []
each_outcome (n ∷ ns) promises world = outcome n promises world ∷ each_outcome ns promises world

-- What the bindings give, each by those before it.
abbrev pub promises_after : List Evaluated → List Node → World → List Evaluated
promises_after before [] world = before
promises_after before (binding ∷ bindings) world =
    promises_after (before ++ outcome binding before world ∷ []) bindings world

abbrev pub promises : List Node → World → List Evaluated
promises bindings world = promises_after [] bindings world
