-- What the rule of an operator makes of its arguments, part by part.
use Rattle.std.specs.Prelude.{ℕ, List, length, Bool, true, false, not, Option, None, Err}
use Rattle.std.specs.List.{slice_get}
use Rattle.prop_values.specs.Data.{Data, null, boolean, number, text, map}
use Rattle.prop_values.specs.declared.fault.EvalFault.TheVariants.{WrongType}
use Rattle.property_tables.specs.Fitting.{fit}
use Rattle.expr_syntax.specs.declared.expression.Operator.{Operator}
use Rattle.expr_syntax.specs.declared.expression.Operator.TheVariants.{Boolean, Number, String, Object, All, Any}
use Rattle.expr_syntax.specs.declared.expression.Operator.TheVariants.{Coalesce}
use Rattle.operator_values.specs.Evaluated.{Evaluated, then_value}
use Rattle.eval_face.specs.World.{World}
use Rattle.eval_face.specs.Branches.{the_output}
use Rattle.eval_face.specs.Decisions.{first_of}
use Rattle.eval_face.specs.Meanings.{Meaning, argument_of, then_values, values_of}
use Rattle.eval_face.specs.Rules.{Rule, each, deciding, rule_of}

-- the parts of a rule; those of another rule are not asked for
abbrev pub applied_by : Rule → World → List Data → Evaluated
applied_by (each apply) world ds = apply world ds
applied_by _ world ds = Err WrongType

abbrev pub decided_by : Rule → Data → Option Data
decided_by (deciding decides none) d = decides d
decided_by _ d = None

abbrev pub undecided_by : Rule → Evaluated
undecided_by (deciding decides none) = none
undecided_by _ = Err WrongType

-- whether an operator asserts the form that a value has, so that it gives the value as it is
abbrev pub asserts : Operator → Data → Bool
asserts Boolean (boolean b) = true
asserts Number (number z) = true
asserts String (text s) = true
asserts _ _ = false

-- whether a value decides as it is
abbrev pub decides_as_it_is : Operator → Data → Bool
decides_as_it_is Object (map ps) = true
decides_as_it_is Object _ = false
decides_as_it_is All (boolean b) = not b
decides_as_it_is All _ = false
decides_as_it_is Any (boolean b) = b
decides_as_it_is Any _ = false
decides_as_it_is Coalesce null = false
decides_as_it_is Coalesce _ = true
decides_as_it_is op d = asserts op d

-- the argument of a place from 0
abbrev pub argument_at : Operator → List Meaning → ℕ → Meaning
argument_at op ms k = argument_of op (length ms) k (the_output (slice_get ms k))

-- a node whose operator evaluates all its arguments
abbrev pub each_of : Operator → List Meaning → Meaning
each_of op ms want names world =
    then_values (values_of op (length ms) 0 ms want names world)
    (λ ds. then_value (applied_by (rule_of op) world ds) (fit want))

-- what the first argument that decides gives, in a node whose operator stops there, and the node
abbrev pub decision_of : Operator → List Meaning → Meaning
decision_of op ms want names world =
    first_of (decided_by (rule_of op)) (undecided_by (rule_of op)) op (length ms) 0 ms want names world

abbrev pub deciding_of : Operator → List Meaning → Meaning
deciding_of op ms want names world = then_value (decision_of op ms want names world) (fit want)
