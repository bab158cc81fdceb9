-- What a node has of its own: its kind before it takes the want's, a type fault, and the faults that it may
-- give.
use Rattle.std.specs.Prelude.{ℕ, List, [], ◌∷◌, Bool, true, false, ◌&&◌, ◌||◌, Option, Some, None, if◌then◌else◌}
use Rattle.prop_values.specs.Data.{Data}
use Rattle.prop_values.specs.Faults.{no_faults, one_fault}
use Rattle.prop_values.specs.declared.fault.EvalFault.{EvalFault}
use Rattle.prop_values.specs.declared.fault.FaultSet.{FaultSet}
use Rattle.prop_values.specs.declared.kinds.Kind.{Kind}
use Rattle.prop_values.specs.declared.kinds.Kind.TheVariants as kinds
use Rattle.expr_types.specs.Fits.{same_kind}
use Rattle.expr_types.specs.declared.fault.TypeCode.{TypeCode}
use Rattle.expr_types.specs.declared.fault.TypeCode.TheVariants as codes
use Rattle.expr_types.specs.declared.own.Own.{Own}

abbrev pub owns : Kind → FaultSet → Own
owns k faults = record { kind = k; code = None; faults = faults }

abbrev pub faults_if : Bool → EvalFault → FaultSet
faults_if b fault = if b then one_fault fault else no_faults

-- a number of arguments that the operator's row does not allow; no expression that was read has it
abbrev pub ill_typed : Own
ill_typed = record { kind = kinds.Any; code = Some codes.Kind; faults = no_faults }

-- operators of one argument, and of two
abbrev pub one_own : (Kind → Own) → List Kind → Own
one_own f (a ∷ []) = f a
one_own f _ = ill_typed

abbrev pub two_own : (Kind → Kind → Own) → List Kind → Own
two_own f (a ∷ b ∷ []) = f a b
two_own f _ = ill_typed

-- whether an argument has a kind
abbrev pub some_kind : Kind → List Kind → Bool
some_kind k [] = false
some_kind k (j ∷ js) = same_kind k j || some_kind k js

abbrev pub all_kinds : Kind → List Kind → Bool
all_kinds k [] = true
all_kinds k (j ∷ js) = same_kind k j && all_kinds k js

-- The kind that several have in common: their kind where all are equal, else any.
abbrev pub common_with : Kind → List Kind → Kind
common_with k ks = if all_kinds k ks then k else kinds.Any

abbrev pub common_kind : List Kind → Kind
common_kind [] = kinds.Any
common_kind (k ∷ ks) = common_with k ks
