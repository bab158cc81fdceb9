-- What typing promises of evaluation: where an expression has a kind, each fault that it gives was listed,
-- and each value is of the kind.
-- Source: own.
use Rattle.std.specs.Prelude.{◌≡◌, [], length, true, Option, Ok, Err}
use Rattle.prop_values.specs.Data.{Data}
use Rattle.prop_values.specs.Faults.{holds, no_faults}
use Rattle.prop_values.specs.declared.fault.EvalFault.{EvalFault}
use Rattle.prop_values.specs.declared.kinds.Want.{Want}
use Rattle.prop_values.specs.declared.kinds.Want.TheVariants as wants
use Rattle.property_tables.specs.Fitting.{fit}
use Rattle.property_tables.specs.Rows.{RowData}
use Rattle.expr_syntax.specs.ReadTerms.{IsRead}
use Rattle.expr_syntax.specs.Term.{Term}
use Rattle.expr_syntax.specs.TermSize.{nodes}
use Rattle.expr_types.specs.Checked.{checked, checked_free}
use Rattle.expr_types.specs.Judged.{Judged}
use Rattle.expr_types.specs.JudgedFacts.{judged, kind_of, may_of, places_in}
use Rattle.expr_types.specs.Typing.{TypedNodes, typed}
use Rattle.eval_face.specs.Meaning.{mean}
use Rattle.eval_face.specs.World.{World}
use Rattle.typing_laws.specs.OfKind.{IsOfKind}

-- An expression that was read has a kind under a want, with the faults that are listed for it; no names are
-- around it.
abbrev pub HasType : Term → Want → TypedNodes → Type 0
HasType t want found = IsRead [] t × (typed t want [] [] ≡ Ok found)

-- In every world, whatever its zoom, feature, state and tests are, the fault that the expression gives is one
-- of those that are listed.
abbrev pub EveryFaultIsListed : Type 0
EveryFaultIsListed =
    (t : Term) (want : Want) (world : World) (found : TypedNodes) (fault : EvalFault) → HasType t want found →
    mean t want [] world ≡ Err fault → holds found.node.may fault ≡ true

-- In every world the value that the expression gives is of its kind, and fits the want as it is.
abbrev pub EveryValueIsOfItsKind : Type 0
EveryValueIsOfItsKind =
    (t : Term) (want : Want) (world : World) (found : TypedNodes) (d : Data) → HasType t want found →
    mean t want [] world ≡ Ok d → IsOfKind found.node.kind d × (fit want d ≡ Ok d)

-- An expression for which no fault is listed never fails: in every world it gives a value.
abbrev pub NoFaultIsGivenWhereNoneIsListed : Type 0
NoFaultIsGivenWhereNoneIsListed =
    (t : Term) (want : Want) (world : World) (found : TypedNodes) → HasType t want found →
    found.node.may ≡ no_faults → (d : Data) × (mean t want [] world ≡ Ok d)

-- What is known of an expression is known of each of its nodes, literals among them: there are as many places
-- as nodes.
abbrev pub EachNodeHasAPlace : Type 0
EachNodeHasAPlace =
    (t : Term) (want : Want) (found : TypedNodes) → HasType t want found → length (places_in (t, want)) ≡ nodes t

-- ---- the same of what `check` and `check_free` answer, in the words of `Typed`: the expression and the want
-- that were checked

pub record KeepsTheLaws (t : Term) (want : Want) (accepted : Judged) : Type 0 where
  pub faults : (world : World) (fault : EvalFault) → mean t want [] world ≡ Err fault →
      holds (may_of accepted) fault ≡ true
  pub values : (world : World) (d : Data) → mean t want [] world ≡ Ok d →
      IsOfKind (kind_of accepted) d × (fit want d ≡ Ok d)
  pub places : length (places_in accepted) ≡ nodes t

-- as the value of a property of a row, or as a filter where there is none
abbrev pub CheckedExpressionsKeepTheLaws : Type 0
CheckedExpressionsKeepTheLaws =
    (t : Term) (want : Want) (row : Option RowData) (accepted : Judged) → IsRead [] t →
    judged (t, want) (checked t want row) ≡ Ok accepted → KeepsTheLaws t want accepted

-- by itself
abbrev pub FreeExpressionsKeepTheLaws : Type 0
FreeExpressionsKeepTheLaws =
    (t : Term) (accepted : Judged) → IsRead [] t → judged (t, wants.Any) (checked_free t) ≡ Ok accepted →
    KeepsTheLaws t wants.Any accepted
