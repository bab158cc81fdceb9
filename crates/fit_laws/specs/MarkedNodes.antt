-- What typing promises of nodes that it marks as always fitting: their tests can be left out.
-- Source: own.
use Rattle.std.specs.Prelude.{◌≡◌, ℕ, List, [], ◌∷◌, map, Bool, Ok, Err}
use Rattle.decimal_json.specs.declared.paths.PathPart.{PathPart}
use Rattle.prop_values.specs.declared.kinds.Kind.{Kind}
use Rattle.prop_values.specs.declared.kinds.Want.{Want}
use Rattle.expr_syntax.specs.ReadTerms.{IsRead}
use Rattle.expr_syntax.specs.Term.{Term}
use Rattle.expr_types.specs.JudgedFacts.{places_in}
use Rattle.expr_types.specs.Typing.{TypedNodes, KindScope, places_of, typed_as}
use Rattle.expr_types.specs.declared.placed.Placed.{Placed}
use Rattle.operator_values.specs.Evaluated.{Evaluated}
use Rattle.eval_face.specs.Names.{BoundOutcomes}
use Rattle.eval_face.specs.World.{World}
use Rattle.expr_nodes.specs.Marks.{MarksHold}
use Rattle.typing_laws.specs.OfKind.{IsOfKind}

-- ---- names that are bound around an expression

-- an outcome is of a kind, where it is a value
abbrev pub IsOutcomeOf : Kind → Evaluated → Type 0
IsOutcomeOf k (Ok d) = IsOfKind k d
IsOutcomeOf k (Err fault) = Unit {0}

-- the names of one `let`, with kinds and with outcomes of these
abbrev pub BindingsAreOfTheirKinds : List (List ℕ × Kind) → List (List ℕ × Evaluated) → Type 0
BindingsAreOfTheirKinds [] [] = Unit {0}
BindingsAreOfTheirKinds (a ∷ as_) (b ∷ bs) = (a.0 ≡ b.0) × IsOutcomeOf a.1 b.1 × BindingsAreOfTheirKinds as_ bs
BindingsAreOfTheirKinds _ _ = ⊥

abbrev pub NamesAreOfTheirKinds : KindScope → BoundOutcomes → Type 0
NamesAreOfTheirKinds [] [] = Unit {0}
NamesAreOfTheirKinds (as_ ∷ scope) (bs ∷ names) = BindingsAreOfTheirKinds as_ bs × NamesAreOfTheirKinds scope names
NamesAreOfTheirKinds _ _ = ⊥

-- ---- the law

-- which nodes are marked
abbrev pub marks_of : List Placed → List Bool
marks_of places = map (λ placed. placed.always) places

-- In names whose outcomes are of their kinds, in every world, each node that is marked and fits its own value gives
-- under its want what it gives where anything is wanted, unless a text is shown of it. So its test can be left out.
abbrev pub MarkedNodesFit : Type 0
MarkedNodesFit =
    (bound : List (List ℕ)) (t : Term) (is_sequence : Bool) (want : Want) (scope : KindScope) (path : List PathPart)
    (names : BoundOutcomes) (world : World) (found : TypedNodes) → IsRead bound t →
    typed_as t is_sequence want scope path ≡ Ok found → NamesAreOfTheirKinds scope names →
    MarksHold t want (marks_of (places_of found)) names world

-- The same with no names around it, in the words of `Typed`: an expression that is refused has no places, so that none
-- of its nodes is marked.
abbrev pub CheckedNodesFit : Type 0
CheckedNodesFit =
    (t : Term) (want : Want) (world : World) → IsRead [] t → MarksHold t want (marks_of (places_in (t, want))) [] world
