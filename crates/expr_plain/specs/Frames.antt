-- The bindings around an expression, and what the slots of those that were asked for hold.
use Rattle.std.specs.Prelude.{◌≡◌, ℕ, ◌+◌, ◌*◌, ◌<◌, List, [], ◌∷◌, ◌++◌, length, Option, Some, None, Ok, Err}
use Rattle.std.specs.List.{slice_get}
use Rattle.prop_values.specs.declared.fault.EvalFault.TheVariants.{WrongType}
use Rattle.prop_values.specs.declared.kinds.Want.TheVariants as wants
use Rattle.prop_values.specs.View.{data_of}
use Rattle.expr_syntax.specs.declared.expression.Expr.{Expr}
use Rattle.expr_syntax.specs.TermView.{weight}
use Rattle.expr_syntax.specs.TermSize.{nodes}
use Rattle.expr_syntax.specs.TermView.{term_of}
use Rattle.operator_values.specs.Evaluated.{Evaluated}
use Rattle.eval_face.specs.World.{World}
use Rattle.eval_face.specs.Names.{BoundOutcomes, bound, named}
use Rattle.eval_face.specs.Bindings.{outcomes_of}
use Rattle.eval_face.specs.Meaning.{mean}
use Rattle.expr_plain.specs.Terms.{meanings}
use Rattle.expr_plain.specs.declared.evaluation.Evaluation.{Evaluation}
use Rattle.expr_plain.specs.declared.evaluation.BindingSlot.{BindingSlot}
use Rattle.expr_plain.specs.declared.evaluation.BindingSlot.TheVariants.{Waiting, Done}
use Rattle.expr_plain.specs.declared.frames.Binding.{Binding}
use Rattle.expr_plain.specs.declared.frames.Frames.{Frames}
use Rattle.expr_plain.specs.declared.frames.BindingScope.{BindingScope, Empty, Frame'}

-- the names that an expression sees
abbrev pub names_of : BindingScope → World → BoundOutcomes
names_of Empty world = []
names_of (Frame' names es first p outer q below) world =
    bound names.now (outcomes_of (meanings es.now) (names_of outer world) world) ∷ names_of outer world

-- what a binding gives in the frames around its own
abbrev pub promise_of : Expr → BindingScope → World → Evaluated
promise_of binding outer world = mean (term_of binding) wants.Any (names_of outer world) world

-- what the slots of all frames that were entered and not left are to hold, those of the first one first
abbrev pub promises : BindingScope → World → List Evaluated
promises Empty world = []
promises (Frame' names es first p outer q below) world =
    promises below world ++ outcomes_of (meanings es.now) (names_of outer world) world

-- these promises are there from a place on
abbrev pub Has : List Evaluated → ℕ → List Evaluated → Type 0
Has [] i ps = Unit {0}
Has (o ∷ os) i ps = (slice_get ps i ≡ Some o) × Has os (i + 1) ps

-- the promises of each frame are where it says
abbrev pub IsReady : BindingScope → World → List Evaluated → Type 0
IsReady Empty world ps = Unit {0}
IsReady (Frame' names es first p outer q below) world ps =
    Has (outcomes_of (meanings es.now) (names_of outer world) world) first ps
    × (length names.now ≡ length es.now)
    × IsReady outer world ps

abbrev pub IsKept : Evaluated → BindingSlot → Type 0
IsKept p Waiting = Unit {0}
IsKept p (Done v) = p ≡ Ok (data_of v)

-- each slot holds what was promised of it, or nothing yet
abbrev pub AreKept : List Evaluated → List BindingSlot → Type 0
AreKept [] [] = Unit {0}
AreKept (p ∷ ps) (s ∷ ss) = IsKept p s × AreKept ps ss
AreKept [] (s ∷ ss) = ⊥
AreKept (p ∷ ps) [] = ⊥

-- An expression is evaluated in frames that were entered and not left, and the slots hold what they promise.
pub record IsEntered (frames : Frames) (world : World) (evaluation : Evaluation) : Type 0 where
  pub ready : IsReady frames.scope.now world (promises frames.entered.now world)
  pub kept : AreKept (promises frames.entered.now world) evaluation.slots.items

-- each binding has a name, and its slot is among so many
abbrev pub IsWithin : ℕ → BindingScope → Type 0
IsWithin count Empty = Unit {0}
IsWithin count (Frame' names es first p outer q below) =
    ((k : ℕ) → k < length es.now → first + k < count)
    × (length names.now ≡ length es.now)
    × IsWithin count outer

-- how far an evaluation in these frames may go
abbrev pub scope_size : BindingScope → ℕ
scope_size Empty = 0
scope_size (Frame' names es first p outer q below) = 2 + 6 * weight es.now + scope_size outer

-- A name represents a binding: what it means is what the binding gives, and that is promised of the binding's slot in
-- frames that are ready.
pub record IsNamed (name : List ℕ) (scope : BindingScope) (binding : Binding) : Type 0 where
  pub meant : (world : World)
      → named (names_of scope world) name ≡ promise_of binding.expression.now binding.outer.now world
  pub promised : (world : World) (ps : List Evaluated) → IsReady scope world ps
      → slice_get ps binding.slot ≡ Some (promise_of binding.expression.now binding.outer.now world)
  pub ready : (world : World) (ps : List Evaluated) → IsReady scope world ps
      → IsReady binding.outer.now world ps
  pub smaller : 6 * nodes (term_of binding.expression.now) + scope_size binding.outer.now < scope_size scope

abbrev pub Finds : List ℕ → BindingScope → Option Binding → Type 0
Finds name scope (Some binding) = IsNamed name scope binding
Finds name scope None = (world : World) → named (names_of scope world) name ≡ Err WrongType
