-- What an evaluation of nodes gives, what it leaves as it was, and how many nodes it visits.
use Rattle.std.specs.Prelude.{◌≡◌, ℕ, ◌+◌, ◌≤◌, List, length, Result, IfOk}
use Rattle.std.specs.List.{slice_get}
use Rattle.std.proofs.Common.{zero, suc, [], ◌∷◌}
use Rattle.prop_values.specs.Data.{Data}
use Rattle.prop_values.specs.declared.fault.EvalFault.{EvalFault}
use Rattle.prop_values.specs.declared.value.Value.{Value}
use Rattle.halts.specs.declared.halt.Halt.{Halt}
use Rattle.operator_values.specs.Evaluated.{Evaluated, GivesValue}
use Rattle.eval_face.specs.Meanings.{looked_at, is_sequence, Meaning}
use Rattle.eval_face.specs.World.{World}
use Rattle.expr_syntax.specs.declared.expression.Operator.{Operator}
use Rattle.expr_syntax.specs.Names.{row}
use Rattle.expr_syntax.specs.Operators.{operator_name}
use Rattle.operator_rules.specs.ValueStack.{GivesAll, IsBelow, added}
use Rattle.expr_nodes.specs.Node.{Node, size, children}
use Rattle.expr_nodes.specs.Outcome.{promised, promises, each_outcome, all_known}
use Rattle.expr_nodes.specs.Limits.{AskEarlier}
use Rattle.expr_nodes.specs.Slots.{HoldPromises, pending}
use Rattle.expr_nodes.specs.declared.workspace.Workspace.{Workspace}

-- the arguments of a node, by what they give
abbrev pub arguments_of : Node → List Node → World → List Evaluated
arguments_of n bindings world = each_outcome (children n) (promises bindings world) world

abbrev pub known_arguments : Node → List Node → World → List Meaning
known_arguments n bindings world = all_known (arguments_of n bindings world)

abbrev pub outcome_at : List Evaluated → ℕ → Evaluated
outcome_at outcomes k = promised (slice_get outcomes k)

-- the argument of a place, looked at where it has to be a text or a list
abbrev pub argument_in : Operator → List Evaluated → ℕ → Evaluated
argument_in op outcomes k = looked_at (is_sequence (row (operator_name op)).sequence k) (outcome_at outcomes k)

-- An evaluation under a limit is made over bindings that ask for earlier ones, and its slots hold what they promise.
pub record IsReady (limit : ℕ) (bindings : List Node) (world : World) (evaluation : Workspace) : Type 0 where
  pub within : limit ≤ length bindings
  pub earlier : AskEarlier bindings
  pub kept : HoldPromises (promises bindings world) evaluation.slots.items

-- Of an evaluation that came so far: it visited as many nodes as it cost, those of a binding once, and no slot from the
-- limit on has changed.
pub record HasProgressed (limit : ℕ) (bindings : List Node) (world : World) (cost : ℕ) (old new : Workspace)
    (before after : ℕ) : Type 0 where
  pub kept : HoldPromises (promises bindings world) new.slots.items
  pub above : (i : ℕ) → limit ≤ i → slice_get new.slots.items i ≡ slice_get old.slots.items i
  pub rises : before ≤ after
  pub paid : after + pending limit bindings new.slots.items ≤ before + cost + pending limit bindings old.slots.items

-- What is given is what is meant, unless an allocation fails. At most as many nodes were visited as it costs and as
-- wait.
pub record EvaluatesNode (limit : ℕ) (bindings : List Node) (world : World) (result : Result Value (Halt EvalFault))
    (meant : Evaluated)
    (cost : ℕ) (old new : Workspace) (before after : ℕ) : Type 0 where
  pub gives : GivesValue result meant
  pub rises : before ≤ after
  pub most : after ≤ before + cost + pending limit bindings old.slots.items
  pub progress : IfOk result (λ _. HasProgressed limit bindings world cost old new before after)
  pub ready : IfOk result (λ _. IsReady limit bindings world new)
  pub stands : IfOk result (λ _. new.values.items ≡ old.values.items)

-- The values that are meant are added to the stack of values.
pub record EvaluatesNodes {A : Type 0} (limit : ℕ) (bindings : List Node) (world : World)
    (result : Result A (Halt EvalFault))
    (meant : Result (List Data) EvalFault) (cost : ℕ) (old new : Workspace) (before after : ℕ) : Type 0 where
  pub gives : GivesAll result (added old.values.items new.values.items) meant
  pub rises : before ≤ after
  pub most : after ≤ before + cost + pending limit bindings old.slots.items
  pub progress : IfOk result (λ _. HasProgressed limit bindings world cost old new before after)
  pub ready : IfOk result (λ _. IsReady limit bindings world new)
  pub stands : IfOk result (λ _. IsBelow old.values.items new.values.items)

-- the nodes of the argument of a place
abbrev pub size_in : List Node → ℕ → ℕ
size_in [] k = 0
size_in (n ∷ ns) zero = size n
size_in (n ∷ ns) (suc k) = size_in ns k
