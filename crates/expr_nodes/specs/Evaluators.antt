-- What an evaluator gives for the expression of a number.
use Rattle.std.specs.Prelude.{ℕ, ◌+◌, ◌≤◌, List, [], length, Option, Some, None, Result}
use Rattle.std.specs.List.{slice_get}
use Rattle.prop_values.specs.declared.fault.EvalFault.{EvalFault}
use Rattle.prop_values.specs.declared.kinds.Want.{Want}
use Rattle.prop_values.specs.declared.value.Value.{Value}
use Rattle.halts.specs.declared.halt.Halt.{Halt}
use Rattle.expr_syntax.specs.Term.{Term}
use Rattle.expr_syntax.specs.TermSize.{nodes}
use Rattle.operator_values.specs.Evaluated.{Evaluated, GivesValue}
use Rattle.eval_face.specs.Meaning.{mean}
use Rattle.eval_face.specs.World.{World}
use Rattle.expr_nodes.specs.Node.{Node, size, total_size}
use Rattle.expr_nodes.specs.Outcome.{outcome, promises}
use Rattle.expr_nodes.specs.Limits.{AsksBelow, AskEarlier}

-- what an expression under a want gives in each world, and how many nodes it has
abbrev pub Sized : Type 0
Sized = (World → Evaluated) × ℕ

-- an expression with no names around it
abbrev pub sized_term : Term → Want → Sized
sized_term t want = ((λ world. mean t want [] world), nodes t)

-- a node with its bindings, of an expression of so many nodes
abbrev pub sized_node : Node × List Node × ℕ → Sized
sized_node n = ((λ world. outcome n.0 (promises n.1 world) world), n.2)

-- it can be evaluated from the first binding to the last, and has no more nodes
pub record IsEvaluable (n : Node × List Node × ℕ) : Type 0 where
  pub below : AsksBelow (length n.1) n.0
  pub earlier : AskEarlier n.1
  pub sized : size n.0 + total_size n.1 ≤ n.2

abbrev pub GivesIn : Result Value (Halt EvalFault) → Option Sized → World → Type 0
GivesIn result (Some e) world = GivesValue result (e.0 world)
GivesIn result None world = Unit {0}

-- What is given is what the expression of a number gives, unless an allocation fails.
abbrev pub GivesAt : Result Value (Halt EvalFault) → List Sized → ℕ → World → Type 0
GivesAt result slots slot world = GivesIn result (slice_get slots slot) world

abbrev pub nodes_in : Option Sized → ℕ
nodes_in (Some e) = e.1
nodes_in None = 0

abbrev pub nodes_at : List Sized → ℕ → ℕ
nodes_at slots slot = nodes_in (slice_get slots slot)
