-- What the slots of bindings hold, and what an evaluation may still cost.
use Rattle.std.specs.Prelude.{◌≡◌, ℕ, ◌+◌, ◌*◌, List, [], ◌∷◌, Option, Some, None, Ok}
use Rattle.std.proofs.Common.{zero, suc}
use Rattle.prop_values.specs.Data.{Data}
use Rattle.prop_values.specs.View.{data_of}
use Rattle.operator_values.specs.Evaluated.{Evaluated}
use Rattle.expr_nodes.specs.Node.{Node, size}
use Rattle.expr_nodes.specs.declared.workspace.PromiseSlot.{PromiseSlot}
use Rattle.expr_nodes.specs.declared.workspace.PromiseSlot.TheVariants.{Waiting, Done}

-- what a slot holds
abbrev pub done_in : Option PromiseSlot → Option Data
done_in (Some (Done v)) = Some (data_of v)
done_in (Some Waiting) = None
done_in None = None

abbrev pub HoldsPromise : Evaluated → PromiseSlot → Type 0
HoldsPromise p Waiting = Unit {0}
HoldsPromise p (Done v) = p ≡ Ok (data_of v)

-- each slot holds what was promised of it, or nothing yet
abbrev pub HoldPromises : List Evaluated → List PromiseSlot → Type 0
HoldPromises [] [] = Unit {0}
HoldPromises (p ∷ ps) (s ∷ ss) = HoldsPromise p s × HoldPromises ps ss
HoldPromises [] (s ∷ ss) = ⊥
HoldPromises (p ∷ ps) [] = ⊥

abbrev pub wait_of : Node → PromiseSlot → ℕ
wait_of b Waiting = size b
wait_of b (Done v) = 0

-- the nodes of the bindings below a limit that were not asked for yet
abbrev pub pending : ℕ → List Node → List PromiseSlot → ℕ
pending zero bs ss = 0
pending (suc limit) [] ss = 0
pending (suc limit) (b ∷ bs) [] = 0
pending (suc limit) (b ∷ bs) (s ∷ ss) = wait_of b s + pending limit bs ss

-- how far an evaluation may go that asks for bindings below a limit
abbrev pub reach : ℕ → List Node → ℕ
reach zero bs = 0
reach (suc limit) [] = 0
reach (suc limit) (b ∷ bs) = 2 + 6 * size b + reach limit bs
