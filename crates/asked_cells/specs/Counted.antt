-- Which of the asked cells of a layer are evaluated, and what is kept afterwards. Source: own.
use Rattle.std.specs.Prelude.{◌≡◌, ℕ, ◌+◌, ◌≤◌, List, [], ◌∷◌, Bool, false, ◌||◌, Option, Some, is_some, Result, IfOk}
use Rattle.std.specs.Prelude.{if◌then◌else◌}
use Rattle.operator_values.specs.Evaluated.{Evaluated}
use Rattle.layer_buckets.specs.Seen.{kept_at}
use Rattle.layer_buckets.specs.declared.buckets.Buckets.{Buckets}
use Rattle.asked_cells.specs.Asked.{AskedCell, LayerCell, cell_in, layer_cell_eq}

-- the value or the fault that is kept for each cell of a layer
abbrev pub KeptValues : Type 0
KeptValues = LayerCell → Option Evaluated

-- what is kept for the layer that has a number
abbrev pub kept_in : {E : Type 0} → Buckets E → ℕ → KeptValues
kept_in b number c = kept_at b (cell_in number c)

abbrev pub is_kept : KeptValues → LayerCell → Bool
is_kept kept cell = is_some (kept cell)

abbrev pub is_asked : List AskedCell → LayerCell → Bool
is_asked [] cell = false
is_asked (a ∷ asked) cell = layer_cell_eq a.cell cell || is_asked asked cell

-- The sum over the asked cells that are not kept. A cell counts once, however often it is asked.
abbrev pub sum_of_new : (AskedCell → ℕ) → (LayerCell → Bool) → List AskedCell → ℕ
sum_of_new amount kept [] = 0
sum_of_new amount kept (a ∷ asked) =
    (if kept a.cell then 0 else amount a) + sum_of_new amount (λ cell. kept cell || layer_cell_eq a.cell cell) asked

-- The number of a listing of a layer: of the asked cells those that are not kept.
abbrev pub evaluations : (LayerCell → Bool) → List AskedCell → ℕ
evaluations kept asked = sum_of_new (λ (a : AskedCell). 1) kept asked

-- The nodes of their expressions.
abbrev pub total_nodes : (LayerCell → Bool) → List AskedCell → ℕ
total_nodes kept asked = sum_of_new (λ (a : AskedCell). a.nodes) kept asked

module _ (meaning : LayerCell → Evaluated) where
  -- each asked cell is kept with what it means, and every other as it was
  abbrev pub kept_after : List AskedCell → KeptValues → KeptValues
  kept_after asked kept cell = if is_asked asked cell then Some (meaning cell) else kept cell

  -- what is kept is what is meant
  abbrev pub AreRight : KeptValues → Type 0
  AreRight kept = (cell : LayerCell) (value : Evaluated) → kept cell ≡ Some value → value ≡ meaning cell

  -- what the expressions of asked cells give is what is meant
  abbrev pub AreMeant : List AskedCell → Type 0
  AreMeant [] = Unit {0}
  AreMeant (a ∷ asked) = (a.given ≡ meaning a.cell) × AreMeant asked

  -- Cells have been asked, of which so many were evaluated, in at least as many steps.
  pub record HaveAsked (asked : List AskedCell) (old new : KeptValues) (n before after : ℕ) : Type 0 where
    pub kept : (cell : LayerCell) → new cell ≡ kept_after asked old cell
    pub evaluated : n ≡ evaluations (is_kept old) asked
    pub least : before + n ≤ after

  -- What a call does that asks cells. What was kept stays, and no more steps are taken than the expressions of
  -- the cells that are not kept have nodes, also where an allocation fails.
  pub record Asks {X : Type 0} (asked : List AskedCell) (old new : KeptValues) (result : Result ℕ X)
      (before after : ℕ) : Type 0 where
    pub most : after ≤ before + total_nodes (is_kept old) asked
    pub stays : (cell : LayerCell) (value : Evaluated) → old cell ≡ Some value → new cell ≡ Some value
    pub ok : IfOk result (λ n. HaveAsked asked old new n before after)
