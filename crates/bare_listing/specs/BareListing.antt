-- What the listing of a layer asks of its sources, and what it counts, where no cell is kept. Source: own.
use Rattle.std.specs.Prelude.{◌≡◌, ℕ, ◌+◌, ◌≤◌, List, [], ◌∷◌, length, Result, IfOk}
use Rattle.expr_nodes.specs.Evaluators.{Sized}
use Rattle.layer_buckets.specs.declared.buckets.Buckets.{Buckets}
use Rattle.layer_buckets.specs.declared.cell.CellItem.TheVariants as items
use Rattle.style_layout.specs.Forms.{Scene}
use Rattle.style_layout.specs.Layers.{StyleLayer}
use Rattle.style_layout.specs.Shown.{SourceTile}
use Rattle.asked_cells.specs.Asked.{AskedCell, IsDecided, layer_asked}
use Rattle.asked_cells.specs.Expressions.{AreGiven, HasExpressions, LayerExpressions}
use Rattle.cell_listing.specs.Listable.{AllReadAsListed}

-- The items of the layer that has this number in the buckets have sources by expressions that give what is listed for
-- its properties, and that say which features pass.
pub record IsBareListable {E : Type 0} (slots : E → List Sized) (number : ℕ) (scene : Scene) (layer : StyleLayer)
    (b : Buckets E) : Type 0 where
  pub expressions : LayerExpressions
  pub sourced : HasExpressions slots number expressions b
  pub decided : IsDecided scene (expressions items.Filter) layer
  pub given : AreGiven expressions layer.properties
  pub reads : AllReadAsListed expressions layer.properties

-- the nodes of the expressions of asked cells
abbrev pub asked_nodes : List AskedCell → ℕ
asked_nodes [] = 0
asked_nodes (a ∷ asked) = a.nodes + asked_nodes asked

-- Each of these cells is evaluated once, which is counted, in at least as many steps. No more steps are taken than
-- their expressions have nodes, also where an allocation fails.
pub record EvaluatesCells {X : Type 0} (asked : List AskedCell) (result : Result ℕ X) (before after : ℕ) : Type 0 where
  pub number : IfOk result (λ n. n ≡ length asked)
  pub least : IfOk result (λ n. before + n ≤ after)
  pub most : after ≤ before + asked_nodes asked

-- So it is with the cells that a listing asks of the layer that has a number, whatever the expressions of its sources.
abbrev pub EvaluatesLayer : {E X : Type 0} → (E → List Sized) → ℕ → Scene → List SourceTile → StyleLayer →
    Buckets E → Result ℕ X → ℕ → ℕ → Type 0
EvaluatesLayer slots number scene tiles layer b result before after = (expressions : LayerExpressions) →
    HasExpressions slots number expressions b →
    EvaluatesCells (layer_asked expressions scene tiles layer) result before after
