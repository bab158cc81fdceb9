-- A layer that can be listed by what is kept of its cells. Source: own.
use Rattle.std.specs.Prelude.{◌≡◌, ℕ, List, [], ◌∷◌, Option, Some, None, true}
use Rattle.expr_nodes.specs.Evaluators.{Sized}
use Rattle.expr_syntax.specs.Mentioned.{mentions}
use Rattle.layer_buckets.specs.declared.buckets.Buckets.{Buckets}
use Rattle.layer_buckets.specs.declared.cell.CellItem.TheVariants as items
use Rattle.style_layout.specs.Forms.{Property, Scene, reads_feature}
use Rattle.style_layout.specs.Layers.{StyleLayer}
use Rattle.style_layout.specs.Shown.{SourceTile}
use Rattle.asked_cells.specs.Asked.{IsDecided, LayerCell, layer_asked, meaning}
use Rattle.asked_cells.specs.Counted.{KeptValues, is_asked, kept_in}
use Rattle.asked_cells.specs.Expressions.{AreGiven, CellExpression, HasExpressions, LayerExpressions}

-- Each cell that a listing asks of a layer is kept, with what it means.
abbrev pub AreKept : Scene → List SourceTile → StyleLayer → LayerExpressions → KeptValues → Type 0
AreKept scene tiles layer expressions kept = (cell : LayerCell) →
    is_asked (layer_asked expressions scene tiles layer) cell ≡ true →
    kept cell ≡ Some (meaning scene tiles layer expressions cell)

-- A value is listed with each feature where its expression reads a feature or its state, and else with the layer:
-- so a sort key that is listed with the layer is the same for all its features.
abbrev pub ReadsAsListed : Property → Option CellExpression → Type 0
ReadsAsListed p (Some e) = p.is_per_feature ≡ reads_feature (mentions e.term)
ReadsAsListed p None = Unit {0}

abbrev pub AllReadAsListed : LayerExpressions → List Property → Type 0
AllReadAsListed expressions [] = Unit {0}
AllReadAsListed expressions (p ∷ ps) =
    ReadsAsListed p (expressions (items.Property p.row.number)) × AllReadAsListed expressions ps

-- The items of the layer that has a number have sources by expressions that give what is listed for its properties,
-- and that say which features pass; and the cells that a listing asks are kept.
pub record IsListable {E : Type 0} (slots : E → List Sized) (number : ℕ) (scene : Scene) (tiles : List SourceTile)
    (layer : StyleLayer) (b : Buckets E) : Type 0 where
  pub expressions : LayerExpressions
  pub sourced : HasExpressions slots number expressions b
  pub decided : IsDecided scene (expressions items.Filter) layer
  pub given : AreGiven expressions layer.properties
  pub reads : AllReadAsListed expressions layer.properties
  pub kept : AreKept scene tiles layer expressions (kept_in b number)
