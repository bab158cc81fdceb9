-- What calls that ask cells ask and promise of what is kept.
use Rattle.std.specs.Prelude.{◌≡◌, ◌≢◌, ℕ, ◌<◌, List, length, Bool, true, false, Option, Some, None, is_some, Result}
use Rattle.std.specs.Prelude.{if◌then◌else◌}
use Rattle.operator_values.specs.Evaluated.{Evaluated}
use Rattle.expr_nodes.specs.Evaluators.{Sized}
use Rattle.eval_face.specs.Resolved.{passes}
use Rattle.layer_buckets.specs.Seen.{evaluator_of, features_of, kept_at, slot_in_source, source_of}
use Rattle.layer_buckets.specs.declared.buckets.Buckets.{Buckets}
use Rattle.layer_buckets.specs.declared.cell.Cell.{Cell}
use Rattle.layer_buckets.specs.declared.cell.CellItem.{CellItem}
use Rattle.layer_buckets.specs.declared.cell.CellItem.TheVariants as items
use Rattle.layer_buckets.specs.declared.cell.Source.{Source}
use Rattle.style_layout.specs.Forms as forms
use Rattle.style_layout.specs.Forms.{Scene, reads_feature}
use Rattle.style_layout.specs.Layers.{StyleLayer, has_features}
use Rattle.style_layout.specs.Shown.{LayerFeature, SourceTile, is_shown}
use Rattle.asked_cells.specs.Asked.{AskedCell, IsDecided, LayerCell, answer_by, constant_answer, has_own_cells}
use Rattle.asked_cells.specs.Asked.{layer_asked, meaning}
use Rattle.asked_cells.specs.Counted.{AreMeant, AreRight, Asks, kept_in}
use Rattle.asked_cells.specs.Expressions.{HasExpressions, LayerExpressions}

-- The evaluator, the sources, the numbers of features and what is kept of other layers stay.
pub record LeavesSources {E : Type 0} (number : ℕ) (old new : Buckets E) : Type 0 where
  pub evaluator : evaluator_of new ≡ evaluator_of old
  pub source : (layer : ℕ) (item : CellItem) → source_of new layer item ≡ source_of old layer item
  pub features : (layer : ℕ) → features_of new layer ≡ features_of old layer
  pub kept : (cell : Cell) → number ≢ cell.layer → kept_at new cell ≡ kept_at old cell

-- whether a filter has a cell for each feature, by its source
abbrev pub has_feature_cells : Option Source → Bool
has_feature_cells (Some s) = reads_feature s.mentions
has_feature_cells None = false

abbrev pub passes_by : Option Evaluated → Bool
passes_by (Some e) = passes e
passes_by None = false

module _ {E : Type 0} (slots : E → List Sized) where
  -- the evaluator has the expression of each source of a layer
  abbrev pub HasSlots : Buckets E → ℕ → Type 0
  HasSlots b layer = (item : CellItem) → is_some (source_of b layer item) ≡ true →
      slot_in_source (source_of b layer item) < length (slots (evaluator_of b))

  -- Cells of a layer are asked as they are meant, by the expressions of its items.
  abbrev pub AsksIf : {X : Type 0} → ℕ → (LayerExpressions → Type 0) → (LayerExpressions → List AskedCell) →
      Buckets E → Buckets E → Result ℕ X → ℕ → ℕ → Type 0
  AsksIf number holds asked old new result before after =
      (expressions : LayerExpressions) (means : LayerCell → Evaluated) →
      HasExpressions slots number expressions old → AreRight means (kept_in old number) → holds expressions →
      AreMeant means (asked expressions) →
      Asks means (asked expressions) (kept_in old number) (kept_in new number) result before after

  abbrev pub AsksAll : {X : Type 0} → ℕ → (LayerExpressions → List AskedCell) → Buckets E → Buckets E →
      Result ℕ X → ℕ → ℕ → Type 0
  AsksAll number asked old new result before after =
      (expressions : LayerExpressions) (means : LayerCell → Evaluated) →
      HasExpressions slots number expressions old → AreRight means (kept_in old number) →
      AreMeant means (asked expressions) →
      Asks means (asked expressions) (kept_in old number) (kept_in new number) result before after

  -- The cells that a listing asks of a layer are asked, where what is kept is right, and where the expression of
  -- the filter says which features pass.
  abbrev pub AsksLayer : {X : Type 0} → ℕ → Scene → List SourceTile → StyleLayer → Buckets E → Buckets E →
      Result ℕ X → ℕ → ℕ → Type 0
  AsksLayer number scene tiles layer old new result before after = (expressions : LayerExpressions) →
      HasExpressions slots number expressions old →
      AreRight (meaning scene tiles layer expressions) (kept_in old number) →
      IsDecided scene (expressions items.Filter) layer →
      Asks (meaning scene tiles layer expressions) (layer_asked expressions scene tiles layer)
      (kept_in old number) (kept_in new number) result before after

-- What a filter answers of all features, where it has no cell for each: by its source, and by what is kept of
-- the cell that serves them all.
abbrev pub common_answer : Option Source → forms.LayerFilter → Option Evaluated → Option Bool
common_answer (Some s) f kept = if reads_feature s.mentions then None else Some (passes_by kept)
common_answer None f kept = Some (constant_answer f)

-- Whether a feature passes is what is answered of all features, or else what its own cell of the filter says.
abbrev pub IsAnswer : LayerExpressions → Scene → StyleLayer → Option Bool → LayerFeature → Type 0
IsAnswer expressions scene layer (Some passes) f =
    (has_own_cells (expressions items.Filter) ≡ false) × (is_shown scene layer f ≡ passes)
IsAnswer expressions scene layer None f = (has_own_cells (expressions items.Filter) ≡ true)
    × (is_shown scene layer f ≡ answer_by scene (expressions items.Filter) layer.filter f)

abbrev pub IsCommonAnswer : LayerExpressions → Scene → StyleLayer → Option Bool → Type 0
IsCommonAnswer expressions scene layer answer =
    has_features layer.type ≡ true → (f : LayerFeature) → IsAnswer expressions scene layer answer f
