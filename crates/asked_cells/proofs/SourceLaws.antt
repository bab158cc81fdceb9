-- What stays where cells of a layer are asked, and what its sources say of its expressions.
use Rattle.std.proofs.Common.{◌≡◌, ℕ, ◌<◌, List, length, Bool, Option, Some, None, is_some, refl, sym, ap, ◌∙◌, subst, if◌then◌else◌}
use Rattle.expr_syntax.specs.Mentioned.{mentions}
use Rattle.expr_nodes.specs.Evaluators.{Sized}
use Rattle.operator_values.specs.Evaluated.{Evaluated}
use Rattle.layer_buckets.specs.Seen.{HasFeature, evaluator_of, features_of, slot_in_source, source_of}
use Rattle.layer_buckets.specs.declared.buckets.Buckets.{Buckets}
use Rattle.layer_buckets.specs.declared.cell.CellItem.{CellItem}
use Rattle.layer_buckets.specs.declared.cell.Source.{Source}
use Rattle.style_layout.specs.Forms as forms
use Rattle.style_layout.specs.Forms.{reads_feature}
use Rattle.asked_cells.specs.Asked.{constant_answer, has_own_cells}
use Rattle.asked_cells.specs.Asking.{HasSlots, LeavesSources, common_answer, has_feature_cells, passes_by}
use Rattle.asked_cells.specs.Expressions.{CellExpression, HasExpressions, IsSourced, LayerExpressions}

module _ {E : Type 0} (number : ℕ) where
  pub leaves_all : (b : Buckets E) → LeavesSources number b b
  leaves_all b = record {
    evaluator = refl;
    source = λ layer item. refl;
    features = λ layer. refl;
    kept = λ cell apart. refl;
  }

  pub leaves_then : (a b c : Buckets E) → LeavesSources number a b → LeavesSources number b c → LeavesSources number a c
  leaves_then a b c e f = record {
    evaluator = f.evaluator ∙ e.evaluator;
    source = λ layer item. f.source layer item ∙ e.source layer item;
    features = λ layer. f.features layer ∙ e.features layer;
    kept = λ cell apart. f.kept cell apart ∙ e.kept cell apart;
  }

  pub feature_on : (old new : Buckets E) (feature : Option ℕ) → LeavesSources number old new
      → HasFeature (features_of old number) feature → HasFeature (features_of new number) feature
  feature_on old new feature e h = subst (λ n. HasFeature n feature) (sym (e.features number)) h

module _ {E : Type 0} (slots : E → List Sized) (number : ℕ) where
  pub slots_on : (old new : Buckets E) → LeavesSources number old new → HasSlots slots old number → HasSlots slots new number
  slots_on old new e h item there =
      let same = e.source number item in
      subst (λ o. slot_in_source o < length (slots (evaluator_of new))) (sym same)
      (subst (λ v. slot_in_source (source_of old number item) < length (slots v)) (sym e.evaluator)
      (h item (ap is_some (sym same) ∙ there)))

  pub expressions_on : (x : LayerExpressions) (old new : Buckets E) → LeavesSources number old new
      → HasExpressions slots number x old → HasExpressions slots number x new
  expressions_on x old new e h item =
      subst (IsSourced (slots (evaluator_of new)) item (x item)) (sym (e.source number item))
      (subst (λ v. IsSourced (slots v) item (x item) (source_of old number item)) (sym e.evaluator) (h item))

-- ---- filters

-- What a filter answers of all features, where it has no cell for each, by its expression and by what is kept of the
-- cell that serves them all.
abbrev pub answer_of_all : Option CellExpression → forms.LayerFilter → Option Evaluated → Option Bool
answer_of_all (Some e) f kept = if reads_feature (mentions e.term) then None else Some (passes_by kept)
answer_of_all None f kept = Some (constant_answer f)

module _ (slots : List Sized) (item : CellItem) where
  pub own_cells_same : (o : Option CellExpression) (source : Option Source) → IsSourced slots item o source
      → has_feature_cells source ≡ has_own_cells o
  own_cells_same None source is = ap has_feature_cells is
  own_cells_same (Some e) source (slot, is, at) = ap has_feature_cells is

  pub common_answer_same : (o : Option CellExpression) (source : Option Source) (f : forms.LayerFilter) (kept : Option Evaluated)
      → IsSourced slots item o source → common_answer source f kept ≡ answer_of_all o f kept
  common_answer_same None source f kept is = ap (λ s. common_answer s f kept) is
  common_answer_same (Some e) source f kept (slot, is, at) = ap (λ s. common_answer s f kept) is
