-- What is asked of a feature, and what a filter answers of it.
use Rattle.std.proofs.Common.{◌≡◌, ℕ, suc, ◌+◌, ◌<◌, ◌≤◌, List, [], ◌∷◌, ◌++◌, length, Bool, true, false, Option, Some, None, refl, sym, ap, ◌∙◌, subst, arith, if◌then◌else◌}
use Rattle.std.specs.Prelude.{flat_map}
use Rattle.tile_reader.specs.declared.tile.Feature.{Feature}
use Rattle.operator_values.specs.Evaluated.{Evaluated}
use Rattle.eval_face.specs.Resolved.{passes}
use Rattle.expr_nodes.specs.Evaluators.{Sized}
use Rattle.layer_buckets.specs.Seen.{evaluator_of, source_of}
use Rattle.layer_buckets.specs.declared.buckets.Buckets.{Buckets}
use Rattle.layer_buckets.specs.declared.cell.CellItem.TheVariants as items
use Rattle.style_layout.specs.Forms.{Scene}
use Rattle.style_layout.specs.Layers.{StyleLayer, has_features}
use Rattle.style_layout.specs.Shown.{LayerFeature, SourceTile, is_shown, layer_features, numbered, tile_features}
use Rattle.asked_cells.specs.Asked.{IsDecided, LayerCell, answer_by, asked_by, common_asked, common_cell, feature_asked, filter_asked, given_by, has_own_cells, passed_asked}
use Rattle.asked_cells.specs.Asking.{IsAnswer, IsCommonAnswer, common_answer, passes_by}
use Rattle.asked_cells.specs.Counted.{AreMeant, HaveAsked, KeptValues, kept_in}
use Rattle.asked_cells.specs.Expressions.{CellExpression, HasExpressions, LayerExpressions}
use Rattle.asked_cells.proofs.CellLaws.{kept_given}
use Rattle.asked_cells.proofs.SourceLaws.{answer_of_all, common_answer_same}

module _ (x : LayerExpressions) (scene : Scene) (layer : StyleLayer) where
  -- ---- features

  -- the filter has no cell for each
  pub common_feature : (f : LayerFeature) (passes : Bool) → IsAnswer x scene layer (Some passes) f
      → passed_asked x scene passes f layer.properties ≡ feature_asked x scene layer f
  common_feature f passes answer = sym (
      ap (λ own. (if own then filter_asked x scene (Some f) else [])
      ++ passed_asked x scene (is_shown scene layer f) f layer.properties) answer.0
      ∙ ap (λ b. passed_asked x scene b f layer.properties) answer.1)

  -- the filter has a cell for each, which says that the feature passes or not
  pub own_feature : (f : LayerFeature) (passes : Bool) → has_own_cells (x items.Filter) ≡ true
      → is_shown scene layer f ≡ passes
      → filter_asked x scene (Some f) ++ passed_asked x scene passes f layer.properties ≡ feature_asked x scene layer f
  own_feature f passes own shown = sym (
      ap (λ own. (if own then filter_asked x scene (Some f) else [])
      ++ passed_asked x scene (is_shown scene layer f) f layer.properties) own
      ∙ ap (λ b. filter_asked x scene (Some f) ++ passed_asked x scene b f layer.properties) shown)

  -- ---- filters

  module _ (meaning : LayerCell → Evaluated) (old new : KeptValues) (n before after : ℕ) where
    own_by : (f : LayerFeature) (o : Option CellExpression) → has_own_cells o ≡ true
        → AreMeant meaning (asked_by scene o (Some f) items.Filter)
        → HaveAsked meaning (asked_by scene o (Some f) items.Filter) old new n before after
        → answer_by scene o layer.filter f ≡ passes_by (new (record { feature = Some f.number; item = items.Filter }))
    own_by f None own meant h = absurd (cc)
    own_by f (Some e) own meant h =
        ap (λ b. passes (given_by scene e (if b then Some f else None))) own
        ∙ ap passes_by (sym (kept_given meaning scene e (Some f) items.Filter old new n before after meant h))

    -- what is kept of a feature's own cell of the filter says whether it passes
    pub own_shown : (f : LayerFeature) → IsAnswer x scene layer None f → AreMeant meaning (filter_asked x scene (Some f))
        → HaveAsked meaning (filter_asked x scene (Some f)) old new n before after
        → is_shown scene layer f ≡ passes_by (new (record { feature = Some f.number; item = items.Filter }))
    own_shown f answer meant h = answer.1 ∙ own_by f (x items.Filter) answer.0 meant h

    common_by : (f : LayerFeature) (o : Option CellExpression) → x items.Filter ≡ o → is_shown scene layer f ≡ answer_by scene o layer.filter f
        → (own : Bool) → has_own_cells o ≡ own
        → AreMeant meaning (if own then [] else asked_by scene o None items.Filter)
        → HaveAsked meaning (if own then [] else asked_by scene o None items.Filter) old new n before after
        → IsAnswer x scene layer (answer_of_all o layer.filter (new common_cell)) f
    common_by f None is shown own reads meant asked = (ap has_own_cells is, shown)
    common_by f (Some e) is shown true reads meant asked =
        subst (λ b. IsAnswer x scene layer (if b then None else Some (passes_by (new common_cell))) f) (sym reads)
        (ap has_own_cells is ∙ reads, shown ∙ ap (λ o. answer_by scene o layer.filter f) (sym is))
    common_by f (Some e) is shown false reads meant asked =
        subst (λ b. IsAnswer x scene layer (if b then None else Some (passes_by (new common_cell))) f) (sym reads) (
          ap has_own_cells is ∙ reads,
          shown
              ∙ (ap (λ b. passes (given_by scene e (if b then Some f else None))) reads
              ∙ ap passes_by (sym (kept_given meaning scene e None items.Filter old new n before after meant asked))),
        )

    -- what is kept of the cell that serves all features is what the filter answers
    pub common_shown : IsDecided scene (x items.Filter) layer → AreMeant meaning (common_asked x scene)
        → HaveAsked meaning (common_asked x scene) old new n before after
        → IsCommonAnswer x scene layer (answer_of_all (x items.Filter) layer.filter (new common_cell))
    common_shown decided meant asked typed f =
        common_by f (x items.Filter) refl (decided typed f) (has_own_cells (x items.Filter)) refl meant asked

-- the answer that is read off what is kept
pub common_answer_of : {E : Type 0} (slots : E → List Sized) (x : LayerExpressions) (scene : Scene) (number : ℕ) (layer : StyleLayer)
    (b : Buckets E) (answer : Option Bool) → HasExpressions slots number x b
    → IsCommonAnswer x scene layer (answer_of_all (x items.Filter) layer.filter (kept_in b number common_cell))
    → answer ≡ common_answer (source_of b number items.Filter) layer.filter (kept_in b number common_cell)
    → IsCommonAnswer x scene layer answer
common_answer_of slots x scene number layer b answer h shown is = subst (λ a. IsCommonAnswer x scene layer a)
    (sym (is ∙ common_answer_same (slots (evaluator_of b)) items.Filter (x items.Filter) (source_of b number items.Filter)
    layer.filter (kept_in b number common_cell) (h items.Filter))) shown

-- ---- the numbers of features

abbrev pub AreBelow : ℕ → List (ℕ × Feature) → Type 0
AreBelow count [] = Unit {0}
AreBelow count (nf ∷ nfs) = (nf.0 < count) × AreBelow count nfs

pub numbers_below : (n count : ℕ) (fs : List Feature) → n + length fs ≤ count → AreBelow count (numbered n fs)
numbers_below n count [] h = tt
numbers_below n count (f ∷ fs) h = (omega (arith, h), numbers_below (n + 1) count fs (omega (arith, h)))

-- a type without features has none
pub no_features : (tiles : List SourceTile) (layer : StyleLayer) → has_features layer.type ≡ false
    → numbered 0 (layer_features tiles layer) ≡ []
no_features tiles layer e = ap (λ b. numbered 0 (flat_map (tile_features layer) (if b then tiles else []))) e

-- a feature that is found is of a type that has features
pub has_some : (b : Bool) (left later : List (ℕ × Feature)) (nf : ℕ × Feature) → (b ≡ false → left ≡ []) → left ≡ nf ∷ later → b ≡ true
has_some true left later nf none found = refl
has_some false left later nf none found = let e = none refl in absurd (cc)

pub numbered_length : (n : ℕ) (fs : List Feature) → length (numbered n fs) ≡ length fs
numbered_length n [] = refl
numbered_length n (f ∷ fs) = ap (λ k. suc k) (numbered_length (n + 1) fs)
