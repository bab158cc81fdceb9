-- Which features pass, by what is kept of the cells of a filter.
use Rattle.std.proofs.Common.{◌≡◌, ◌∙◌, ℕ, ◌+◌, List, [], ◌∷◌, ◌++◌, Bool, true, false, Option, Some, None, length, map, refl, sym, ap, if◌then◌else◌}
use Rattle.std.specs.Prelude.{flat_map, option_map}
use Rattle.std.specs.List.{AllByRecursion, slice_get}
use Rattle.std.proofs.lemmas.Bool.{true≢false}
use Rattle.std.proofs.lemmas.List.{append_assoc, length-append}
use Rattle.tile_reader.specs.declared.tile.Feature.{Feature}
use Rattle.expr_syntax.specs.Mentioned.{mentions}
use Rattle.expr_nodes.specs.Evaluators.{Sized}
use Rattle.layer_buckets.specs.declared.cell.CellItem.TheVariants as items
use Rattle.layer_buckets.specs.declared.cell.Source.{Source}
use Rattle.style_layout.specs.Forms.{Scene, reads_feature}
use Rattle.style_layout.specs.Layers.{StyleLayer, has_features}
use Rattle.style_layout.specs.Shown.{LayerFeature, SourceTile, is_shown, layer_features, numbered, those_shown, tile_features, with_state}
use Rattle.asked_cells.specs.Asked.{LayerCell, IsDecided, answer_by, asked_by, common_cell, common_asked, each_asked, feature_at, given_by, has_own_cells, meaning_by, numbered_asked, own_filter_asked, passed_asked}
use Rattle.asked_cells.specs.Asking.{common_answer, passes_by}
use Rattle.asked_cells.specs.Counted.{KeptValues, is_asked}
use Rattle.asked_cells.specs.Expressions.{AreGiven, CellExpression, IsSourced, LayerExpressions}
use Rattle.cell_listing.specs.KeptListing.{passed, passes_at}
use Rattle.cell_listing.proofs.CellLaws.{asked_first, asked_then, own_asked}
use Rattle.cell_listing.proofs.ValueLaws.{AllAgree, IsKept, values_agree}

-- ---- features with their numbers

-- each is in the list at its number
abbrev pub AreNumbered : List Feature → List (ℕ × Feature) → Type 0
AreNumbered all nfs = AllByRecursion (λ (nf : ℕ × Feature). slice_get all nf.0 ≡ Some nf.1) nfs

next_there : (front : List Feature) (f : Feature) (fs : List Feature) → slice_get (front ++ f ∷ fs) (length front) ≡ Some f
next_there [] f fs = refl
next_there (g ∷ front) f fs = next_there front f fs

numbered_on : (all front fs : List Feature) (n : ℕ) → all ≡ front ++ fs → n ≡ length front → AreNumbered all (numbered n fs)
numbered_on all front [] n split count = tt
numbered_on all front (f ∷ fs) n split count = (
  ap (λ gs. slice_get gs n) split ∙ (ap (slice_get (front ++ f ∷ fs)) count ∙ next_there front f fs),
  numbered_on all (front ++ f ∷ []) fs (n + 1) (split ∙ sym (append_assoc front (f ∷ []) fs))
      (ap (λ m. m + 1) count ∙ sym (length-append front (f ∷ []))),
)

pub are_numbered : (all : List Feature) → AreNumbered all (numbered 0 all)
are_numbered all = numbered_on all [] all 0 refl refl

-- a type without features has none
pub none_typed : (tiles : List SourceTile) (layer : StyleLayer) → has_features layer.type ≡ false → layer_features tiles layer ≡ []
none_typed tiles layer none = ap (λ b. flat_map (tile_features layer) (if b then tiles else [])) none

module _ (scene : Scene) (tiles : List SourceTile) (layer : StyleLayer) (x : LayerExpressions) (kept : KeptValues) where
  -- ---- the filter

  module _ (f : LayerFeature) (at : feature_at scene tiles layer (Some f.number) ≡ Some f) where
    by_own : (e : CellExpression) (o : Option Source) (s : Source) → x items.Filter ≡ Some e → o ≡ Some s → s.mentions ≡ mentions e.term
        → (own : Bool) → reads_feature (mentions e.term) ≡ own
        → ((c : LayerCell) → is_asked (if own then [] else asked_by scene (Some e) None items.Filter) c ≡ true → IsKept scene tiles layer x kept c)
        → ((c : LayerCell) → is_asked (if own then asked_by scene (Some e) (Some f) items.Filter else []) c ≡ true → IsKept scene tiles layer x kept c)
        → answer_by scene (Some e) layer.filter f ≡ passes_at kept (common_answer o layer.filter (kept common_cell)) f.number
    by_own e o s is source same true reads common each =
        let cell : LayerCell = record { feature = Some f.number; item = items.Filter } in
        let here : kept cell ≡ Some (given_by scene e (Some f)) =
        each cell (own_asked scene e (Some f) items.Filter)
        ∙ ap Some (ap (λ a. meaning_by scene a (feature_at scene tiles layer (Some f.number))) is ∙ ap (given_by scene e) at) in
        ap (λ b. passes_by (Some (given_by scene e (if b then Some f else None)))) reads
        ∙ (ap passes_by (sym here)
        ∙ sym (ap (λ a. passes_at kept (common_answer a layer.filter (kept common_cell)) f.number) source
        ∙ ap (λ b. passes_at kept (if b then None else Some (passes_by (kept common_cell))) f.number) (ap reads_feature same ∙ reads)))
    by_own e o s is source same false reads common each =
        let here : kept common_cell ≡ Some (given_by scene e None) =
        common common_cell (own_asked scene e None items.Filter)
        ∙ ap Some (ap (λ a. meaning_by scene a None) is) in
        ap (λ b. passes_by (Some (given_by scene e (if b then Some f else None)))) reads
        ∙ (ap passes_by (sym here)
        ∙ sym (ap (λ a. passes_at kept (common_answer a layer.filter (kept common_cell)) f.number) source
        ∙ ap (λ b. passes_at kept (if b then None else Some (passes_by (kept common_cell))) f.number) (ap reads_feature same ∙ reads)))

    answer_agrees : (slots : List Sized) (e : Option CellExpression) (o : Option Source) → x items.Filter ≡ e → IsSourced slots items.Filter e o
        → ((c : LayerCell) → is_asked (if has_own_cells e then [] else asked_by scene e None items.Filter) c ≡ true → IsKept scene tiles layer x kept c)
        → ((c : LayerCell) → is_asked (if has_own_cells e then asked_by scene e (Some f) items.Filter else []) c ≡ true → IsKept scene tiles layer x kept c)
        → answer_by scene e layer.filter f ≡ passes_at kept (common_answer o layer.filter (kept common_cell)) f.number
    answer_agrees slots None o is sourced common each =
        sym (ap (λ a. passes_at kept (common_answer a layer.filter (kept common_cell)) f.number) sourced)
    answer_agrees slots (Some e) o is sourced common each =
        by_own e o _ is sourced.1 refl (reads_feature (mentions e.term)) refl common each

  -- ---- features that pass

  module _ (slots : List Sized) (o : Option Source) (sourced : IsSourced slots items.Filter (x items.Filter) o)
      (decided : IsDecided scene (x items.Filter) layer) (given : AreGiven x layer.properties) where
    abbrev pub answer : Option Bool
    answer = common_answer o layer.filter (kept common_cell)

    -- a feature passes as what is kept says, and if so what is listed with it is known
    abbrev pub FeatureAgrees : ℕ × Feature → Type 0
    FeatureAgrees nf = (is_shown scene layer (with_state scene layer nf) ≡ passes_at kept answer nf.0)
        × (is_shown scene layer (with_state scene layer nf) ≡ true
        → AllAgree scene kept (Some nf.0) (Some (with_state scene layer nf)) layer.properties)

    module _ (typed : has_features layer.type ≡ true)
        (common : (c : LayerCell) → is_asked (common_asked x scene) c ≡ true → IsKept scene tiles layer x kept c) where
      feature_agrees : (nf : ℕ × Feature) → slice_get (layer_features tiles layer) nf.0 ≡ Some nf.1
          → ((c : LayerCell) → is_asked (numbered_asked x scene layer nf) c ≡ true → IsKept scene tiles layer x kept c) → FeatureAgrees nf
      feature_agrees nf there asks =
          let f = with_state scene layer nf in
          let own = own_filter_asked x scene f in
          let values = passed_asked x scene (is_shown scene layer f) f layer.properties in
          let at : feature_at scene tiles layer (Some nf.0) ≡ Some f =
          ap (option_map (λ (g : Feature). with_state scene layer (nf.0, g))) there in (
            decided typed f ∙ answer_agrees f at slots (x items.Filter) o refl sourced common (λ c is. asks c (asked_first own values c is)),
            λ shown. values_agree scene tiles layer x kept (Some f) at layer.properties given (λ c is. asks c (asked_then own values c
                (ap (λ b. is_asked (passed_asked x scene b f layer.properties) c) shown ∙ is))),
          )

      pub features_agree : (nfs : List (ℕ × Feature)) → AreNumbered (layer_features tiles layer) nfs
          → ((c : LayerCell) → is_asked (each_asked x scene layer nfs) c ≡ true → IsKept scene tiles layer x kept c)
          → AllByRecursion FeatureAgrees nfs
      features_agree [] there asks = tt
      features_agree (nf ∷ nfs) there asks = (
        feature_agrees nf there.0 (λ c is. asks c (asked_first (numbered_asked x scene layer nf) (each_asked x scene layer nfs) c is)),
        features_agree nfs there.1 (λ c is. asks c (asked_then (numbered_asked x scene layer nf) (each_asked x scene layer nfs) c is)),
      )

    -- ---- those that pass

    same_passed : (nf : ℕ × Feature) (shown passes : Bool) (fs : List LayerFeature) (nfs : List (ℕ × Feature)) → shown ≡ passes
        → fs ≡ map (with_state scene layer) nfs
        → (if shown then with_state scene layer nf ∷ fs else fs) ≡ map (with_state scene layer) (if passes then nf ∷ nfs else nfs)
    same_passed nf true true fs nfs same later = ap (λ gs. with_state scene layer nf ∷ gs) later
    same_passed nf true false fs nfs same later = absurd (true≢false same)
    same_passed nf false true fs nfs same later = absurd (true≢false (sym same))
    same_passed nf false false fs nfs same later = later

    pub passed_same : (nfs : List (ℕ × Feature)) → AllByRecursion FeatureAgrees nfs
        → those_shown scene layer nfs ≡ map (with_state scene layer) (passed kept answer nfs)
    passed_same [] agree = refl
    passed_same (nf ∷ nfs) agree =
        same_passed nf (is_shown scene layer (with_state scene layer nf)) (passes_at kept answer nf.0) (those_shown scene layer nfs)
        (passed kept answer nfs) agree.0.0 (passed_same nfs agree.1)

    abbrev pub PassedAgrees : ℕ × Feature → Type 0
    PassedAgrees nf = AllAgree scene kept (Some nf.0) (Some (with_state scene layer nf)) layer.properties

    one_passed : (nf : ℕ × Feature) (nfs : List (ℕ × Feature)) (passes : Bool) → (passes ≡ true → PassedAgrees nf)
        → AllByRecursion PassedAgrees nfs → AllByRecursion PassedAgrees (if passes then nf ∷ nfs else nfs)
    one_passed nf nfs true here later = (here refl, later)
    one_passed nf nfs false here later = later

    pub passed_agree : (nfs : List (ℕ × Feature)) → AllByRecursion FeatureAgrees nfs → AllByRecursion PassedAgrees (passed kept answer nfs)
    passed_agree [] agree = tt
    passed_agree (nf ∷ nfs) agree = one_passed nf (passed kept answer nfs) (passes_at kept answer nf.0)
        (λ passes. agree.0.1 (agree.0.0 ∙ passes)) (passed_agree nfs agree.1)
