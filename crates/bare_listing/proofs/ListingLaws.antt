-- A layer that can be listed without keeping a cell.
use Rattle.std.proofs.Common.{◌≡◌, ◌∙◌, ℕ, ◌+◌, ◌≤◌, List, [], ◌∷◌, ◌++◌, length, Bool, true, false, Result, Ok, Err, refl, sym, ap, subst, arith, if◌then◌else◌}
use Rattle.std.specs.Prelude.{IfOk}
use Rattle.std.specs.Result.{IsErr}
use Rattle.expr_nodes.specs.Evaluators.{Sized}
use Rattle.layer_buckets.specs.Seen.{evaluator_of, source_of}
use Rattle.layer_buckets.specs.declared.buckets.Buckets.{Buckets}
use Rattle.layer_buckets.specs.declared.cell.CellItem.{CellItem}
use Rattle.layer_buckets.specs.declared.cell.CellItem.TheVariants as items
use Rattle.listing_text.specs.Listing.{below_layer, feature_lines, layer_line, layer_lines}
use Rattle.listing_text.specs.declared.show.Show.{Show}
use Rattle.style_layout.specs.Forms.{Scene}
use Rattle.style_layout.specs.Layers.{StyleLayer, show_of}
use Rattle.style_layout.specs.Shown.{LayerFeature, SourceTile, feature_out, is_shown, those_shown, with_state}
use Rattle.style_layout.specs.StyleLayout.{features_shown, layer_out, values_shown}
use Rattle.asked_cells.specs.Asked.{AskedCell, layer_asked, shown_asked}
use Rattle.asked_cells.specs.Expressions.{HasExpressions, LayerExpressions}
use Rattle.bare_listing.specs.BareListing.{EvaluatesCells, IsBareListable}
use Rattle.bare_listing.specs.Costs.{nodes_by, one_of, shown_cost}
use Rattle.bare_listing.specs.Given.{AreGivenBy, Filters}
use Rattle.bare_listing.specs.SeenLayer.{lines_of}
use Rattle.tile_reader.specs.declared.tile.Feature.{Feature}
use Rattle.bare_listing.proofs.CountLaws.{shown_nodes, shown_number}
use Rattle.bare_listing.proofs.GivenLaws.{all_given, filters_given}

module _ {E : Type 0} (slots : E → List Sized) (number : ℕ) (scene : Scene) (layer : StyleLayer) (b : Buckets E)
    (h : IsBareListable slots number scene layer b) where
  pub listable_values : AreGivenBy scene (slots (evaluator_of b)) (λ item. source_of b number item) layer.properties
  listable_values = all_given scene (slots (evaluator_of b)) h.expressions (λ item. source_of b number item) h.sourced
      layer.properties h.given h.reads

  pub listable_filter : Filters scene (slots (evaluator_of b)) (source_of b number items.Filter) layer
  listable_filter = filters_given scene (slots (evaluator_of b)) h.expressions (λ item. source_of b number item) h.sourced
      layer h.decided

module _ {E : Type 0} (slots : E → List Sized) (number : ℕ) (scene : Scene) (layer : StyleLayer) (b : Buckets E) where
  -- What was counted by the sources is what a listing asks by the expressions.
  pub layer_evaluated : {X : Type 0} (x : LayerExpressions) (tiles : List SourceTile) (show : Show) (r : Result ℕ X) (before after : ℕ)
      → HasExpressions slots number x b → show ≡ show_of scene.zoom layer
      → IfOk r (λ n. n ≡ shown_cost one_of (λ item. source_of b number item) scene layer show tiles)
      → IfOk r (λ n. before + n ≤ after)
      → after ≤ before + shown_cost (nodes_by (slots (evaluator_of b))) (λ item. source_of b number item) scene layer show tiles
      → EvaluatesCells (layer_asked x scene tiles layer) r before after
  layer_evaluated x tiles show r before after sourced is counted least most =
      let sources = λ (item : CellItem). source_of b number item in
      subst (λ (s : Show). EvaluatesCells (shown_asked x scene tiles s layer) r before after) is (record {
        number = subst (λ (k : ℕ). IfOk r (λ n. n ≡ k)) (shown_number (slots (evaluator_of b)) scene x sources sourced layer show tiles) counted;
        least = least;
        most = subst (λ (k : ℕ). after ≤ before + k) (shown_nodes (slots (evaluator_of b)) scene x sources sourced layer show tiles) most;
      })

if_failed : {X Y : Type 0} (r : Result X Y) (P : X → Type 0) → IsErr r → IfOk r P
if_failed (Ok x) P failed = absurd (cc)
if_failed (Err y) P failed = tt

-- a call that failed before it evaluated
pub none_evaluated : {X : Type 0} (asked : List AskedCell) (r : Result ℕ X) (before : ℕ) → IsErr r → EvaluatesCells asked r before before
none_evaluated asked r before failed = record {
  number = if_failed r (λ n. n ≡ length asked) failed;
  least = if_failed r (λ n. before + n ≤ before) failed;
  most = omega arith;
}

-- the lines of a layer in two parts
pub layer_text : (scene : Scene) (tiles : List SourceTile) (layer : StyleLayer) (show : Show) → show ≡ show_of scene.zoom layer
    → layer_lines (layer_out scene tiles layer) ≡ layer_line layer.id layer.type show
    ++ below_layer show (values_shown scene tiles show layer) (features_shown scene tiles show layer)
layer_text scene tiles layer show is = ap (λ (s : Show). layer_line layer.id layer.type s
    ++ below_layer s (values_shown scene tiles s layer) (features_shown scene tiles s layer)) (sym is)

-- ---- the lines of features as they come

module _ (scene : Scene) (layer : StyleLayer) where
  abbrev piece : LayerFeature → List ℕ
  piece f = if is_shown scene layer f then feature_lines (feature_out scene layer f) else []

  lines_if : (b : Bool) (f : LayerFeature) (fs : List LayerFeature) → lines_of scene layer (if b then f ∷ fs else fs)
      ≡ (if b then feature_lines (feature_out scene layer f) else []) ++ lines_of scene layer fs
  lines_if true f fs = refl
  lines_if false f fs = refl

  -- the lines of the first feature, where it passes, and those of the others
  pub lines_left : (nf : ℕ × Feature) (left rest : List (ℕ × Feature)) (f : LayerFeature) → left ≡ nf ∷ rest
      → f ≡ with_state scene layer nf
      → lines_of scene layer (those_shown scene layer left) ≡ piece f ++ lines_of scene layer (those_shown scene layer rest)
  lines_left nf left rest f is same =
      let g = with_state scene layer nf in
      let later = those_shown scene layer rest in
      ap (λ nfs. lines_of scene layer (those_shown scene layer nfs)) is
      ∙ (lines_if (is_shown scene layer g) g later ∙ ap (λ x. piece x ++ lines_of scene layer later) (sym same))
