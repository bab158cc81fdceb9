-- Cells that are dropped of all layers by one cause.
use Rattle.std.proofs.Common.{◌≡◌, ℕ, ℤ, List, [], ◌∷◌, Bool, true, false, ◌&&◌, ◌||◌, Option, Some, None, is_some, not, refl, sym, ap, ◌∙◌, subst, if◌then◌else◌}
use Rattle.std.specs.Ordering.{int_eq}
use Rattle.std.proofs.lemmas.Bool.Decides.{Decides-int_eq}
use Rattle.decimal_json.specs.Tree.{Tree}
use Rattle.fixed_num.specs.Number.{floor_of}
use Rattle.prop_values.specs.Data.{Data}
use Rattle.expr_syntax.specs.Mentioned.{mentions}
use Rattle.operator_values.specs.Evaluated.{Evaluated}
use Rattle.expr_nodes.specs.Evaluators.{Sized}
use Rattle.layer_buckets.specs.Cells.{is_zoomed}
use Rattle.layer_buckets.specs.Cells as cells
use Rattle.layer_buckets.specs.Seen.{evaluator_of, source_of}
use Rattle.layer_buckets.specs.declared.buckets.Buckets.{Buckets}
use Rattle.layer_buckets.specs.declared.cell.CellItem.{CellItem}
use Rattle.layer_buckets.specs.declared.cell.Source.{Source}
use Rattle.style_layout.specs.Forms.{Scene}
use Rattle.style_layout.specs.Shown.{SourceTile}
use Rattle.asked_cells.specs.Asked.{LayerCell, meaning}
use Rattle.asked_cells.specs.Counted.{kept_in}
use Rattle.asked_cells.specs.Expressions.{CellExpression, IsSourced}
use Rattle.kept_layers.proofs.HoldingLaws.{dropped, no_value}
use Rattle.kept_layers.proofs.Lists.{pairs_same}
use Rattle.kept_layers.specs.Holding.{AbsentAreBare, AreHeld, AreRightIn, AreThere, HasLayer, Pairwise, Still, kept_of, style_kept}
use Rattle.kept_layers.specs.KeptLayers.{is_stale_at, kept_of_each, layer_expressions, prepared_layer, reads_images, reads_state, seen_zoom}

module _ {E : Type 0} (old new : Buckets E) where
  module _ (still : Still old new) where
    pub there_still : (ns : List ℕ) → AreThere old ns → AreThere new ns
    there_still [] there = tt
    there_still (n ∷ ns) there = (ap is_some (still.features n) ∙ there.0, there_still ns there.1)

    -- nothing comes
    pub bare_still : ((l : ℕ) (c : LayerCell) → kept_in old l c ≡ None → kept_in new l c ≡ None) → AbsentAreBare old → AbsentAreBare new
    bare_still fewer bare l none =
        let was = bare l (sym (still.features l) ∙ none) in
        record { sources = λ item. still.source l item ∙ was.sources item; kept = λ c. fewer l c (was.kept c) }

pub none_or : (b : Bool) (o : Option Evaluated) → o ≡ None → (if b then None else o) ≡ None
none_or true o e = refl
none_or false o e = e

module _ {E : Type 0} (slots : E → List Sized) (tiles : List SourceTile) (globals : List (List ℕ × Data)) (old new : Buckets E) where
  module _ (still : Still old new) where
    pub held_still : (n : ℕ) (t : Tree) → HasLayer slots tiles globals old n t → HasLayer slots tiles globals new n t
    held_still n t held = record {
      sources = λ item. subst (IsSourced (slots (evaluator_of new)) item (layer_expressions globals t item)) (sym (still.source n item))
          (subst (λ ev. IsSourced (slots ev) item (layer_expressions globals t item) (source_of old n item)) (sym still.evaluator) (held.sources item));
      features = still.features n ∙ held.features;
    }

    pub all_still : (ns : List ℕ) (ts : List Tree) → AreHeld slots tiles globals old ns ts → AreHeld slots tiles globals new ns ts
    all_still ns ts held = pairs_same (HasLayer slots tiles globals old) (HasLayer slots tiles globals new) held_still ns ts held

  -- ---- stale cells

  abbrev pub AreDropped : (Tree → LayerCell → Bool) → ℕ → Tree → Type 0
  AreDropped stale n t = (c : LayerCell) → kept_in new n c ≡ (if stale t c then None else kept_in old n c)

  -- so it is with each layer
  pub all_dropped : (stale : Tree → LayerCell → Bool) → ((n : ℕ) (t : Tree) → HasLayer slots tiles globals old n t → AreDropped stale n t)
      → (ns : List ℕ) (ts : List Tree) → AreHeld slots tiles globals old ns ts → Pairwise (AreDropped stale) ns ts
  all_dropped stale each ns ts held = pairs_same (HasLayer slots tiles globals old) (AreDropped stale) each ns ts held

  module _ (stale : Tree → LayerCell → Bool) where
    one_kept : (n : ℕ) (t : Tree) → AreDropped stale n t → kept_of new n ≡ (λ c. kept_of old n c && not (stale t c))
    one_kept n t drops = λ i c. (ap is_some (drops c) ∙ dropped (stale t c) (kept_in old n c)) i

    pub all_kept : (ns : List ℕ) (ts : List Tree) → Pairwise (AreDropped stale) ns ts
        → style_kept new ns ≡ kept_of_each stale ts (style_kept old ns)
    all_kept [] [] drops = refl
    all_kept (n ∷ ns) (t ∷ ts) drops = λ i. one_kept n t drops.0 i ∷ all_kept ns ts drops.1 i
    all_kept [] (t ∷ ts) drops = absurd drops
    all_kept (n ∷ ns) [] drops = absurd drops

    value_by : (n : ℕ) (c : LayerCell) (value : Evaluated) (t : Tree) (before after : Scene) (b : Bool) → stale t c ≡ b
        → (if b then None else kept_in old n c) ≡ Some value
        → (stale t c ≡ false → meaning before tiles (prepared_layer globals t) (layer_expressions globals t) c
        ≡ meaning after tiles (prepared_layer globals t) (layer_expressions globals t) c)
        → (kept_in old n c ≡ Some value → value ≡ meaning before tiles (prepared_layer globals t) (layer_expressions globals t) c)
        → value ≡ meaning after tiles (prepared_layer globals t) (layer_expressions globals t) c
    value_by n c value t before after true is kept means right = absurd (no_value value kept)
    value_by n c value t before after false is kept means right = right kept ∙ means is

    pub all_right : (before after : Scene) → ((t : Tree) (c : LayerCell) → stale t c ≡ false
        → meaning before tiles (prepared_layer globals t) (layer_expressions globals t) c
        ≡ meaning after tiles (prepared_layer globals t) (layer_expressions globals t) c)
        → (ns : List ℕ) (ts : List Tree) → Pairwise (AreDropped stale) ns ts
        → AreRightIn slots tiles globals old before ns ts → AreRightIn slots tiles globals new after ns ts
    all_right before after means [] [] drops right = tt
    all_right before after means (n ∷ ns) (t ∷ ts) drops right = (
      λ c value is. value_by n c value t before after (stale t c) refl (sym (drops.0 c) ∙ is) (means t c) (right.0 c value),
      all_right before after means ns ts drops.1 right.1,
    )
    all_right before after means [] (t ∷ ts) drops right = absurd drops
    all_right before after means (n ∷ ns) [] drops right = absurd drops

-- ---- causes, by the source of an item and by its expression

zoomed_by : (paint : Bool) (old new : ℤ) → int_eq old new ≡ false
    → (paint || not (int_eq (floor_of old) (floor_of new))) ≡ not (int_eq (if paint then old else floor_of old) (if paint then new else floor_of new))
zoomed_by true old new apart = sym (ap not apart)
zoomed_by false old new apart = refl

pub zoom_stale : (slots : List Sized) (item : CellItem) (e : Option CellExpression) (source : Option Source) (old new : ℤ)
    → int_eq old new ≡ false → IsSourced slots item e source
    → is_zoomed (not (int_eq (floor_of old) (floor_of new))) source ≡ is_stale_at old new e
zoom_stale slots item None source old new apart is = ap (is_zoomed (not (int_eq (floor_of old) (floor_of new)))) is
zoom_stale slots item (Some e) source old new apart (slot, is, at) =
    ap (is_zoomed (not (int_eq (floor_of old) (floor_of new)))) is ∙ ap (λ b. (mentions e.term).zoom && b) (zoomed_by e.paint old new apart)

pub is_not : (b t : Bool) → t ≡ not b → b ≡ not t
is_not true true e = cc
is_not true false e = refl
is_not false true e = refl
is_not false false e = cc

-- a zoom that is no other drops nothing
pub same_zoom : (old new : ℤ) (e : Option CellExpression) → int_eq old new ≡ true → is_stale_at old new e ≡ false
same_zoom old new None same = refl
same_zoom old new (Some e) same =
    let is = (Decides-int_eq old new).0 same in
    ap (λ z. is_stale_at old z (Some e)) (sym is)
    ∙ (ap (λ t. (mentions e.term).zoom && not t) ((Decides-int_eq (seen_zoom old e) (seen_zoom old e)).1 refl) ∙ nothing_dropped (mentions e.term).zoom) where
      nothing_dropped : (b : Bool) → (b && not true) ≡ false
      nothing_dropped true = refl
      nothing_dropped false = refl

pub images_stale : (slots : List Sized) (item : CellItem) (e : Option CellExpression) (source : Option Source) → IsSourced slots item e source
    → cells.reads_images source ≡ reads_images e
images_stale slots item None source is = ap cells.reads_images is
images_stale slots item (Some e) source (slot, is, at) = ap cells.reads_images is

pub states_stale : (slots : List Sized) (item : CellItem) (e : Option CellExpression) (source : Option Source) → IsSourced slots item e source
    → cells.reads_state source ≡ reads_state e
states_stale slots item None source is = ap cells.reads_state is
states_stale slots item (Some e) source (slot, is, at) = ap cells.reads_state is
