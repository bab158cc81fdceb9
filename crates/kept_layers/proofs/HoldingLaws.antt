-- What a layer's kept cells are where something of another layer, or of one of its own items, changes.
use Rattle.std.proofs.Common.{◌≡◌, ◌≢◌, ℕ, zero, suc, ◌<◌, List, [], ◌∷◌, length, get_or, Bool, true, false, ◌&&◌, nat_eq, Option, Some, None, is_some, not, refl, sym, ap, ◌∙◌, subst, arith, if◌then◌else◌}
use Rattle.std.proofs.lemmas.Bool.{false≢true}
use Rattle.std.proofs.lemmas.Bool.Decides.{nat_tests}
use Rattle.std.specs.Prelude.{insert, remove}
use Rattle.decimal_json.specs.Tree.{Tree}
use Rattle.prop_values.specs.Data.{Data}
use Rattle.operator_values.specs.Evaluated.{Evaluated}
use Rattle.expr_nodes.specs.Evaluators.{Sized}
use Rattle.layer_buckets.specs.Cells.{is_item, item_eq}
use Rattle.layer_buckets.specs.Seen.{evaluator_of, features_of, kept_at, source_of}
use Rattle.layer_buckets.specs.declared.buckets.Buckets.{Buckets}
use Rattle.layer_buckets.specs.declared.cell.Cell.{Cell}
use Rattle.layer_buckets.specs.declared.cell.CellItem.{CellItem}
use Rattle.layer_buckets.proofs.ItemLaws.{item_self, item_true}
use Rattle.layer_buckets.proofs.Places.{by_bool}
use Rattle.style_layout.specs.Forms.{Scene}
use Rattle.style_layout.specs.Shown.{SourceTile, layer_features}
use Rattle.asked_cells.specs.Asked.{LayerCell, cell_in, feature_at, meaning, meaning_by}
use Rattle.asked_cells.specs.Counted.{kept_in}
use Rattle.asked_cells.specs.Expressions.{IsSourced}
use Rattle.cell_sources.specs.Sourced.{IsLonger, SetsItem}
use Rattle.cell_sources.proofs.SourcedLaws.{sourced_longer}
use Rattle.kept_layers.specs.Holding.{AbsentAreBare, AreThere, ChangesItem, IsBare, HasLayer, IsOther, IsRight, kept_of, style_kept}
use Rattle.kept_layers.proofs.Lists.{map_others}
use Rattle.kept_layers.specs.KeptLayers.{layer_expressions, none_kept, prepared_layer}

pub nat_same : (a b : ℕ) → nat_eq a b ≡ true → a ≡ b
nat_same a b t = grind (arith, nat_tests)

pub nat_itself : (a : ℕ) → nat_eq a a ≡ true
nat_itself a = grind (arith, nat_tests)

pub nat_apart : (a b : ℕ) → nat_eq a b ≡ false → a ≢ b
nat_apart a b f e = false≢true (sym f ∙ (ap (nat_eq a) (sym e) ∙ nat_itself a))

pub item_apart : (i j : CellItem) → item_eq i j ≡ false → i ≢ j
item_apart i j f e = false≢true (sym f ∙ (ap (item_eq i) (sym e) ∙ item_self i))

pub none_is_not : (o : Option ℕ) → o ≡ None → is_some o ≡ true → ⊥
none_is_not None e t = cc
none_is_not (Some n) e t = cc

module _ {E : Type 0} where
  -- a number that no layer has is none of those that layers have
  pub absent_other : (b : Buckets E) (n : ℕ) (ns : List ℕ) → features_of b n ≡ None → AreThere b ns → IsOther n ns
  absent_other b n [] none there = tt
  absent_other b n (m ∷ ns) none there = (
    λ e. none_is_not (features_of b n) none (ap (λ k. is_some (features_of b k)) e ∙ there.0),
    absent_other b n ns none there.1,
  )

  pub there_all : (old new : Buckets E) → ((l : ℕ) → features_of new l ≡ features_of old l) → (ns : List ℕ) → AreThere old ns → AreThere new ns
  there_all old new same [] there = tt
  there_all old new same (n ∷ ns) there = (ap is_some (same n) ∙ there.0, there_all old new same ns there.1)

  -- all layers but that of one number are as they were, and the evaluator has its expressions and perhaps more
  pub record Leaves (slots : E → List Sized) (n : ℕ) (old new : Buckets E) : Type 0 where
    pub features : (l : ℕ) → n ≢ l → features_of new l ≡ features_of old l
    pub source : (l : ℕ) (item : CellItem) → n ≢ l → source_of new l item ≡ source_of old l item
    pub kept : (l : ℕ) (c : LayerCell) → n ≢ l → kept_in new l c ≡ kept_in old l c
    pub longer : IsLonger (slots (evaluator_of old)) (slots (evaluator_of new))

  module _ (slots : E → List Sized) (n : ℕ) (old new : Buckets E) (left : Leaves slots n old new) where
    pub kept_left : (m : ℕ) → n ≢ m → kept_of new m ≡ kept_of old m
    kept_left m other = λ i c. is_some (left.kept m c other i)

    pub there_left : (ns : List ℕ) → IsOther n ns → AreThere old ns → AreThere new ns
    there_left [] other there = tt
    there_left (m ∷ ns) other there =
        (ap is_some (left.features m other.0) ∙ there.0, there_left ns other.1 there.1)

    pub held_left : (tiles : List SourceTile) (globals : List (List ℕ × Data)) (m : ℕ) (t : Tree) → n ≢ m
        → HasLayer slots tiles globals old m t → HasLayer slots tiles globals new m t
    held_left tiles globals m t other held = record {
      sources = λ item. subst (IsSourced (slots (evaluator_of new)) item (layer_expressions globals t item)) (sym (left.source m item other))
          (sourced_longer (slots (evaluator_of old)) (slots (evaluator_of new)) item (layer_expressions globals t item) (source_of old m item)
          left.longer (held.sources item));
      features = left.features m other ∙ held.features;
    }

    pub right_left : (tiles : List SourceTile) (globals : List (List ℕ × Data)) (scene : Scene) (m : ℕ) (t : Tree) → n ≢ m
        → IsRight slots tiles globals old scene m t → IsRight slots tiles globals new scene m t
    right_left tiles globals scene m t other right c value is = right c value (sym (left.kept m c other) ∙ is)

    -- the layers that are not there are bare, where that of this number is or is there
    pub bare_left : AbsentAreBare old → (features_of new n ≡ None → IsBare new n) → AbsentAreBare new
    bare_left bare this l none = by_bool (nat_eq n l)
        (λ same. let e = nat_same n l same in subst (IsBare new) e (this (ap (features_of new) e ∙ none)))
        (λ apart. let other = nat_apart n l apart in
        let was = bare l (sym (left.features l other) ∙ none) in
        record { sources = λ item. left.source l item other ∙ was.sources item; kept = λ c. left.kept l c other ∙ was.kept c })

-- ---- one item of a layer

pub dropped : (test : Bool) (o : Option Evaluated) → is_some (if test then None else o) ≡ (is_some o && not test)
dropped true None = refl
dropped true (Some v) = refl
dropped false None = refl
dropped false (Some v) = refl

pub no_value : {A : Type 0} (x : A) → None ≡ Some x → ⊥
no_value x e = cc

module _ {E : Type 0} (n : ℕ) (item : CellItem) (a b : Buckets E)
    (kept : (cell : Cell) → kept_at b cell ≡ (if is_item n item cell.layer cell.item then None else kept_at a cell)) where
  in_layer : (c : LayerCell) → kept_in b n c ≡ (if item_eq item c.item then None else kept_in a n c)
  in_layer c = kept (cell_in n c) ∙ ap (λ t. if t && item_eq item c.item then None else kept_in a n c) (nat_itself n)

  pub item_kept : kept_of b n ≡ (λ c. kept_of a n c && not (item_eq item c.item))
  item_kept = λ i c. kept_by c (item_eq item c.item) refl i where
    kept_by : (c : LayerCell) (test : Bool) → item_eq item c.item ≡ test → kept_of b n c ≡ (kept_of a n c && not test)
    kept_by c test same = ap is_some (in_layer c ∙ ap (λ t. if t then None else kept_in a n c) same) ∙ dropped test (kept_in a n c)

module _ (globals : List (List ℕ × Data)) (item : CellItem) (old new : Tree) (changes : ChangesItem globals item old new)
    (tiles : List SourceTile) where
  same_features : layer_features tiles (prepared_layer globals new) ≡ layer_features tiles (prepared_layer globals old)
  same_features = λ i. layer_features tiles (record (prepared_layer globals old) {
    type = changes.type i;
    source = changes.source i;
    source_layer = changes.source_layer i;
  })

  same_feature_at : (scene : Scene) (f : Option ℕ) → feature_at scene tiles (prepared_layer globals new) f ≡ feature_at scene tiles (prepared_layer globals old) f
  same_feature_at scene f = λ i. feature_at scene tiles (record (prepared_layer globals old) {
    type = changes.type i;
    source = changes.source i;
    source_layer = changes.source_layer i;
  }) f

  module _ {E : Type 0} (slots : E → List Sized) (n : ℕ) (a b : Buckets E)
      (sets : SetsItem slots n item (layer_expressions globals new item) a b)
      (features : features_of b n ≡ features_of a n)
      (longer : IsLonger (slots (evaluator_of a)) (slots (evaluator_of b)))
      (kept : (cell : Cell) → kept_at b cell ≡ (if is_item n item cell.layer cell.item then None else kept_at a cell)) where
    sourced_by : (other : CellItem) → IsSourced (slots (evaluator_of a)) other (layer_expressions globals old other) (source_of a n other)
        → (test : Bool) → item_eq item other ≡ test
        → IsSourced (slots (evaluator_of b)) other (layer_expressions globals new other) (source_of b n other)
    sourced_by other was true same =
        subst (λ i. IsSourced (slots (evaluator_of b)) i (layer_expressions globals new i) (source_of b n i)) (item_true item other same) sets.own
    sourced_by other was false apart =
        let other_item = item_apart item other apart in
        subst (λ e. IsSourced (slots (evaluator_of b)) other e (source_of b n other)) (sym (changes.others other other_item))
        (subst (IsSourced (slots (evaluator_of b)) other (layer_expressions globals old other)) (sym (sets.others other other_item))
        (sourced_longer (slots (evaluator_of a)) (slots (evaluator_of b)) other (layer_expressions globals old other) (source_of a n other) longer was))

    pub item_held : HasLayer slots tiles globals a n old → HasLayer slots tiles globals b n new
    item_held held = record {
      sources = λ other. sourced_by other (held.sources other) (item_eq item other) refl;
      features = features ∙ (held.features ∙ ap (λ fs. Some (length fs)) (sym same_features));
    }

    right_by : (scene : Scene) (c : LayerCell) (value : Evaluated) (test : Bool) → item_eq item c.item ≡ test
        → (if test then None else kept_in a n c) ≡ Some value
        → (kept_in a n c ≡ Some value → value ≡ meaning scene tiles (prepared_layer globals old) (layer_expressions globals old) c)
        → value ≡ meaning scene tiles (prepared_layer globals new) (layer_expressions globals new) c
    right_by scene c value true same is was = absurd (no_value value is)
    right_by scene c value false apart is was =
        was is ∙ sym (λ i. meaning_by scene (changes.others c.item (item_apart item c.item apart) i) (same_feature_at scene c.feature i))

    pub item_right : (scene : Scene) → IsRight slots tiles globals a scene n old → IsRight slots tiles globals b scene n new
    item_right scene right c value is =
        right_by scene c value (item_eq item c.item) refl (sym (in_layer n item a b kept c) ∙ is) (right c value)

-- ---- the layers of numbers that come, go or move

module _ {E : Type 0} (b : Buckets E) where
  pub there_insert : (n : ℕ) (ns : List ℕ) (i : ℕ) → is_some (features_of b n) ≡ true → AreThere b ns → AreThere b (insert ns i n)
  there_insert n [] zero h there = (h, tt)
  there_insert n [] (suc i) h there = (h, tt)
  there_insert n (k ∷ ns) zero h there = (h, there)
  there_insert n (k ∷ ns) (suc i) h there = (there.0, there_insert n ns i h there.1)

  pub there_remove : (ns : List ℕ) (i : ℕ) → AreThere b ns → AreThere b (remove ns i)
  there_remove [] zero there = tt
  there_remove [] (suc i) there = tt
  there_remove (k ∷ ns) zero there = there.1
  there_remove (k ∷ ns) (suc i) there = (there.0, there_remove ns i there.1)

  pub there_at : (ns : List ℕ) (i d : ℕ) → i < length ns → AreThere b ns → is_some (features_of b (get_or ns i d)) ≡ true
  there_at [] i d within there = absurd (omega (arith, within))
  there_at (k ∷ ns) zero d within there = there.0
  there_at (k ∷ ns) (suc i) d within there = there_at ns i d (omega (arith, within)) there.1

  -- all are other than a number, so the same is kept
  pub kept_others : (new : Buckets E) (n : ℕ) (ns : List ℕ) → IsOther n ns → ((m : ℕ) → n ≢ m → kept_of new m ≡ kept_of b m)
      → style_kept new ns ≡ style_kept b ns
  kept_others new n ns other h = map_others (kept_of b) (kept_of new) n ns other h

  pub nothing_of : (n : ℕ) → ((c : LayerCell) → kept_in b n c ≡ None) → kept_of b n ≡ none_kept
  nothing_of n none = λ i c. is_some (none c i)
