-- Layers that come, go and change.
use Rattle.std.proofs.Common.{◌≡◌, ◌≢◌, ℕ, ◌<◌, List, length, get_or, Bool, true, false, nat_eq, Option, Some, None, not, ◌&&◌, refl, sym, ap, ◌∙◌, subst, if◌then◌else◌}
use Rattle.std.specs.Prelude.{insert, remove, slice_set}
use Rattle.std.proofs.lemmas.List.{get_or-map}
use Rattle.decimal_json.specs.Tree.{Tree}
use Rattle.decimal_json.proofs.Edits.{map_insert, map_remove}
use Rattle.prop_values.specs.Data.{Data}
use Rattle.operator_values.specs.Evaluated.{Evaluated}
use Rattle.expr_nodes.specs.Evaluators.{Sized}
use Rattle.layer_buckets.specs.Cells.{is_item, item_eq}
use Rattle.layer_buckets.specs.Seen.{evaluator_of, features_of, kept_at, source_of}
use Rattle.layer_buckets.specs.declared.buckets.Buckets.{Buckets}
use Rattle.layer_buckets.specs.declared.cell.Cell.{Cell}
use Rattle.layer_buckets.specs.declared.cell.CellItem.{CellItem}
use Rattle.style_layout.specs.Forms.{Scene}
use Rattle.style_layout.specs.Shown.{SourceTile}
use Rattle.asked_cells.specs.Asked.{LayerCell, cell_in}
use Rattle.asked_cells.specs.Counted.{kept_in}
use Rattle.cell_sources.specs.Sourced.{IsLonger, KeepsNoMore, LeavesOthers, SetsItem}
use Rattle.cell_sources.proofs.SourcedLaws.{longer_itself}
use Rattle.kept_layers.proofs.HoldingLaws.{Leaves, held_left, item_held, item_kept, item_right, kept_left, kept_others, nat_itself, nat_same, no_value, nothing_of, right_left}
use Rattle.kept_layers.proofs.Lists.{map_at, pairs_at, pairs_change, pairs_insert, pairs_others, pairs_remove, removed_other}
use Rattle.kept_layers.specs.Holding.{AreApart, AreHeld, AreRightIn, ChangesItem, IsBare, HasLayer, IsOther, IsRight, kept_of, style_kept}
use Rattle.kept_layers.specs.KeptLayers.{kept_without, layer_expressions, none_kept}

none_by : (o p : Option Evaluated) → ((v : Evaluated) → o ≡ Some v → p ≡ Some v) → p ≡ None → o ≡ None
none_by None p f e = refl
none_by (Some v) p f e = absurd (no_value v (sym e ∙ f v refl))

module _ {E : Type 0} (slots : E → List Sized) where
  -- ---- a layer that comes

  module _ (n : ℕ) (count : ℕ) (old mid new : Buckets E)
      (evaluator : evaluator_of mid ≡ evaluator_of old)
      (source : (l : ℕ) (item : CellItem) → source_of mid l item ≡ source_of old l item)
      (kept : (cell : Cell) → kept_at mid cell ≡ kept_at old cell)
      (features : (l : ℕ) → features_of mid l ≡ (if nat_eq l n then Some count else features_of old l))
      (others : LeavesOthers slots n mid new)
      (fewer : KeepsNoMore mid new) where
    flipped : (l : ℕ) → n ≢ l → nat_eq l n ≡ false
    flipped l other = by_test l (nat_eq l n) refl other where
      by_test : (k : ℕ) (t : Bool) → nat_eq k n ≡ t → n ≢ k → t ≡ false
      by_test k true is other = absurd (other (sym (nat_same k n is)))
      by_test k false is other = refl

    pub added_leaves : Leaves slots n old new
    added_leaves = record {
      features = λ l other. others.features l ∙ (features l ∙ ap (λ t. if t then Some count else features_of old l) (flipped l other));
      source = λ l item other. others.source l item other ∙ source l item;
      kept = λ l c other. others.kept (cell_in l c) other ∙ kept (cell_in l c);
      longer = subst (λ ev. IsLonger (slots ev) (slots (evaluator_of new))) evaluator others.expressions;
    }

    pub added_features : features_of new n ≡ Some count
    added_features = others.features n ∙ (features n ∙ ap (λ t. if t then Some count else features_of old n) (nat_itself n))

    pub added_kept : IsBare old n → (c : LayerCell) → kept_in new n c ≡ None
    added_kept bare c = none_by (kept_in new n c) (kept_in mid n c) (λ v is. fewer (cell_in n c) v is) (kept (cell_in n c) ∙ bare.kept c)

  module _ (n : ℕ) (place : ℕ) (old new : Buckets E) (ns : List ℕ) (left : Leaves slots n old new) (other : IsOther n ns) where
    pub more_kept : ((c : LayerCell) → kept_in new n c ≡ None) → style_kept new (insert ns place n) ≡ insert (style_kept old ns) place none_kept
    more_kept none = map_insert (kept_of new) ns place n
        ∙ (λ i. insert (kept_others old new n ns other (kept_left slots n old new left) i) place (nothing_of new n none i))

    pub more_held : (tiles : List SourceTile) (globals : List (List ℕ × Data)) (t : Tree) (ts : List Tree)
        → HasLayer slots tiles globals new n t → AreHeld slots tiles globals old ns ts
        → AreHeld slots tiles globals new (insert ns place n) (insert ts place t)
    more_held tiles globals t ts this held = pairs_insert (HasLayer slots tiles globals new) ns ts place n t this
        (pairs_others (HasLayer slots tiles globals old) (HasLayer slots tiles globals new) n ns ts other
        (λ m u e. held_left slots n old new left tiles globals m u e) held)

    pub more_right : (tiles : List SourceTile) (globals : List (List ℕ × Data)) (scene : Scene) (t : Tree) (ts : List Tree)
        → ((c : LayerCell) → kept_in new n c ≡ None) → AreRightIn slots tiles globals old scene ns ts
        → AreRightIn slots tiles globals new scene (insert ns place n) (insert ts place t)
    more_right tiles globals scene t ts none right = pairs_insert (IsRight slots tiles globals new scene) ns ts place n t
        (λ c value is. absurd (no_value value (sym (none c) ∙ is)))
        (pairs_others (IsRight slots tiles globals old scene) (IsRight slots tiles globals new scene) n ns ts other
        (λ m u e. right_left slots n old new left tiles globals scene m u e) right)

  -- ---- a layer that goes

  module _ (n : ℕ) (old new : Buckets E)
      (evaluator : evaluator_of new ≡ evaluator_of old)
      (source : (l : ℕ) (item : CellItem) → source_of new l item ≡ (if nat_eq n l then None else source_of old l item))
      (features : (l : ℕ) → features_of new l ≡ (if nat_eq l n then None else features_of old l))
      (kept : (cell : Cell) → kept_at new cell ≡ (if nat_eq n cell.layer then None else kept_at old cell)) where
    apart_of : (l : ℕ) → n ≢ l → nat_eq n l ≡ false
    apart_of l other = by_test (nat_eq n l) refl where
      by_test : (t : Bool) → nat_eq n l ≡ t → t ≡ false
      by_test true is = absurd (other (nat_same n l is))
      by_test false is = refl

    apart_from : (l : ℕ) → n ≢ l → nat_eq l n ≡ false
    apart_from l other = by_test (nat_eq l n) refl where
      by_test : (t : Bool) → nat_eq l n ≡ t → t ≡ false
      by_test true is = absurd (other (sym (nat_same l n is)))
      by_test false is = refl

    pub removed_leaves : Leaves slots n old new
    removed_leaves = record {
      features = λ l other. features l ∙ ap (λ t. if t then None else features_of old l) (apart_from l other);
      source = λ l item other. source l item ∙ ap (λ t. if t then None else source_of old l item) (apart_of l other);
      kept = λ l c other. kept (cell_in l c) ∙ ap (λ t. if t then None else kept_in old l c) (apart_of l other);
      longer = subst (λ ev. IsLonger (slots (evaluator_of old)) (slots ev)) (sym evaluator) (longer_itself (slots (evaluator_of old)));
    }

    pub removed_bare : IsBare new n
    removed_bare = record {
      sources = λ item. source n item ∙ ap (λ t. if t then None else source_of old n item) (nat_itself n);
      kept = λ c. kept (cell_in n c) ∙ ap (λ t. if t then None else kept_in old n c) (nat_itself n);
    }

  -- ---- layers of the other numbers

  module _ (n : ℕ) (old new : Buckets E) (others : LeavesOthers slots n old new) where
    pub others_left : Leaves slots n old new
    others_left = record {
      features = λ l other. others.features l;
      source = λ l item other. others.source l item other;
      kept = λ l c other. others.kept (cell_in l c) other;
      longer = others.expressions;
    }

  module _ (n : ℕ) (place d : ℕ) (old new : Buckets E) (ns : List ℕ) (within : place < length ns) (is : n ≡ get_or ns place d)
      (apart : AreApart ns) (left : Leaves slots n old new) where
    pub rest_other : IsOther n (remove ns place)
    rest_other = subst (λ k. IsOther k (remove ns place)) (sym is) (removed_other ns place d within apart)

    pub less_kept : style_kept new (remove ns place) ≡ remove (style_kept old ns) place
    less_kept = kept_others old new n (remove ns place) rest_other (kept_left slots n old new left) ∙ map_remove (kept_of old) ns place

    pub less_held : (tiles : List SourceTile) (globals : List (List ℕ × Data)) (ts : List Tree) → AreHeld slots tiles globals old ns ts
        → AreHeld slots tiles globals new (remove ns place) (remove ts place)
    less_held tiles globals ts held =
        pairs_others (HasLayer slots tiles globals old) (HasLayer slots tiles globals new) n (remove ns place) (remove ts place) rest_other
        (λ m u e. held_left slots n old new left tiles globals m u e)
        (pairs_remove (HasLayer slots tiles globals old) ns ts place held)

    pub less_right : (tiles : List SourceTile) (globals : List (List ℕ × Data)) (scene : Scene) (ts : List Tree)
        → AreRightIn slots tiles globals old scene ns ts → AreRightIn slots tiles globals new scene (remove ns place) (remove ts place)
    less_right tiles globals scene ts right =
        pairs_others (IsRight slots tiles globals old scene) (IsRight slots tiles globals new scene) n (remove ns place) (remove ts place) rest_other
        (λ m u e. right_left slots n old new left tiles globals scene m u e)
        (pairs_remove (IsRight slots tiles globals old scene) ns ts place right)

  -- ---- an item of a layer

  module _ (place d : ℕ) (ns : List ℕ) (within : place < length ns) (apart : AreApart ns) (old new : Buckets E) (item : CellItem)
      (left : Leaves slots (get_or ns place d) old new) (features : features_of new (get_or ns place d) ≡ features_of old (get_or ns place d))
      (longer : IsLonger (slots (evaluator_of old)) (slots (evaluator_of new)))
      (kept : (cell : Cell) → kept_at new cell ≡ (if is_item (get_or ns place d) item cell.layer cell.item then None else kept_at old cell)) where
    pub edited_kept : style_kept new ns ≡ kept_without place item (style_kept old ns)
    edited_kept =
        map_at (kept_of old) (kept_of new) ns place d within apart (kept_left slots (get_or ns place d) old new left)
        ∙ ap (slice_set (style_kept old ns) place) (item_kept (get_or ns place d) item old new kept
        ∙ ap (λ k c. k c && not (item_eq item c.item)) (sym (get_or-map (kept_of old) ns place d none_kept within)))

    pub edited_held : (tiles : List SourceTile) (globals : List (List ℕ × Data)) (before u : Tree) (ts : List Tree)
        → ChangesItem globals item (get_or ts place before) u → SetsItem slots (get_or ns place d) item (layer_expressions globals u item) old new
        → AreHeld slots tiles globals old ns ts → AreHeld slots tiles globals new ns (slice_set ts place u)
    edited_held tiles globals before u ts changes sets held =
        pairs_change (HasLayer slots tiles globals old) (HasLayer slots tiles globals new) ns ts place d u within apart
        (λ m t e. held_left slots (get_or ns place d) old new left tiles globals m t e)
        (item_held globals item (get_or ts place before) u changes tiles slots (get_or ns place d) old new sets features longer kept
        (pairs_at (HasLayer slots tiles globals old) ns ts place d before within held)) held

    pub edited_right : (tiles : List SourceTile) (globals : List (List ℕ × Data)) (scene : Scene) (before u : Tree) (ts : List Tree)
        → ChangesItem globals item (get_or ts place before) u → SetsItem slots (get_or ns place d) item (layer_expressions globals u item) old new
        → AreRightIn slots tiles globals old scene ns ts → AreRightIn slots tiles globals new scene ns (slice_set ts place u)
    edited_right tiles globals scene before u ts changes sets right =
        pairs_change (IsRight slots tiles globals old scene) (IsRight slots tiles globals new scene) ns ts place d u within apart
        (λ m t e. right_left slots (get_or ns place d) old new left tiles globals scene m t e)
        (item_right globals item (get_or ts place before) u changes tiles slots (get_or ns place d) old new sets features longer kept scene
        (pairs_at (IsRight slots tiles globals old scene) ns ts place d before within right)) right
