-- What is kept of the layers after an edit, by what was done to what was kept.
use Rattle.std.proofs.Common.{◌≡◌, ◌<◌, ℕ, List, length, get_or, refl, ap, sym, ◌∙◌, subst, arith}
use Rattle.std.specs.Prelude.{insert, remove, slice_set, Option, Some, None, IfSome, unwrap_or}
use Rattle.std.proofs.lemmas.List.{get_or-set_same, length-map}
use Rattle.std.proofs.lemmas.List.Edits.{get_or-insert_at}
use Rattle.decimal_json.specs.Tree.{Tree, null}
use Rattle.decimal_json.specs.View.{tree_of}
use Rattle.prop_values.specs.Data.{Data}
use Rattle.expr_nodes.specs.Evaluators.{Sized}
use Rattle.form_pool.specs.declared.form_pool.FormPool.{FormPool}
use Rattle.layer_buckets.specs.declared.cell.CellItem.{CellItem}
use Rattle.style_edits.specs.ByPlace.{changed_at, inserted_at, moved_at, place_moved_to, removed_at}
use Rattle.style_layout.specs.Shown.{SourceTile}
use Rattle.kept_layers.specs.Changes.{ChangesLayer}
use Rattle.kept_layers.specs.Holding.{ChangesItem, HasLayer, IsRight}
use Rattle.kept_layers.specs.KeptLayers.{kept_without, none_kept}
use Rattle.kept_layers.specs.View.{AreNumbered, HoldsLayers, IsRightIn, globals_in, kept_seen, tiles_in, trees_in}
use Rattle.kept_layers.specs.declared.kept_layers.KeptLayers.{KeptLayers}
use Rattle.kept_layers.specs.declared.style_layers.OneLayer.{OneLayer}
use Rattle.kept_layers.specs.declared.style_layers.StyleLayers.{StyleLayers}
use Rattle.kept_layers.proofs.Lists.{pairs_at, pairs_change, pairs_lengths}
use Rattle.kept_layers.specs.EditedKept.{moved_from, removed_kept, without_cells, without_item}
use Rattle.kept_layers.specs.Following.{AddsBefore, ChangesAt, ChangesItemAt, HasFollowed, IsLayerAt, MovesAt, RemovesAt}
use Rattle.kept_layers.proofs.ItemLaws.{ChangesNoItem, still_held, still_right}
use Rattle.kept_layers.proofs.PlaceLaws.{moved_place, place_before, place_within}
use Rattle.kept_layers.proofs.EditedItems.{ChangesIf}

subst_all : {A B C : Type 0} (P : A → B → C → Type 0) {a x : A} {b y : B} {c z : C} → a ≡ x → b ≡ y → c ≡ z → P a b c → P x y z
subst_all P {a} {x} {b} {y} {c} {z} p q r h = subst (λ k. P k y z) p (subst (λ k. P a k z) q (subst (P a b) r h))

module _ (slots : FormPool → List Sized) (tiles : List SourceTile) (globals : List (List ℕ × Data)) (before : List Tree) (old : KeptLayers) where
  -- as many layers as there were
  pub kept_count : HoldsLayers slots tiles globals before old → length (kept_seen old) ≡ length before
  kept_count held = length-map old.numbers.items _ ∙ pairs_lengths (HasLayer slots tiles globals old.cells.buckets) old.numbers.items before held

module _ (slots : FormPool → List Sized) (style : StyleLayers) (before : List Tree) (old new : KeptLayers) (numbered : AreNumbered old)
    (held : HoldsLayers slots (tiles_in style) (globals_in style) before old) where
  abbrev tiles : List SourceTile
  tiles = tiles_in style

  abbrev globals : List (List ℕ × Data)
  globals = globals_in style

  counted : length (kept_seen old) ≡ length before
  counted = kept_count slots tiles globals before old held

  -- ---- nothing is done

  pub same : trees_in style ≡ before → new ≡ old → HasFollowed slots style before (kept_seen old) old new
  same trees e = subst (HasFollowed slots style before (kept_seen old) old) (sym e) (record {
    numbered = numbered;
    kept = refl;
    holds = subst (λ ts. HoldsLayers slots tiles globals ts old) (sym trees) held;
    right = λ scene right. subst (λ ts. IsRightIn slots tiles globals scene ts old) (sym trees) right;
  })

  -- ---- a layer is another

  module _ (place : ℕ) (u : Tree) (trees : trees_in style ≡ slice_set before place u) (within : place < length before) where
    in_numbers : place < length old.numbers.items
    in_numbers = omega (arith, within, pairs_lengths (HasLayer slots tiles globals old.cells.buckets) old.numbers.items before held)

    no_item : ChangesNoItem globals (get_or before place null) u → new ≡ old → HasFollowed slots style before (kept_seen old) old new
    no_item still e = subst (HasFollowed slots style before (kept_seen old) old) (sym e) (record {
      numbered = numbered;
      kept = refl;
      holds = subst (λ ts. HoldsLayers slots tiles globals ts old) (sym trees)
          (pairs_change (HasLayer slots tiles globals old.cells.buckets) (HasLayer slots tiles globals old.cells.buckets) old.numbers.items before place 0 u
          in_numbers numbered.apart (λ m t other h. h)
          (still_held globals (get_or before place null) u still tiles slots old.cells.buckets (get_or old.numbers.items place 0)
          (pairs_at (HasLayer slots tiles globals old.cells.buckets) old.numbers.items before place 0 null in_numbers held)) held);
      right = λ scene right. subst (λ ts. IsRightIn slots tiles globals scene ts old) (sym trees)
          (pairs_change (IsRight slots tiles globals old.cells.buckets scene) (IsRight slots tiles globals old.cells.buckets scene) old.numbers.items before place 0 u
          in_numbers numbered.apart (λ m t other h. h)
          (still_right globals (get_or before place null) u still tiles slots old.cells.buckets (get_or old.numbers.items place 0) scene
          (pairs_at (IsRight slots tiles globals old.cells.buckets scene) old.numbers.items before place 0 null in_numbers right)) right);
    })

    layer_there : get_or (trees_in style) place null ≡ u
    layer_there = ap (λ ts. get_or ts place null) trees ∙ get_or-set_same before place u null within

    an_item : (item : CellItem) → ChangesItem globals item (get_or before place null) u
        → (one : OneLayer) → IsLayerAt style place one → ChangesLayer slots place item one old new
        → HasFollowed slots style before (kept_without place item (kept_seen old)) old new
    an_item item changes one at c =
        let e : tree_of one.layer.now ≡ u = at.layer ∙ layer_there in
        record {
          numbered = c.numbered;
          kept = c.kept;
          holds = subst (λ ts. HoldsLayers slots tiles globals ts new) (sym trees)
              (subst_all (λ s g t. ChangesItem g item (get_or before place null) t → HoldsLayers slots s g before old → HoldsLayers slots s g (slice_set before place t) new)
              at.tiles at.globals e (c.holds before null) changes held);
          right = λ scene right. subst (λ ts. IsRightIn slots tiles globals scene ts new) (sym trees)
              (subst_all (λ s g t. ChangesItem g item (get_or before place null) t → HoldsLayers slots s g before old
              → IsRightIn slots s g scene before old → IsRightIn slots s g scene (slice_set before place t) new)
              at.tiles at.globals e (c.right scene before null) changes held right);
        }

    one_item : (item : Option CellItem) → ChangesIf globals item (get_or before place null) u → ChangesItemAt slots style place item old new
        → HasFollowed slots style before (without_cells place item (kept_seen old)) old new
    one_item (Some item) changes c = an_item item changes c.0 c.1 c.2
    one_item None still e = no_item still e

  pub changed : (o : Option ℕ) (item : Tree → Option CellItem) (f : Tree → Tree) → ((t : Tree) → ChangesIf globals (item t) t (f t))
      → ((t : Tree) → item (f t) ≡ item t) → IfSome o (λ i. i < length before) → trees_in style ≡ changed_at o f before
      → ChangesAt slots style o item old new → HasFollowed slots style before (without_item o item before (kept_seen old)) old new
  changed None item f law alike within trees e = same trees e
  changed (Some place) item f law alike within trees c =
      let t = get_or before place null in
      one_item place (f t) trees within (item t) (law t)
      (subst (λ x. ChangesItemAt slots style place x old new) (ap item (layer_there place (f t) trees within) ∙ alike t) c)

  -- ---- layers come, go and move

  pub added : (o : Option ℕ) (layer : Tree) → IfSome o (λ i. i < length before) → trees_in style ≡ inserted_at o layer before
      → AddsBefore slots style o old new
      → HasFollowed slots style before (insert (kept_seen old) (unwrap_or o (length (kept_seen old))) none_kept) old new
  added o layer within trees (one, at, a) =
      let place = unwrap_or o (length (kept_seen old)) in
      let listed : trees_in style ≡ insert before place layer = trees ∙ place_before o layer before (length (kept_seen old)) counted in
      let e : tree_of one.layer.now ≡ layer = at.layer ∙ (ap (λ ts. get_or ts place null) listed
      ∙ get_or-insert_at before place layer null (place_within o (length before) (length (kept_seen old)) counted within)) in
      record {
        numbered = a.numbered;
        kept = a.kept;
        holds = subst (λ ts. HoldsLayers slots tiles globals ts new) (sym listed)
            (subst_all (λ s g t. HoldsLayers slots s g before old → HoldsLayers slots s g (insert before place t) new)
            at.tiles at.globals e (a.holds before) held);
        right = λ scene right. subst (λ ts. IsRightIn slots tiles globals scene ts new) (sym listed)
            (subst_all (λ s g t. HoldsLayers slots s g before old → IsRightIn slots s g scene before old → IsRightIn slots s g scene (insert before place t) new)
            at.tiles at.globals e (a.right scene before) held right);
      }

  pub removed : (o : Option ℕ) → trees_in style ≡ removed_at o before → RemovesAt slots o old new
      → HasFollowed slots style before (removed_kept o (kept_seen old)) old new
  removed None trees e = same trees e
  removed (Some place) trees c = record {
    numbered = c.numbered;
    kept = c.kept;
    holds = subst (λ ts. HoldsLayers slots tiles globals ts new) (sym trees) (c.holds tiles globals before held);
    right = λ scene right. subst (λ ts. IsRightIn slots tiles globals scene ts new) (sym trees) (c.right tiles globals scene before held right);
  }

  pub moved : (o b : Option ℕ) → IfSome o (λ i. i < length before) → trees_in style ≡ moved_at o b before → MovesAt slots o b old new
      → HasFollowed slots style before (moved_from o b (kept_seen old)) old new
  moved None b within trees e = same trees e
  moved (Some from) b within trees c =
      let to = place_moved_to from b (length (kept_seen old)) in
      let listed : trees_in style ≡ insert (remove before from) to (get_or before from null) = trees ∙ moved_place before from (length (kept_seen old)) b within counted in
      record {
        numbered = c.numbered;
        kept = c.kept;
        holds = subst (λ ts. HoldsLayers slots tiles globals ts new) (sym listed) (c.holds tiles globals before null held);
        right = λ scene right. subst (λ ts. IsRightIn slots tiles globals scene ts new) (sym listed) (c.right tiles globals scene before null held right);
      }
