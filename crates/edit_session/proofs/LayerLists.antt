-- The layers of a document, prepared one by one, as an edit changes them.
use Rattle.std.proofs.Common.{◌≡◌, ◌∙◌, ℕ, zero, suc, ◌+◌, ◌<◌, ◌≤◌, List, [], ◌∷◌, length, get_or, set, map, refl, ap, sym, arith, Bool, true, false, Option, Some, None}
use Rattle.std.specs.Prelude.{insert, remove, is_some, option_map, unwrap_or, ◌||◌}
use Rattle.std.proofs.lemmas.List.{get_or-map, length-map, map-set, set-set, set-get_or}
use Rattle.decimal_json.proofs.Edits.{map_insert, map_remove}
use Rattle.decimal_json.specs.Tree.{Tree, null, trees_of}
use Rattle.decimal_json.specs.View.{items_view, moved_items, tree_of}
use Rattle.decimal_json.specs.declared.tree.Json.{Json}
use Rattle.prop_values.specs.Data.{Data}
use Rattle.property_tables.specs.declared.layer_type.LayerType.{LayerType}
use Rattle.property_tables.specs.declared.layer_type.LayerType.TheVariants.{Background}
use Rattle.style_edits.proofs.ListLaws.{insert_removed, remove_inserted, moved_back}
use Rattle.global_laws.specs.GlobalLaw.{names_globals, items_name_globals}
use Rattle.style_layout.specs.Layers.{StyleLayer, typed_layer, with_layer, layers_in}
use Rattle.style_layout.specs.Outlines.{layer_outline}
use Rattle.style_layout.specs.Shown.{SourceTile}
use Rattle.style_layout.specs.StyleLayout.{layer_cells, cell_count}
use Rattle.value_forms.specs.LayerTypes.{layer_type}
use Rattle.edit_findings.specs.FoundAfter.{Each}
use Rattle.kept_layers.specs.KeptLayers.{prepared_layers}
use Rattle.kept_layers.specs.View.{AreTyped}

-- ---- layers that have types

module _ (globals : List (List ℕ × Data)) where
  pub one_outline : (t : Tree) (type : Option LayerType) (l : StyleLayer) → Some l ≡ option_map layer_outline (option_map (typed_layer globals t) type)
      → l ≡ layer_outline (typed_layer globals t (unwrap_or type Background))
  one_outline t (Some type) l h = cc
  one_outline t None l h = absurd (cc)

  one_more : (t : Tree) (type : Option LayerType) (ls ms : List StyleLayer) → is_some type ≡ true → ls ≡ ms
      → with_layer (option_map (typed_layer globals t) type) ls ≡ typed_layer globals t (unwrap_or type Background) ∷ ms
  one_more t (Some type) ls ms h e = ap (λ xs. typed_layer globals t type ∷ xs) e
  one_more t None ls ms h e = absurd (cc)

  pub all_prepared : (ts : List Tree) → AreTyped ts → layers_in globals (trees_of ts) ≡ prepared_layers globals ts
  all_prepared [] typed = refl
  all_prepared (t ∷ ts) typed = one_more t (layer_type t) _ _ typed.0 (all_prepared ts typed.1)

-- ---- lists that follow what takes an edit back

-- a layer at a place, as a tree
pub item_at : (js : List Json) (i : ℕ) (x : Json) → i < length (items_view js) → x ≡ get_or js i x → tree_of x ≡ get_or (items_view js) i null
item_at js i x h is =
    let within : i < length js = omega (arith, h, length-map js tree_of) in
    ap tree_of is ∙ sym (get_or-map tree_of js i x null within)

module _ {X : Type 0} (f : Tree → X) (ts : List Tree) where
  pub changed_back : (i : ℕ) (was : Tree) → set (map f (set ts i was)) i (f (get_or ts i null)) ≡ map f ts
  changed_back i was =
      sym (map-set f (set ts i was) i (get_or ts i null)) ∙ ap (map f) (set-set ts i was (get_or ts i null) ∙ set-get_or ts i null)

  pub added_back : (i : ℕ) → i < length ts → insert (map f (remove ts i)) i (f (get_or ts i null)) ≡ map f ts
  added_back i h = sym (map_insert f (remove ts i) i (get_or ts i null)) ∙ ap (map f) (insert_removed ts i null h)

  pub removed_back : (i : ℕ) (was : Tree) → i ≤ length ts → remove (map f (insert ts i was)) i ≡ map f ts
  removed_back i was h = sym (map_remove f (insert ts i was) i) ∙ ap (map f) (remove_inserted ts i was h)

-- ---- what holds of each layer before an edit was taken back

module _ (P : Tree → Type 0) where
  pub each_unset : (ts : List Tree) (i : ℕ) (was : Tree) → i < length ts → Each P (set ts i was) → P (get_or ts i null) → Each P ts
  each_unset [] i was within h p = absurd (omega (arith, within))
  each_unset (t ∷ ts) zero was within h p = (p, h.1)
  each_unset (t ∷ ts) (suc i) was within h p = (h.0, each_unset ts i was (omega (arith, within)) h.1 p)

  pub each_unremoved : (ts : List Tree) (i : ℕ) → i < length ts → Each P (remove ts i) → P (get_or ts i null) → Each P ts
  each_unremoved [] i within h p = absurd (omega (arith, within))
  each_unremoved (t ∷ ts) zero within h p = (p, h)
  each_unremoved (t ∷ ts) (suc i) within h p = (h.0, each_unremoved ts i (omega (arith, within)) h.1 p)

  pub each_uninserted : (ts : List Tree) (i : ℕ) (t : Tree) → Each P (insert ts i t) → P t × Each P ts
  each_uninserted [] zero t h = (h.0, tt)
  each_uninserted [] (suc i) t h = (h.0, tt)
  each_uninserted (u ∷ ts) zero t h = (h.0, h.1)
  each_uninserted (u ∷ ts) (suc i) t h = let (own, others) = each_uninserted ts i t h.1 in (own, (h.0, others))

  pub each_unmoved : (ts : List Tree) (from to : ℕ) → to < length ts → Each P (moved_items to from ts) → Each P ts
  each_unmoved ts from to within h =
      let (own, others) = each_uninserted (remove ts to) from (get_or ts to null) h in
      each_unremoved ts to within others own

-- ---- cells

module _ (tiles : List SourceTile) where
  pub cells_set : (ls : List StyleLayer) (i : ℕ) (l d : StyleLayer) → i < length ls →
      cell_count tiles (set ls i l) + layer_cells tiles (get_or ls i d) ≡ cell_count tiles ls + layer_cells tiles l
  cells_set [] i l d within = absurd (omega (arith, within))
  cells_set (x ∷ ls) zero l d within = omega arith
  cells_set (x ∷ ls) (suc i) l d within = omega (arith, cells_set ls i l d (omega (arith, within)))

  pub cells_insert : (ls : List StyleLayer) (i : ℕ) (l : StyleLayer) → i ≤ length ls →
      cell_count tiles (insert ls i l) ≡ cell_count tiles ls + layer_cells tiles l
  cells_insert [] zero l within = omega arith
  cells_insert [] (suc i) l within = absurd (omega (arith, within))
  cells_insert (x ∷ ls) zero l within = omega arith
  cells_insert (x ∷ ls) (suc i) l within = omega (arith, cells_insert ls i l (omega (arith, within)))

  pub cells_remove : (ls : List StyleLayer) (i : ℕ) (d : StyleLayer) → i < length ls →
      cell_count tiles (remove ls i) + layer_cells tiles (get_or ls i d) ≡ cell_count tiles ls
  cells_remove [] i d within = absurd (omega (arith, within))
  cells_remove (x ∷ ls) zero d within = omega arith
  cells_remove (x ∷ ls) (suc i) d within = omega (arith, cells_remove ls i d (omega (arith, within)))

-- ---- texts that are `global-state`

abbrev any : List Tree → Bool
any ts = items_name_globals (trees_of ts)

both_off : (a b : Bool) → a ≡ false → b ≡ false → (a || b) ≡ false
both_off a b h k = cc

first_off : (a b : Bool) → (a || b) ≡ false → a ≡ false
first_off true b h = absurd (cc)
first_off false b h = refl

last_off : (a b : Bool) → (a || b) ≡ false → b ≡ false
last_off true b h = absurd (cc)
last_off false b h = h

pub either_off : (a b : Bool) → (a || b) ≡ false → (a ≡ false) × (b ≡ false)
either_off a b h = (first_off a b h, last_off a b h)

pub off_changed : (ts : List Tree) (i : ℕ) (was : Tree) → any (set ts i was) ≡ false → names_globals (get_or ts i null) ≡ false → any ts ≡ false
off_changed [] i was h k = refl
off_changed (t ∷ ts) zero was h k = both_off (names_globals t) (any ts) k (last_off (names_globals was) (any ts) h)
off_changed (t ∷ ts) (suc i) was h k =
    both_off (names_globals t) (any ts) (first_off (names_globals t) (any (set ts i was)) h)
    (off_changed ts i was (last_off (names_globals t) (any (set ts i was)) h) k)

pub off_added : (ts : List Tree) (i : ℕ) → any (remove ts i) ≡ false → names_globals (get_or ts i null) ≡ false → any ts ≡ false
off_added [] i h k = refl
off_added (t ∷ ts) zero h k = both_off (names_globals t) (any ts) k h
off_added (t ∷ ts) (suc i) h k =
    both_off (names_globals t) (any ts) (first_off (names_globals t) (any (remove ts i)) h)
    (off_added ts i (last_off (names_globals t) (any (remove ts i)) h) k)

inserted_off : (ts : List Tree) (i : ℕ) (t : Tree) → i ≤ length ts → any (insert ts i t) ≡ false → (any ts ≡ false) × (names_globals t ≡ false)
inserted_off [] zero t within h = (refl, first_off (names_globals t) false h)
inserted_off [] (suc i) t within h = absurd (omega (arith, within))
inserted_off (u ∷ ts) zero t within h = (last_off (names_globals t) (any (u ∷ ts)) h, first_off (names_globals t) (any (u ∷ ts)) h)
inserted_off (u ∷ ts) (suc i) t within h =
    let later = inserted_off ts i t (omega (arith, within)) (last_off (names_globals u) (any (insert ts i t)) h) in
    (both_off (names_globals u) (any ts) (first_off (names_globals u) (any (insert ts i t)) h) later.0, later.1)

pub off_removed : (ts : List Tree) (i : ℕ) (was : Tree) → i ≤ length ts → any (insert ts i was) ≡ false → any ts ≡ false
off_removed ts i was within h = (inserted_off ts i was within h).0

length_removed : (ts : List Tree) (i : ℕ) → i < length ts → suc (length (remove ts i)) ≡ length ts
length_removed [] i h = absurd (omega (arith, h))
length_removed (t ∷ ts) zero h = refl
length_removed (t ∷ ts) (suc i) h = ap suc (length_removed ts i (omega (arith, h)))

pub off_moved : (ts : List Tree) (from to : ℕ) → from < length ts → to < length ts → any (moved_items to from ts) ≡ false → any ts ≡ false
off_moved ts from to h k off =
    let there : from ≤ length (remove ts to) = omega (arith, length_removed ts to k, h) in
    let parts = inserted_off (remove ts to) from (get_or ts to null) there off in
    off_added ts to parts.0 parts.1

-- ---- layers that are moved

pub length_inserted : {X : Type 0} (xs : List X) (i : ℕ) (x : X) → i ≤ length xs → length (insert xs i x) ≡ suc (length xs)
length_inserted [] zero x h = refl
length_inserted [] (suc i) x h = absurd (omega (arith, h))
length_inserted (y ∷ xs) zero x h = refl
length_inserted (y ∷ xs) (suc i) x h = ap suc (length_inserted xs i x (omega (arith, h)))

cells_without : (tiles : List SourceTile) (f : Tree → StyleLayer) (ts : List Tree) (i : ℕ) → i < length ts →
    cell_count tiles (map f (remove ts i)) + layer_cells tiles (f (get_or ts i null)) ≡ cell_count tiles (map f ts)
cells_without tiles f [] i h = absurd (omega (arith, h))
cells_without tiles f (t ∷ ts) zero h = omega arith
cells_without tiles f (t ∷ ts) (suc i) h = omega (arith, cells_without tiles f ts i (omega (arith, h)))

module _ (ts : List Tree) (from to : ℕ) (h : from < length ts) (k : to < length ts) where
  there : from ≤ length (remove ts to)
  there = omega (arith, length_removed ts to k, h)

  pub length_moved : length (moved_items to from ts) ≡ length ts
  length_moved = length_inserted (remove ts to) from (get_or ts to null) there ∙ length_removed ts to k

  pub moved_forth : {X : Type 0} (f : Tree → X) (other : X) →
      insert (remove (map f (moved_items to from ts)) from) to (get_or (map f (moved_items to from ts)) from other) ≡ map f ts
  moved_forth f other =
      let us = moved_items to from ts in
      let within : from < length us = omega (arith, h, length_moved) in
      (λ i. insert (sym (map_remove f us from) i) to (get_or-map f us from null other within i))
      ∙ (sym (map_insert f (remove us from) to (get_or us from null)) ∙ ap (map f) (moved_back ts to from k h))

  pub cells_moved : (f : Tree → StyleLayer) (tiles : List SourceTile) →
      cell_count tiles (map f (moved_items to from ts)) ≡ cell_count tiles (map f ts)
  cells_moved f tiles =
      let left = remove ts to in
      let layer = get_or ts to null in
      let put = ap (cell_count tiles) (map_insert f left from layer)
      ∙ cells_insert tiles (map f left) from (f layer) (omega (arith, there, length-map left f)) in
      let taken = cells_without tiles f ts to k in
      omega (arith, put, taken)

pub typed_at : (ts : List Tree) (i : ℕ) → i < length ts → AreTyped ts → is_some (layer_type (get_or ts i null)) ≡ true
typed_at [] i h typed = absurd (omega (arith, h))
typed_at (t ∷ ts) zero h typed = typed.0
typed_at (t ∷ ts) (suc i) h typed = typed_at ts i (omega (arith, h)) typed.1
