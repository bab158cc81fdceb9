-- Where nothing is kept of the layers of a style, nothing is kept after an edit of it.
use Rattle.std.proofs.Common.{◌≡◌, ◌∙◌, ◌<◌, ℕ, zero, suc, List, [], ◌∷◌, length, get_or, set, map, refl, ap, sym, Bool, true, false, Option, Some, None}
use Rattle.std.specs.Prelude.{insert, remove, codes, IfSome, unwrap_or, if◌then◌else◌}
use Rattle.std.specs.Option.{option_and_then}
use Rattle.std.proofs.lemmas.List.{length-map}
use Rattle.decimal_json.specs.Tree.{Tree, null}
use Rattle.edit_script.specs.Edit.{Edit, set_paint, set_layout, set_filter, set_range, add_layer, remove_layer, move_layer, set_zoom, set_state, remove_state, add_image, remove_image, set_global, list, stats, style}
use Rattle.property_tables.specs.declared.property_row.Place.TheVariants.{Layout, Paint}
use Rattle.layer_buckets.specs.Cells.{item_eq}
use Rattle.layer_buckets.specs.declared.cell.CellItem.{CellItem}
use Rattle.layer_buckets.specs.declared.cell.CellItem.TheVariants.{Filter}
use Rattle.style_edits.specs.ByPlace.{changed_at, inserted_at, moved_at, place_moved_to, removed_at}
use Rattle.style_edits.specs.Edited.{edited_layers}
use Rattle.style_edits.specs.Faults.{named_layer}
use Rattle.style_edits.specs.Layer.{with_filter, with_property, with_range}
use Rattle.style_edits.specs.Layers.{is_itself, layer_named, moved_if_there}
use Rattle.style_edits.specs.Places.{layer_place, places_in}
use Rattle.style_edits.proofs.EditLaws.{edited_by_place}
use Rattle.style_edits.proofs.PlaceLaws.{placed_within}
use Rattle.asked_cells.specs.Asked.{LayerCell}
use Rattle.kept_layers.specs.Changes.{nothing_kept}
use Rattle.kept_layers.specs.KeptLayers.{LayerKept, StyleKept, kept_but, kept_of_each, none_kept}
use Rattle.kept_layers.specs.EditedKept.{edited_kept, item_named, moved_from, removed_kept, without_cells, without_item}
use Rattle.kept_layers.proofs.PlaceLaws.{moved_place, place_before}

-- ---- lists of layers of which nothing is kept

nothing_at : (ts : List Tree) (i : ℕ) → get_or (nothing_kept ts) i none_kept ≡ none_kept
nothing_at [] i = refl
nothing_at (t ∷ ts) zero = refl
nothing_at (t ∷ ts) (suc i) = nothing_at ts i

nothing_set : (ts : List Tree) (i : ℕ) → set (nothing_kept ts) i none_kept ≡ nothing_kept ts
nothing_set [] i = refl
nothing_set (t ∷ ts) zero = refl
nothing_set (t ∷ ts) (suc i) = ap (λ (ks : StyleKept). none_kept ∷ ks) (nothing_set ts i)

another_set : (ts : List Tree) (i : ℕ) (layer : Tree) → nothing_kept (set ts i layer) ≡ nothing_kept ts
another_set [] i layer = refl
another_set (t ∷ ts) zero layer = refl
another_set (t ∷ ts) (suc i) layer = ap (λ (ks : StyleKept). none_kept ∷ ks) (another_set ts i layer)

nothing_inserted : (ts : List Tree) (i : ℕ) (layer : Tree) → insert (nothing_kept ts) i none_kept ≡ nothing_kept (insert ts i layer)
nothing_inserted [] zero layer = refl
nothing_inserted [] (suc i) layer = refl
nothing_inserted (t ∷ ts) zero layer = refl
nothing_inserted (t ∷ ts) (suc i) layer = ap (λ (ks : StyleKept). none_kept ∷ ks) (nothing_inserted ts i layer)

nothing_removed : (ts : List Tree) (i : ℕ) → remove (nothing_kept ts) i ≡ nothing_kept (remove ts i)
nothing_removed [] zero = refl
nothing_removed [] (suc i) = refl
nothing_removed (t ∷ ts) zero = refl
nothing_removed (t ∷ ts) (suc i) = ap (λ (ks : StyleKept). none_kept ∷ ks) (nothing_removed ts i)

-- ---- an edit of the layers

-- an item of a layer has no cells
no_cells : (ts : List Tree) (place : ℕ) (item : Option CellItem) → without_cells place item (nothing_kept ts) ≡ nothing_kept ts
no_cells ts place None = refl
no_cells ts place (Some item) =
    ap (λ (k : LayerKept). set (nothing_kept ts) place (kept_but k (λ c. item_eq item c.item))) (nothing_at ts place)
    ∙ nothing_set ts place

of_changed : (o : Option ℕ) (change : Tree → Tree) (ts : List Tree) → nothing_kept ts ≡ nothing_kept (changed_at o change ts)
of_changed None change ts = refl
of_changed (Some place) change ts = sym (another_set ts place (change (get_or ts place null)))

of_item : (o : Option ℕ) (item : Tree → Option CellItem) (change : Tree → Tree) (ts : List Tree)
    → without_item o item ts (nothing_kept ts) ≡ nothing_kept (changed_at o change ts)
of_item None item change ts = refl
of_item (Some place) item change ts =
    no_cells ts place (item (get_or ts place null)) ∙ of_changed (Some place) change ts

of_added : (o : Option ℕ) (layer : Tree) (ts : List Tree)
    → insert (nothing_kept ts) (unwrap_or o (length (nothing_kept ts))) none_kept ≡ nothing_kept (inserted_at o layer ts)
of_added o layer ts =
    let count = length (nothing_kept ts) in
    nothing_inserted ts (unwrap_or o count) layer
    ∙ ap nothing_kept (sym (place_before o layer ts count (length-map ts (λ t. none_kept))))

of_removed : (o : Option ℕ) (ts : List Tree) → removed_kept o (nothing_kept ts) ≡ nothing_kept (removed_at o ts)
of_removed None ts = refl
of_removed (Some place) ts = nothing_removed ts place

of_moved : (o before : Option ℕ) (ts : List Tree) → IfSome o (λ i. i < length ts)
    → moved_from o before (nothing_kept ts) ≡ nothing_kept (moved_at o before ts)
of_moved None before ts within = refl
of_moved (Some from) before ts within =
    let count = length (nothing_kept ts) in
    let to = place_moved_to from before count in
    (λ i. insert (nothing_removed ts from i) to (nothing_at ts from i))
    ∙ (nothing_inserted (remove ts from) to (get_or ts from null)
    ∙ ap nothing_kept (sym (moved_place ts from count before within (length-map ts (λ t. none_kept)))))

-- one that is moved before itself stays
of_moved_layer : (id : List ℕ) (before : Option (List ℕ)) (ts : List Tree)
    → edited_kept (places_in ts (move_layer id before)) (move_layer id before) ts (nothing_kept ts)
    ≡ nothing_kept (edited_layers (move_layer id before) ts)
of_moved_layer id before ts = by (is_itself id before) refl where
  by : (b : Bool) → is_itself id before ≡ b
      → (if b then nothing_kept ts else moved_from (layer_place ts id) (option_and_then (layer_place ts) before) (nothing_kept ts))
      ≡ nothing_kept (edited_layers (move_layer id before) ts)
  by true is = ap (λ (b : Bool). nothing_kept (if b then ts else moved_if_there (layer_named id ts) id before ts)) (sym is)
  by false is =
      of_moved (layer_place ts id) (option_and_then (layer_place ts) before) ts (placed_within ts (named_layer (move_layer id before)))
      ∙ ap nothing_kept (sym (edited_by_place (move_layer id before) ts))

pub edited_nothing : (edit : Edit) (ts : List Tree)
    → edited_kept (places_in ts edit) edit ts (nothing_kept ts) ≡ nothing_kept (edited_layers edit ts)
edited_nothing (set_paint id name value) ts =
    of_item (layer_place ts id) (item_named Paint name) (with_property (codes "paint") name value) ts
    ∙ ap nothing_kept (sym (edited_by_place (set_paint id name value) ts))
edited_nothing (set_layout id name value) ts =
    of_item (layer_place ts id) (item_named Layout name) (with_property (codes "layout") name value) ts
    ∙ ap nothing_kept (sym (edited_by_place (set_layout id name value) ts))
edited_nothing (set_filter id filter) ts =
    of_item (layer_place ts id) (λ t. Some Filter) (with_filter filter) ts
    ∙ ap nothing_kept (sym (edited_by_place (set_filter id filter) ts))
edited_nothing (set_range id min max) ts =
    of_changed (layer_place ts id) (with_range min max) ts
    ∙ ap nothing_kept (sym (edited_by_place (set_range id min max) ts))
edited_nothing (add_layer layer before) ts =
    of_added (option_and_then (layer_place ts) before) layer ts
    ∙ ap nothing_kept (sym (edited_by_place (add_layer layer before) ts))
edited_nothing (remove_layer id) ts =
    of_removed (layer_place ts id) ts ∙ ap nothing_kept (sym (edited_by_place (remove_layer id) ts))
edited_nothing (move_layer id before) ts = of_moved_layer id before ts
edited_nothing (set_zoom zoom) ts = refl
edited_nothing (set_state source layer id members) ts = refl
edited_nothing (remove_state source layer id key) ts = refl
edited_nothing (add_image name) ts = refl
edited_nothing (remove_image name) ts = refl
edited_nothing (set_global name value) ts = refl
edited_nothing list ts = refl
edited_nothing stats ts = refl
edited_nothing style ts = refl

-- ---- a change of what the layers are shown by

-- no cell is there to drop
pub none_stale : (stale : Tree → LayerCell → Bool) (ts : List Tree) → kept_of_each stale ts (nothing_kept ts) ≡ nothing_kept ts
none_stale stale [] = refl
none_stale stale (t ∷ ts) = ap (λ (ks : StyleKept). none_kept ∷ ks) (none_stale stale ts)
