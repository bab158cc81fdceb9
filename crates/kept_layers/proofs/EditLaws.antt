-- What is kept of the layers after an edit, by the edit.
use Rattle.std.proofs.Common.{◌≡◌, ◌<◌, ◌≤◌, ◌+◌, ℕ, ℤ, List, length, get_or, refl, ap, sym, ◌∙◌, subst, arith, Bool, true, false}
use Rattle.std.specs.Prelude.{insert, remove, codes, Option, Some, None, IfSome, unwrap_or, if◌then◌else◌}
use Rattle.std.specs.Option.{option_and_then}
use Rattle.std.proofs.lemmas.List.{length-set}
use Rattle.std.proofs.lemmas.List.Edits.{length-insert, length-remove}
use Rattle.decimal_json.specs.Tree.{Tree, null}
use Rattle.decimal_json.specs.declared.Text.{Text}
use Rattle.decimal_json.specs.declared.tree.Json.{Json}
use Rattle.edit_script.specs.View.{command_seen}
use Rattle.edit_script.specs.declared.command.Command.{Command}
use Rattle.edit_script.specs.declared.command.Command.TheVariants as commands
use Rattle.edit_script.specs.declared.command.Command.TheVariants.{SetPaint, SetLayout, SetFilter, SetRange, AddLayer, RemoveLayer, MoveLayer, SetZoom, SetState, RemoveState, AddImage, RemoveImage, SetGlobal}
use Rattle.edit_script.specs.Edit.{Edit, set_paint, set_layout, set_filter, set_range, add_layer, remove_layer, move_layer}
use Rattle.expr_nodes.specs.Evaluators.{Sized}
use Rattle.form_pool.specs.declared.form_pool.FormPool.{FormPool}
use Rattle.property_tables.specs.declared.property_row.Place.TheVariants.{Layout, Paint}
use Rattle.layer_buckets.specs.declared.cell.CellItem.TheVariants.{Filter}
use Rattle.style_edits.specs.ByPlace.{changed_at, edited_at, moved_at, place_moved_to}
use Rattle.style_edits.specs.Layer.{with_filter, with_property, with_range}
use Rattle.style_edits.specs.Faults.{named_layer, named_before}
use Rattle.style_edits.specs.Layers.{is_itself}
use Rattle.style_edits.specs.Places.{layer_place}
use Rattle.style_edits.specs.declared.places.EditPlaces.{EditPlaces}
use Rattle.style_edits.proofs.ListLaws.{insert_removed}
use Rattle.kept_layers.specs.KeptLayers.{StyleKept, none_kept}
use Rattle.kept_layers.specs.View.{AreNumbered, globals_in, kept_seen, tiles_in, trees_in}
use Rattle.kept_layers.specs.declared.kept_layers.KeptLayers.{KeptLayers}
use Rattle.kept_layers.specs.declared.style_layers.StyleLayers.{StyleLayers}
use Rattle.kept_layers.specs.EditedKept.{edited_kept, item_named, moved_from, without_item}
use Rattle.kept_layers.specs.Following.{AddsBefore, ChangesAt, HasFollowed, IsEditOf, IsPlaceIn, MovesAt, RemovesAt}
use Rattle.kept_layers.proofs.ItemLaws.{filter_item, range_item}
use Rattle.kept_layers.proofs.PlaceLaws.{before_within, edited_as, itself_placed, layer_within, moved_place, moved_within, place_before, place_within}
use Rattle.kept_layers.proofs.EditedItems.{property_alike, property_changes}
use Rattle.kept_layers.proofs.FollowLaws.{added, changed, kept_count, moved, removed, same}

same_place : (count i : ℕ) → place_moved_to i (Some i) count ≡ i
same_place count i = grind arith

own_kept : (o : Option ℕ) (ks : StyleKept) → IfSome o (λ i. i < length ks) → moved_from o o ks ≡ ks
own_kept None ks within = refl
own_kept (Some i) ks within =
    ap (λ n. insert (remove ks i) n (get_or ks i none_kept)) (same_place (length ks) i) ∙ insert_removed ks i none_kept within

nothing_at : (slots : FormPool → List Sized) (style : StyleLayers) (o : Option ℕ) (old new : KeptLayers) → new ≡ old → ChangesAt slots style o (λ t. None) old new
nothing_at slots style (Some place) old new e = e
nothing_at slots style None old new e = e

without_nothing : (o : Option ℕ) (ts : List Tree) (ks : StyleKept) → without_item o (λ t. None) ts ks ≡ ks
without_nothing (Some place) ts ks = refl
without_nothing None ts ks = refl

module _ (slots : FormPool → List Sized) (style : StyleLayers) (places : EditPlaces) (edit : Edit) (before : List Tree) (old : KeptLayers)
    (is : IsEditOf slots style places edit old before) where
  kept_counted : length (kept_seen old) ≡ length before
  kept_counted = kept_count slots (tiles_in style) (globals_in style) before old is.holds

  trees_as : (other : Edit) → edit ≡ other → trees_in style ≡ edited_at other places before
  trees_as other e = is.edited ∙ edited_as edit before places is.placed other e

  in_kept : (o : Option ℕ) → IfSome o (λ i. i < length before) → IfSome o (λ i. i < length (kept_seen old))
  in_kept o within = subst (λ n. IfSome o (λ i. i < n)) (sym kept_counted) within

  -- ---- where the edit is

  pub layer_in : IfSome places.layer (λ i. i < length (kept_seen old))
  layer_in = in_kept places.layer (layer_within edit before places is.placed)

  pub before_in : IfSome places.before (λ i. i < length (kept_seen old))
  before_in = in_kept places.before (before_within edit before places is.placed)

  changed_in : (o : Option ℕ) (f : Tree → Tree) → IfSome o (λ i. i < length before) → trees_in style ≡ changed_at o f before
      → IfSome o (IsPlaceIn style old)
  changed_in None f within trees = tt
  changed_in (Some i) f within trees = (
    omega (arith, within, ap length trees, length-set before i (f (get_or before i null))),
    omega (arith, within, kept_counted),
  )

  pub paint_in : (id name : List ℕ) (value : Tree) → edit ≡ set_paint id name value → IfSome places.layer (IsPlaceIn style old)
  paint_in id name value e = changed_in places.layer (with_property (codes "paint") name value)
      (layer_within edit before places is.placed) (trees_as (set_paint id name value) e)

  pub layout_in : (id name : List ℕ) (value : Tree) → edit ≡ set_layout id name value → IfSome places.layer (IsPlaceIn style old)
  layout_in id name value e = changed_in places.layer (with_property (codes "layout") name value)
      (layer_within edit before places is.placed) (trees_as (set_layout id name value) e)

  pub filter_in : (id : List ℕ) (filter : Tree) → edit ≡ set_filter id filter → IfSome places.layer (IsPlaceIn style old)
  filter_in id filter e = changed_in places.layer (with_filter filter)
      (layer_within edit before places is.placed) (trees_as (set_filter id filter) e)

  pub one_more : (layer : Tree) (b : Option (List ℕ)) → edit ≡ add_layer layer b → length (trees_in style) ≡ length (kept_seen old) + 1
  one_more layer b e =
      let place = unwrap_or places.before (length (kept_seen old)) in
      let listed : trees_in style ≡ insert before place layer = trees_as (add_layer layer b) e ∙ place_before places.before layer before (length (kept_seen old)) kept_counted in
      omega (arith, ap length listed, length-insert before place layer (place_within places.before (length before) (length (kept_seen old)) kept_counted (before_within edit before places is.placed)), kept_counted)

  moved_count : (o b : Option ℕ) → IfSome o (λ i. i < length before) → IfSome b (λ i. i < length before)
      → length (moved_at o b before) ≡ length before
  moved_count None b within there = refl
  moved_count (Some from) b within there =
      let to = place_moved_to from b (length before) in
      let left = remove before from in
      let less = length-remove before from within in
      let inside : to ≤ length left = omega (arith, less, moved_within (length before) from b within there) in
      omega (arith, less, ap length (moved_place before from (length before) b within refl), length-insert left to (get_or before from null) inside)

  pub as_many : (id : List ℕ) (b : Option (List ℕ)) → edit ≡ move_layer id b → length (trees_in style) ≡ length (kept_seen old)
  as_many id b e = ap length (trees_as (move_layer id b) e)
      ∙ (moved_count places.layer places.before (layer_within edit before places is.placed) (before_within edit before places is.placed) ∙ sym kept_counted)

  -- ---- what is kept

  module _ (new : KeptLayers) (numbered : AreNumbered old) where
    abbrev IsFollowed : StyleKept → Type 0
    IsFollowed after = HasFollowed slots style before after old new

    abbrev kept_by : Edit → StyleKept
    kept_by e = edited_kept places e before (kept_seen old)

    by_name : (other : Edit) → edit ≡ other → IsFollowed (kept_by other) → IsFollowed (kept_by edit)
    by_name other e followed = subst (λ x. IsFollowed (kept_by x)) (sym e) followed

    pub paint_followed : (id name : List ℕ) (value : Tree) → edit ≡ set_paint id name value
        → ChangesAt slots style places.layer (item_named Paint name) old new → IsFollowed (kept_by edit)
    paint_followed id name value e c = by_name (set_paint id name value) e
        (changed slots style before old new numbered is.holds places.layer (item_named Paint name) (with_property (codes "paint") name value)
        (property_changes (globals_in style) Paint name value) (property_alike (globals_in style) Paint name value)
        (layer_within edit before places is.placed) (trees_as (set_paint id name value) e) c)

    pub layout_followed : (id name : List ℕ) (value : Tree) → edit ≡ set_layout id name value
        → ChangesAt slots style places.layer (item_named Layout name) old new → IsFollowed (kept_by edit)
    layout_followed id name value e c = by_name (set_layout id name value) e
        (changed slots style before old new numbered is.holds places.layer (item_named Layout name) (with_property (codes "layout") name value)
        (property_changes (globals_in style) Layout name value) (property_alike (globals_in style) Layout name value)
        (layer_within edit before places is.placed) (trees_as (set_layout id name value) e) c)

    pub filter_followed : (id : List ℕ) (filter : Tree) → edit ≡ set_filter id filter
        → ChangesAt slots style places.layer (λ t. Some Filter) old new → IsFollowed (kept_by edit)
    filter_followed id filter e c = by_name (set_filter id filter) e
        (changed slots style before old new numbered is.holds places.layer (λ t. Some Filter) (with_filter filter)
        (λ t. filter_item (globals_in style) filter t) (λ t. refl)
        (layer_within edit before places is.placed) (trees_as (set_filter id filter) e) c)

    pub range_followed : (id : List ℕ) (min max : Option ℤ) → edit ≡ set_range id min max → new ≡ old → IsFollowed (kept_by edit)
    range_followed id min max e still = by_name (set_range id min max) e (subst IsFollowed (without_nothing places.layer before (kept_seen old))
        (changed slots style before old new numbered is.holds places.layer (λ t. None) (with_range min max)
        (λ t. range_item (globals_in style) min max t) (λ t. refl)
        (layer_within edit before places is.placed) (trees_as (set_range id min max) e) (nothing_at slots style places.layer old new still)))

    pub add_followed : (layer : Tree) (b : Option (List ℕ)) → edit ≡ add_layer layer b → AddsBefore slots style places.before old new
        → IsFollowed (kept_by edit)
    add_followed layer b e a = by_name (add_layer layer b) e
        (added slots style before old new numbered is.holds places.before layer (before_within edit before places is.placed)
        (trees_as (add_layer layer b) e) a)

    pub remove_followed : (id : List ℕ) → edit ≡ remove_layer id → RemovesAt slots places.layer old new → IsFollowed (kept_by edit)
    remove_followed id e c = by_name (remove_layer id) e
        (removed slots style before old new numbered is.holds places.layer (trees_as (remove_layer id) e) c)

    move_kept : (id : List ℕ) (b : Option (List ℕ)) → edit ≡ move_layer id b
        → moved_from places.layer places.before (kept_seen old) ≡ kept_by (move_layer id b)
    move_kept id b e = by (is_itself id b) refl where
      own : is_itself id b ≡ true → places.before ≡ places.layer
      own itself = ap (λ p. p.before) is.placed
          ∙ (ap (λ x. option_and_then (layer_place before) (named_before x)) e
          ∙ (itself_placed id b before itself
          ∙ sym (ap (λ p. p.layer) is.placed ∙ ap (λ x. option_and_then (layer_place before) (named_layer x)) e)))

      by : (test : Bool) → is_itself id b ≡ test
          → moved_from places.layer places.before (kept_seen old) ≡ (if test then kept_seen old else moved_from places.layer places.before (kept_seen old))
      by true itself = ap (λ o. moved_from places.layer o (kept_seen old)) (own itself) ∙ own_kept places.layer (kept_seen old) layer_in
      by false other = refl

    pub move_followed : (id : List ℕ) (b : Option (List ℕ)) → edit ≡ move_layer id b → MovesAt slots places.layer places.before old new
        → IsFollowed (kept_by edit)
    move_followed id b e c = by_name (move_layer id b) e (subst IsFollowed (move_kept id b e)
        (moved slots style before old new numbered is.holds places.layer places.before (layer_within edit before places is.placed)
        (trees_as (move_layer id b) e) c))

    -- an edit that leaves the layers as they are
    pub left_followed : (other : Edit) → edit ≡ other → edited_at other places before ≡ before → kept_by other ≡ kept_seen old → new ≡ old
        → IsFollowed (kept_by edit)
    left_followed other e stay kept still = by_name other e (subst IsFollowed (sym kept)
        (same slots style before old new numbered is.holds (trees_as other e ∙ stay) still))

-- any edit but those of which what is kept changes
module _ (slots : FormPool → List Sized) (style : StyleLayers) (places : EditPlaces) (before : List Tree) (old : KeptLayers) (numbered : AreNumbered old) where
  abbrev IsStill : Edit → Type 0
  IsStill edit = IsEditOf slots style places edit old before → HasFollowed slots style before (edited_kept places edit before (kept_seen old)) old old

  pub others_followed : (command : Command)
      → ((layer name : Text) (value : Json) → command ≡ SetPaint layer name value → ⊥)
      → ((layer name : Text) (value : Json) → command ≡ SetLayout layer name value → ⊥)
      → ((layer : Text) (filter : Json) → command ≡ SetFilter layer filter → ⊥)
      → ((layer : Json) (b : Option Text) → command ≡ AddLayer layer b → ⊥)
      → ((id : Text) → command ≡ RemoveLayer id → ⊥)
      → ((id : Text) (b : Option Text) → command ≡ MoveLayer id b → ⊥)
      → IsStill (command_seen command)
  others_followed (SetPaint layer name value) paint layout filter add remove move is = absurd (paint layer name value refl)
  others_followed (SetLayout layer name value) paint layout filter add remove move is = absurd (layout layer name value refl)
  others_followed (SetFilter layer value) paint layout filter add remove move is = absurd (filter layer value refl)
  others_followed (AddLayer layer b) paint layout filter add remove move is = absurd (add layer b refl)
  others_followed (RemoveLayer id) paint layout filter add remove move is = absurd (remove id refl)
  others_followed (MoveLayer id b) paint layout filter add remove move is = absurd (move id b refl)
  others_followed (SetRange layer min max) paint layout filter add remove move is =
      range_followed slots style places (set_range layer min max) before old is old numbered layer min max refl refl
  others_followed (SetZoom zoom) paint layout filter add remove move is =
      left_followed slots style places (command_seen (SetZoom zoom)) before old is old numbered (command_seen (SetZoom zoom)) refl refl refl refl
  others_followed (SetState source layer id members) paint layout filter add remove move is =
      left_followed slots style places (command_seen (SetState source layer id members)) before old is old numbered (command_seen (SetState source layer id members)) refl refl refl refl
  others_followed (RemoveState source layer id key) paint layout filter add remove move is =
      left_followed slots style places (command_seen (RemoveState source layer id key)) before old is old numbered (command_seen (RemoveState source layer id key)) refl refl refl refl
  others_followed (AddImage name) paint layout filter add remove move is =
      left_followed slots style places (command_seen (AddImage name)) before old is old numbered (command_seen (AddImage name)) refl refl refl refl
  others_followed (RemoveImage name) paint layout filter add remove move is =
      left_followed slots style places (command_seen (RemoveImage name)) before old is old numbered (command_seen (RemoveImage name)) refl refl refl refl
  others_followed (SetGlobal name value) paint layout filter add remove move is =
      left_followed slots style places (command_seen (SetGlobal name value)) before old is old numbered (command_seen (SetGlobal name value)) refl refl refl refl
  others_followed commands.List paint layout filter add remove move is =
      left_followed slots style places (command_seen commands.List) before old is old numbered (command_seen commands.List) refl refl refl refl
  others_followed commands.Stats paint layout filter add remove move is =
      left_followed slots style places (command_seen commands.Stats) before old is old numbered (command_seen commands.Stats) refl refl refl refl
  others_followed commands.Style paint layout filter add remove move is =
      left_followed slots style places (command_seen commands.Style) before old is old numbered (command_seen commands.Style) refl refl refl refl
