-- Lists of layers after an edit, by the places of the layers that it names.
use Rattle.std.proofs.Common.{◌≡◌, ◌<◌, ◌≤◌, ℕ, ◌-◌, List, length, get_or, refl, ap, sym, ◌∙◌, subst, arith, Bool, true, false}
use Rattle.std.specs.Prelude.{insert, remove, Option, Some, None, IfSome, unwrap_or, if◌then◌else◌}
use Rattle.std.specs.Option.{option_and_then}
use Rattle.std.proofs.lemmas.Slice.Eq.{bytes_eq-Decides}
use Rattle.decimal_json.specs.Tree.{Tree, null}
use Rattle.decimal_json.specs.View.{moved_items}
use Rattle.edit_script.specs.Edit.{Edit}
use Rattle.style_edits.specs.ByPlace.{edited_at, inserted_at, is_own_place, moved_at, place_moved_to}
use Rattle.style_edits.specs.Edited.{edited_layers}
use Rattle.style_edits.specs.Faults.{named_layer, named_before}
use Rattle.style_edits.specs.Layers.{is_itself}
use Rattle.style_edits.specs.Places.{layer_place, places_in}
use Rattle.style_edits.specs.declared.places.EditPlaces.{EditPlaces}
use Rattle.style_edits.proofs.EditLaws.{edited_by_place}
use Rattle.style_edits.proofs.ListLaws.{insert_last, insert_removed}
use Rattle.style_edits.proofs.PlaceLaws.{placed_within}
use Rattle.kept_layers.proofs.HoldingLaws.{nat_same}

-- ---- the places of an edit of these layers

module _ (edit : Edit) (ts : List Tree) (places : EditPlaces) (placed : places ≡ places_in ts edit) where
  pub layer_within : IfSome places.layer (λ i. i < length ts)
  layer_within = subst (λ o. IfSome o (λ i. i < length ts)) (sym (ap (λ p. p.layer) placed)) (placed_within ts (named_layer edit))

  pub before_within : IfSome places.before (λ i. i < length ts)
  before_within = subst (λ o. IfSome o (λ i. i < length ts)) (sym (ap (λ p. p.before) placed)) (placed_within ts (named_before edit))

  -- the edit, by another name of it
  pub edited_as : (other : Edit) → edit ≡ other → edited_layers edit ts ≡ edited_at other places ts
  edited_as other e = edited_by_place edit ts ∙ (λ i. edited_at (e i) (sym placed i) ts)

-- ---- a layer that is put before another, or last

pub place_before : (o : Option ℕ) (layer : Tree) (ts : List Tree) (count : ℕ) → count ≡ length ts
    → inserted_at o layer ts ≡ insert ts (unwrap_or o count) layer
place_before (Some i) layer ts count e = refl
place_before None layer ts count e = sym (ap (λ n. insert ts n layer) e ∙ insert_last ts layer)

pub place_within : (o : Option ℕ) (n count : ℕ) → count ≡ n → IfSome o (λ i. i < n) → unwrap_or o count ≤ n
place_within (Some i) n count e within = omega (arith, within)
place_within None n count e within = omega (arith, e)

-- ---- a layer that is moved

-- before itself it stays
own_is : (from count : ℕ) (b : Option ℕ) → is_own_place from b ≡ true → place_moved_to from b count ≡ from
own_is from count (Some i) e = let same : i ≡ from = nat_same i from e in grind (arith, same)
own_is from count None e = absurd (cc)

pub moved_place : (ts : List Tree) (from count : ℕ) (b : Option ℕ) → from < length ts → count ≡ length ts
    → moved_at (Some from) b ts ≡ insert (remove ts from) (place_moved_to from b count) (get_or ts from null)
moved_place ts from count b within e = by b (is_own_place from b) refl where
  by_test : Option ℕ → Bool → List Tree
  by_test b own = if own then ts else moved_items from (place_moved_to from b (length ts)) ts

  by : (b : Option ℕ) (own : Bool) → is_own_place from b ≡ own
      → moved_at (Some from) b ts ≡ insert (remove ts from) (place_moved_to from b count) (get_or ts from null)
  by b true own =
      ap (by_test b) own
      ∙ (sym (insert_removed ts from null within) ∙ ap (λ n. insert (remove ts from) n (get_or ts from null)) (sym (own_is from count b own)))
  by (Some i) false own = ap (by_test (Some i)) own
  by None false own = ap (λ n. insert (remove ts from) (n - 1) (get_or ts from null)) (sym e)

pub moved_within : (count from : ℕ) (b : Option ℕ) → from < count → IfSome b (λ i. i < count) → place_moved_to from b count < count
moved_within count from (Some i) within there = grind (arith, within, there)
moved_within count from None within there = omega (arith, within)

-- a layer that is put before itself has its own place
pub itself_placed : (id : List ℕ) (before : Option (List ℕ)) (ts : List Tree) → is_itself id before ≡ true
    → option_and_then (layer_place ts) before ≡ layer_place ts id
itself_placed id (Some other) ts e = ap (layer_place ts) (sym ((bytes_eq-Decides id other).0 e))
itself_placed id None ts e = absurd (cc)
