-- Lists in the order of keys.
use Rattle.std.proofs.Common.{◌≡◌, ◌∙◌, ℕ, ℤ, List, [], ◌∷◌, Bool, true, false, Option, map, refl, sym, ap, if◌then◌else◌}
use Rattle.std.specs.List.{AllByRecursion}
use Rattle.stable_order.specs.InOrder.{put, in_order}
use Rattle.stable_order.specs.Keys.{key_before}
use Rattle.tile_reader.specs.declared.tile.Feature.{Feature}
use Rattle.style_layout.proofs.OrderedLists.{map_in_order}
use Rattle.style_layout.specs.Forms.{Property}
use Rattle.asked_cells.specs.Counted.{KeptValues}
use Rattle.cell_listing.specs.KeptListing.{key_goes_before}
use Rattle.cell_listing.specs.SeenLayers.{keyed_before, keyed_seen, numbered_seen, with_key}
use Rattle.cell_listing.specs.declared.feature_order.KeyedFeature.{KeyedFeature}

-- what holds of each element holds of each in order
module _ {X : Type 0} (P : X → Type 0) (before : X → X → Bool) where
  each_where : (x y : X) (ys : List X) (test : Bool) → P x → P y → AllByRecursion P ys → AllByRecursion P (put before x ys)
      → AllByRecursion P (if test then y ∷ put before x ys else x ∷ y ∷ ys)
  each_where x y ys true first second rest later = (second, later)
  each_where x y ys false first second rest later = (first, (second, rest))

  each_put : (x : X) (ys : List X) → P x → AllByRecursion P ys → AllByRecursion P (put before x ys)
  each_put x [] first rest = (first, tt)
  each_put x (y ∷ ys) first rest = each_where x y ys (before y x) first rest.0 rest.1 (each_put x ys first rest.1)

  pub each_in_order : (xs : List X) → AllByRecursion P xs → AllByRecursion P (in_order before xs)
  each_in_order [] each = tt
  each_in_order (x ∷ xs) each = each_put x (in_order before xs) each.0 (each_in_order xs each.1)

-- what holds of each element by what another fact says of it
pub each_so : {X : Type 0} (P Q : X → Type 0) → ((x : X) → P x → Q x) → (xs : List X) → AllByRecursion P xs → AllByRecursion Q xs
each_so P Q so [] each = tt
each_so P Q so (x ∷ xs) each = (so x each.0, each_so P Q so xs each.1)

-- elements with what is found for each
module _ {X K : Type 0} (key : X → K) where
  abbrev pub with_found : X → K × X
  with_found x = (key x, x)

  pub found_again : (xs : List X) → map (λ (q : K × X). q.1) (map with_found xs) ≡ xs
  found_again [] = refl
  found_again (x ∷ xs) = ap (λ ys. x ∷ ys) (found_again xs)

-- keys that agree on each element give one order
module _ {X K : Type 0} (key other : X → K) (test : K → K → Bool) where
  same_keys : (xs : List X) → AllByRecursion (λ x. key x ≡ other x) xs → map (with_found key) xs ≡ map (with_found other) xs
  same_keys [] same = refl
  same_keys (x ∷ xs) same = λ i. (same.0 i, x) ∷ same_keys xs same.1 i

  abbrev before : K × X → K × X → Bool
  before q r = test q.0 r.0

  pub one_order : (xs : List X) → AllByRecursion (λ x. key x ≡ other x) xs
      → in_order (λ x y. test (key x) (key y)) xs ≡ in_order (λ x y. test (other x) (other y)) xs
  one_order xs same =
      let second = λ (q : K × X). q.1 in
      sym (found_again key (in_order (λ x y. test (key x) (key y)) xs))
      ∙ (ap (map second) (map_in_order (with_found key) (λ x y. test (key x) (key y)) before (λ x y. refl) xs)
      ∙ (ap (λ qs. map second (in_order before qs)) (same_keys xs same)
      ∙ (sym (ap (map second) (map_in_order (with_found other) (λ x y. test (other x) (other y)) before (λ x y. refl) xs))
      ∙ found_again other (in_order (λ x y. test (other x) (other y)) xs))))

-- ---- features with their keys

abbrev Keyed : Type 0
Keyed = Option ℤ × (ℕ × Feature)

abbrev earlier : Keyed → Keyed → Bool
earlier a b = key_before a.0 b.0

without_key : (ks : List KeyedFeature) → map numbered_seen ks ≡ map (λ (q : Keyed). q.1) (map keyed_seen ks)
without_key [] = refl
without_key (k ∷ ks) = ap (λ nfs. numbered_seen k ∷ nfs) (without_key ks)

-- A list that was sorted by its keys is in their order.
pub in_key_order : (kept : KeptValues) (p : Property) (ks : List KeyedFeature) (nfs : List (ℕ × Feature))
    → map keyed_seen ks ≡ map (with_key kept p) nfs
    → map numbered_seen (in_order keyed_before ks) ≡ in_order (key_goes_before kept p) nfs
in_key_order kept p ks nfs keyed =
    let second = λ (q : Keyed). q.1 in
    without_key (in_order keyed_before ks)
    ∙ (ap (map second) (map_in_order keyed_seen keyed_before earlier (λ x y. refl) ks
    ∙ (ap (in_order earlier) keyed ∙ sym (map_in_order (with_key kept p) (key_goes_before kept p) earlier (λ x y. refl) nfs)))
    ∙ found_again (λ (nf : ℕ × Feature). (with_key kept p nf).0) (in_order (key_goes_before kept p) nfs))
