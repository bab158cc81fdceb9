-- Features in the order of their keys.
use Rattle.std.proofs.Common.{◌≡◌, ◌∙◌, ℕ, ℤ, zero, suc, List, [], ◌∷◌, Bool, true, false, ◌&&◌, Option, Some, None, is_some, option_map, Ok, Err, take, drop, get_or, map, refl, sym, ap, subst, inl, inr, if◌then◌else◌}
use Rattle.std.specs.Prelude.{IfSome}
use Rattle.std.specs.List.{AllByRecursion, slice_get}
use Rattle.std.proofs.lemmas.Bool.{cases_Bool, true≢false}
use Rattle.prop_values.specs.Data.{Data}
use Rattle.operator_values.specs.Evaluated.{Evaluated}
use Rattle.eval_face.specs.Resolved.{resolved}
use Rattle.expr_nodes.specs.Evaluators.{Sized}
use Rattle.layer_buckets.proofs.Places.{get_inside}
use Rattle.layer_buckets.specs.declared.cell.CellItem.TheVariants as items
use Rattle.layer_buckets.specs.declared.cell.Source.{Source}
use Rattle.stable_order.proofs.KeyOrder.{keys_are_ordered}
use Rattle.stable_order.specs.InOrder.{put, in_order}
use Rattle.stable_order.specs.Keys.{key_before}
use Rattle.style_layout.proofs.OrderedLists.{map_in_order}
use Rattle.style_layout.specs.Forms.{Property, Scene}
use Rattle.style_layout.specs.Layers.{StyleLayer, sort_property}
use Rattle.style_layout.specs.Shown.{LayerFeature, goes_before, ordered, sort_key}
use Rattle.style_layout.specs.SortKeys.{key_of}
use Rattle.bare_listing.specs.Given.{AreGivenBy, GivesValue, IsGiven, ItemSources, KeepsOrder, given_from, outcome_in, source_world}
use Rattle.bare_listing.specs.SeenLayer.{AreKeyed, feature_of, key_by, keyed_before, keyed_seen, with_given}
use Rattle.bare_listing.specs.declared.feature_order.PassedFeature.{PassedFeature}

-- what holds of each element holds of the one at a place
pub each_at : {X : Type 0} (P : X → Type 0) (xs : List X) (i : ℕ) (x : X) → slice_get xs i ≡ Some x → AllByRecursion P xs → P x
each_at P [] i x is each = absurd (cc)
each_at P (y ∷ ys) zero x is each = subst (λ o. IfSome o P) is each.0
each_at P (y ∷ ys) (suc i) x is each = each_at P ys i x is each.1

module _ {X : Type 0} (P : X → Type 0) where
  pub each_taken : (n : ℕ) (xs : List X) → AllByRecursion P xs → AllByRecursion P (take n xs)
  each_taken zero xs each = tt
  each_taken (suc n) [] each = tt
  each_taken (suc n) (x ∷ xs) each = (each.0, each_taken n xs each.1)

  pub each_left : (n : ℕ) (xs : List X) → AllByRecursion P xs → AllByRecursion P (drop n xs)
  each_left zero xs each = each
  each_left (suc n) [] each = tt
  each_left (suc n) (x ∷ xs) each = each_left n xs each.1

-- ---- one key for all

module _ {X : Type 0} (before : X → X → Bool) (none : (x y : X) → before x y ≡ false) where
  put_first : (x : X) (ys : List X) → put before x ys ≡ x ∷ ys
  put_first x [] = refl
  put_first x (y ∷ ys) = ap (λ b. if b then y ∷ put before x ys else x ∷ y ∷ ys) (none y x)

  keeps_order : (xs : List X) → in_order before xs ≡ xs
  keeps_order [] = refl
  keeps_order (x ∷ xs) = ap (put before x) (keeps_order xs) ∙ put_first x xs

no_earlier : (k : Option ℤ) → key_before k k ≡ false
no_earlier k = elim (cases_Bool (key_before k k)) [ inl is ↦ (keys_are_ordered (λ (q : Option ℤ). q)).one_way k k is | inr not ↦ not ]

-- Features keep the order of the list where no property orders them, or one that is the same for all.
pub keeps_by : (scene : Scene) (layer : StyleLayer) (o : Option Property) → sort_property layer.type layer.properties ≡ o
    → IfSome o (λ p. (f g : LayerFeature) → outcome_in scene (Some f) p ≡ outcome_in scene (Some g) p) → KeepsOrder scene layer
keeps_by scene layer None is same = λ fs. ap (λ o. ordered scene o fs) is
keeps_by scene layer (Some p) is same = λ fs. ap (λ o. ordered scene o fs) is ∙ keeps_order (goes_before scene p)
    (λ f g. ap (λ o. key_before (key_of o) (sort_key scene p g)) (same f g) ∙ no_earlier (sort_key scene p g)) fs

and_false : (a b : Bool) → b ≡ false → (a && b) ≡ false
and_false true b none = none
and_false false b none = refl

module _ (scene : Scene) (slots : List Sized) (layer : StyleLayer) (sources : ItemSources) (place : ℕ) (p : Property)
    (given : AreGivenBy scene slots sources layer.properties) (there : slice_get layer.properties place ≡ Some p) where
  -- its source gives what is listed for it
  pub place_gives : (s : Source) → sources (items.Property p.row.number) ≡ Some s → GivesValue scene slots (Some s) p
  place_gives s source = subst (λ (o : Option Source). GivesValue scene slots o p) source
      (each_at (IsGiven scene slots sources) layer.properties place p there given).0

  -- a property that is listed with the layer
  pub keeps_with_layer : sort_property layer.type layer.properties ≡ Some p → p.is_per_feature ≡ false → KeepsOrder scene layer
  keeps_with_layer is own = keeps_by scene layer (Some p) is
      ((each_at (IsGiven scene slots sources) layer.properties place p there given).1
      (ap (λ b. b && is_some (sources (items.Property p.row.number))) own))

  -- a property that has no cells
  pub keeps_without : sort_property layer.type layer.properties ≡ Some p → sources (items.Property p.row.number) ≡ None
      → KeepsOrder scene layer
  keeps_without is none = keeps_by scene layer (Some p) is
      ((each_at (IsGiven scene slots sources) layer.properties place p there given).1
      (and_false p.is_per_feature (is_some (sources (items.Property p.row.number))) (ap is_some none)))

-- ---- features with their values

abbrev Keyed : Type 0
Keyed = Option Evaluated × LayerFeature

abbrev key_in : Option Evaluated → Option ℤ
key_in (Some value) = key_by value
key_in None = None

abbrev earlier : Keyed → Keyed → Bool
earlier a b = key_before (key_in a.0) (key_in b.0)

abbrev second : Keyed → LayerFeature
second q = q.1

-- the default has no part in the key
key_default : (fallback : Option Data) (value : Evaluated) → key_of (resolved fallback value) ≡ key_by value
key_default fallback (Ok d) = refl
key_default fallback (Err fault) = refl

without_key : (ks : List PassedFeature) → map feature_of ks ≡ map second (map keyed_seen ks)
without_key [] = refl
without_key (k ∷ ks) = ap (λ fs. feature_of k ∷ fs) (without_key ks)

module _ (scene : Scene) (slots : List Sized) (s : Source) where
  again : (fs : List LayerFeature) → map second (map (with_given scene slots s) fs) ≡ fs
  again [] = refl
  again (f ∷ fs) = ap (λ later. f ∷ later) (again fs)

  are_keyed : (ks : List PassedFeature) (fs : List LayerFeature) → map keyed_seen ks ≡ map (with_given scene slots s) fs
      → AreKeyed scene slots s ks
  are_keyed [] fs h = tt
  are_keyed (k ∷ ks) [] h = absurd (cc)
  are_keyed (k ∷ ks) (f ∷ fs) h =
      let here : keyed_seen k ≡ with_given scene slots s f = ap (λ (qs : List Keyed). get_or qs 0 (keyed_seen k)) h in
      let later : map keyed_seen ks ≡ map (with_given scene slots s) fs = ap (drop 1) h in (
        ap (λ (g : LayerFeature). given_from scene slots s (Some g)) (ap second here) ∙ sym (ap (λ (q : Keyed). q.0) here),
        are_keyed ks fs later,
      )

  module _ (p : Property) (given : GivesValue scene slots (Some s) p) where
    key_there : (f : LayerFeature) (o : Option Sized) → slice_get slots s.slot ≡ o → is_some o ≡ true
        → sort_key scene p f ≡ key_in (given_from scene slots s (Some f))
    key_there f None at there = absurd (true≢false (sym there))
    key_there f (Some e) at there =
        let world = source_world scene s (Some f) in
        let here : given_from scene slots s (Some f) ≡ Some (e.0 world) = ap (option_map (λ (z : Sized). z.0 world)) at in
        ap key_of (given.1 (Some f) (e.0 world) here) ∙ (key_default p.fallback (e.0 world) ∙ ap key_in (sym here))

    key_given : (f : LayerFeature) → sort_key scene p f ≡ key_in (given_from scene slots s (Some f))
    key_given f = key_there f (slice_get slots s.slot) refl (get_inside slots s.slot given.0)

    -- a list that was sorted by its keys
    sorted_given : (ks : List PassedFeature) (fs : List LayerFeature) → map keyed_seen ks ≡ map (with_given scene slots s) fs
        → map keyed_seen (in_order keyed_before ks) ≡ map (with_given scene slots s) (in_order (goes_before scene p) fs)
    sorted_given ks fs keyed =
        map_in_order keyed_seen keyed_before earlier (λ x y. refl) ks
        ∙ (ap (in_order earlier) keyed ∙ sym (map_in_order (with_given scene slots s) (goes_before scene p) earlier
        (λ f g. λ i. key_before (key_given f i) (key_given g i)) fs))

    pub sorted_keyed : (ks : List PassedFeature) (fs : List LayerFeature) → map keyed_seen ks ≡ map (with_given scene slots s) fs
        → AreKeyed scene slots s (in_order keyed_before ks)
    sorted_keyed ks fs keyed = are_keyed (in_order keyed_before ks) (in_order (goes_before scene p) fs) (sorted_given ks fs keyed)

    pub in_key_order : (ks : List PassedFeature) (fs : List LayerFeature) → map keyed_seen ks ≡ map (with_given scene slots s) fs
        → map feature_of (in_order keyed_before ks) ≡ in_order (goes_before scene p) fs
    in_key_order ks fs keyed =
        without_key (in_order keyed_before ks)
        ∙ (ap (map second) (sorted_given ks fs keyed) ∙ again (in_order (goes_before scene p) fs))
