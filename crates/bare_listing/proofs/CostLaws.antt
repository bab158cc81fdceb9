-- What the features of a layer cost, in the order of the list or in another.
use Rattle.std.proofs.Common.{◌≡◌, ◌∙◌, ℕ, zero, suc, ◌+◌, List, [], ◌∷◌, Bool, true, false, Option, Some, None, take, drop, refl, sym, ap, arith, add-one, if◌then◌else◌}
use Rattle.std.specs.List.{slice_get}
use Rattle.tile_reader.specs.declared.tile.Feature.{Feature}
use Rattle.layer_buckets.specs.declared.cell.CellItem.TheVariants as items
use Rattle.layer_buckets.specs.declared.cell.Source.{Source}
use Rattle.stable_order.specs.InOrder.{put, in_order}
use Rattle.style_layout.specs.Forms.{Property, Scene}
use Rattle.style_layout.specs.Layers.{StyleLayer}
use Rattle.style_layout.specs.Shown.{LayerFeature, is_shown, those_shown, with_state}
use Rattle.bare_listing.specs.Costs.{each_cost, keys_cost, own_cost, rest_cost, rests_cost, value_cost, values_cost}
use Rattle.bare_listing.specs.Given.{ItemSources}

module _ (cost : Option Source → ℕ) (sources : ItemSources) where
  -- ---- features in another order

  module _ (place : ℕ) (ps : List Property) (before : LayerFeature → LayerFeature → Bool) where
    rests_where : (f g : LayerFeature) (fs : List LayerFeature) (test : Bool)
        → rests_cost cost sources place ps (put before f fs) ≡ rest_cost cost sources place ps f + rests_cost cost sources place ps fs
        → rests_cost cost sources place ps (if test then g ∷ put before f fs else f ∷ g ∷ fs)
        ≡ rest_cost cost sources place ps f + (rest_cost cost sources place ps g + rests_cost cost sources place ps fs)
    rests_where f g fs true later = omega (arith, later)
    rests_where f g fs false later = refl

    rests_put : (f : LayerFeature) (fs : List LayerFeature)
        → rests_cost cost sources place ps (put before f fs) ≡ rest_cost cost sources place ps f + rests_cost cost sources place ps fs
    rests_put f [] = refl
    rests_put f (g ∷ fs) = rests_where f g fs (before g f) (rests_put f fs)

    pub rests_in_order : (fs : List LayerFeature)
        → rests_cost cost sources place ps (in_order before fs) ≡ rests_cost cost sources place ps fs
    rests_in_order [] = refl
    rests_in_order (f ∷ fs) = rests_put f (in_order before fs) ∙ ap (λ n. rest_cost cost sources place ps f + n) (rests_in_order fs)

  -- ---- the value at a place, and the others

  abbrev cost_of_one : Option Property → ℕ
  cost_of_one (Some p) = if p.is_per_feature then value_cost cost sources p else 0
  cost_of_one None = 0

  split_at : (f : LayerFeature) (ps : List Property) (place : ℕ) (p : Property) → slice_get ps place ≡ Some p → p.is_per_feature ≡ true
      → values_cost cost sources (Some f) ps ≡ value_cost cost sources p
      + (values_cost cost sources (Some f) (take place ps) + values_cost cost sources (Some f) (drop (suc place) ps))
  split_at f [] place p is own = absurd (cc)
  split_at f (q ∷ ps) zero p is own =
      let here : (if q.is_per_feature then value_cost cost sources q else 0) ≡ value_cost cost sources p =
      ap cost_of_one is ∙ ap (λ b. if b then value_cost cost sources p else 0) own in
      omega (arith, here)
  split_at f (q ∷ ps) (suc i) p is own =
      let later = split_at f ps i p is own in omega (arith, later)

  pub split_values : (f : LayerFeature) (ps : List Property) (place : ℕ) (p : Property) → slice_get ps place ≡ Some p
      → p.is_per_feature ≡ true → values_cost cost sources (Some f) ps ≡ value_cost cost sources p + rest_cost cost sources place ps f
  split_values f ps place p is own = split_at f ps place p is own
      ∙ ap (λ n. value_cost cost sources p + (values_cost cost sources (Some f) (take place ps) + values_cost cost sources (Some f) (drop n ps)))
      (sym (add-one place))

  module _ (scene : Scene) (layer : StyleLayer) (s : Source) (place : ℕ)
      (whole : (f : LayerFeature) → values_cost cost sources (Some f) layer.properties
      ≡ cost (Some s) + rest_cost cost sources place layer.properties f) where
    one_more : (f : LayerFeature) (fs : List LayerFeature) (keys each : ℕ) (shown : Bool)
        → keys + rests_cost cost sources place layer.properties fs ≡ each
        → ((own_cost cost sources + (if shown then cost (Some s) else 0)) + keys)
        + rests_cost cost sources place layer.properties (if shown then f ∷ fs else fs)
        ≡ (own_cost cost sources + (if shown then values_cost cost sources (Some f) layer.properties else 0)) + each
    one_more f fs keys each true later = let here = whole f in omega (arith, here, later)
    one_more f fs keys each false later = omega (arith, later)

    -- the keys of all features and the other values of those that pass
    pub keys_and_rests : (nfs : List (ℕ × Feature))
        → keys_cost cost sources scene layer s nfs + rests_cost cost sources place layer.properties (those_shown scene layer nfs)
        ≡ each_cost cost sources scene layer nfs
    keys_and_rests [] = refl
    keys_and_rests (nf ∷ nfs) =
        let f = with_state scene layer nf in
        one_more f (those_shown scene layer nfs) (keys_cost cost sources scene layer s nfs) (each_cost cost sources scene layer nfs)
        (is_shown scene layer f) (keys_and_rests nfs)

  module _ (scene : Scene) (layer : StyleLayer) (s : Source) (place : ℕ) (p : Property)
      (there : slice_get layer.properties place ≡ Some p) (own : p.is_per_feature ≡ true)
      (source : sources (items.Property p.row.number) ≡ Some s) (before : LayerFeature → LayerFeature → Bool) where
    -- the features in order, with the value at a place evaluated first
    pub sorted_cost : (nfs : List (ℕ × Feature))
        → keys_cost cost sources scene layer s nfs
        + rests_cost cost sources place layer.properties (in_order before (those_shown scene layer nfs))
        ≡ each_cost cost sources scene layer nfs
    sorted_cost nfs =
        ap (λ n. keys_cost cost sources scene layer s nfs + n) (rests_in_order place layer.properties before (those_shown scene layer nfs))
        ∙ keys_and_rests scene layer s place
        (λ f. split_values f layer.properties place p there own
        ∙ ap (λ o. cost o + rest_cost cost sources place layer.properties f) source) nfs
