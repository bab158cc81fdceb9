-- A layer is shown as another whose properties are listed as its own, and whose filter lets the same pass.
use Rattle.std.proofs.Common.{◌≡◌, ◌∙◌, ℕ, List, [], ◌∷◌, ◌++◌, map, refl, ap, subst, true, false}
use Rattle.std.specs.List.{AllZip}
use Rattle.std.specs.Prelude.{Bool, not, cond, filter, Option, Some, None, if◌then◌else◌}
use Rattle.std.specs.Str.{bytes_eq}
use Rattle.std.specs.Option.{option_and_then}
use Rattle.fixed_num.specs.Number.{floor_of}
use Rattle.prop_values.specs.Data.{Data}
use Rattle.property_tables.specs.Rows.{RowData}
use Rattle.tile_reader.specs.declared.tile.Feature.{Feature}
use Rattle.eval_face.specs.World.{no_feature}
use Rattle.value_forms.specs.LayerTypes.{is_unread_type}
use Rattle.listing_text.specs.declared.show.Show.{Show}
use Rattle.listing_text.specs.declared.show.Show.TheVariants.{Plain, Hidden, Unread, OutsideFilter}
use Rattle.stable_order.specs.InOrder.{in_order}
use Rattle.stable_order.specs.Keys.{key_before}
use Rattle.style_layout.specs.Forms.{Scene, Property, outcome_of, LayerFilter}
use Rattle.style_layout.specs.Layers.{StyleLayer, layer_properties, feature_properties, sort_row, property_named}
use Rattle.style_layout.specs.Layers.{sort_property, is_hidden, shown_plainly, show_of}
use Rattle.style_layout.specs.Shown.{SourceTile, LayerFeature, numbered, layer_features, zoom_at, world_at, outcome_at}
use Rattle.style_layout.specs.Shown.{listed_value, goes_before, ordered, with_state, is_shown, shown_features}
use Rattle.style_layout.specs.Shown.{feature_out, feature_outs}
use Rattle.style_layout.specs.SortKeys.{key_of}
use Rattle.style_layout.specs.StyleLayout.{values_shown, features_shown, shown_layer, layer_out}
use Rattle.migrate_laws.specs.MigratedLaw.{HasTheSameOutcome, LetsTheSamePass}

pub record IsListedAs (p q : Property) : Type 0 where
  pub row : p.row ≡ q.row
  pub per_feature : p.is_per_feature ≡ q.is_per_feature
  pub outcome : HasTheSameOutcome p q

abbrev pub AreListedAs : List Property → List Property → Type 0
AreListedAs ps qs = AllZip IsListedAs ps qs

pub joined_alike : (ps qs rs ss : List Property) → AreListedAs ps qs → AreListedAs rs ss
    → AreListedAs (ps ++ rs) (qs ++ ss)
joined_alike [] [] rs ss h k = k
joined_alike [] (q ∷ qs) rs ss h k = absurd h
joined_alike (p ∷ ps) [] rs ss h k = absurd h
joined_alike (p ∷ ps) (q ∷ qs) rs ss h k = (h.0, joined_alike ps qs rs ss h.1 k)

kept_if : (b : Bool) (p q : Property) (ps qs : List Property) → IsListedAs p q → AreListedAs ps qs
    → AreListedAs (cond b (p ∷ ps) ps) (cond b (q ∷ qs) qs)
kept_if true p q ps qs h k = (h, k)
kept_if false p q ps qs h k = k

-- the properties that a test of the field takes
abbrev those : (Bool → Bool) → List Property → List Property
those test ps = filter (λ (p : Property). test p.is_per_feature) ps

filtered_alike : (test : Bool → Bool) (ps qs : List Property) → AreListedAs ps qs
    → AreListedAs (those test ps) (those test qs)
filtered_alike test [] [] h = tt
filtered_alike test [] (q ∷ qs) h = absurd h
filtered_alike test (p ∷ ps) [] h = absurd h
filtered_alike test (p ∷ ps) (q ∷ qs) h =
    let rest = filtered_alike test ps qs h.1 in
    let new = cond (test p.is_per_feature) (p ∷ those test ps) (those test ps) in
    let both = kept_if (test p.is_per_feature) p q (those test ps) (those test qs) h.0 rest in
    subst (λ b. AreListedAs new (cond (test b) (q ∷ those test qs) (those test qs))) h.0.per_feature both

-- ---- the property by which features are ordered

abbrev BothAreListed : Option Property → Option Property → Type 0
BothAreListed (Some p) (Some q) = IsListedAs p q
BothAreListed None None = Unit {0}
BothAreListed (Some p) None = ⊥
BothAreListed None (Some q) = ⊥

either : (b : Bool) (p q : Property) (k l : Option Property) → IsListedAs p q → BothAreListed k l
    → BothAreListed (if b then Some p else k) (if b then Some q else l)
either true p q k l h rest = h
either false p q k l h rest = rest

named_alike : (name : List ℕ) (ps qs : List Property) → AreListedAs ps qs
    → BothAreListed (property_named name ps) (property_named name qs)
named_alike name [] [] h = tt
named_alike name [] (q ∷ qs) h = absurd h
named_alike name (p ∷ ps) [] h = absurd h
named_alike name (p ∷ ps) (q ∷ qs) h =
    let rest = named_alike name ps qs h.1 in
    let later = property_named name qs in
    let new = if bytes_eq p.row.name name then Some p else property_named name ps in
    let both = either (bytes_eq p.row.name name) p q (property_named name ps) later h.0 rest in
    subst (λ (r : RowData). BothAreListed new (if bytes_eq r.name name then Some q else later)) h.0.row both

sorting_alike : (row : Option (List ℕ)) (ps qs : List Property) → AreListedAs ps qs
    → BothAreListed
    (option_and_then (λ name. property_named name ps) row) (option_and_then (λ name. property_named name qs) row)
sorting_alike (Some name) ps qs h = named_alike name ps qs h
sorting_alike None ps qs h = tt

-- ---- what is listed

module _ (scene : Scene) where
  outcome_same : (p q : Property) → IsListedAs p q → (f : Feature) (state : List (List ℕ × Data))
      → outcome_at scene p f state ≡ outcome_at scene q f state
  outcome_same p q h f state =
      h.outcome (world_at scene (zoom_at scene.zoom p.row.place) f state)
      ∙ ap (λ (r : RowData). outcome_of q (world_at scene (zoom_at scene.zoom r.place) f state)) h.row

  listed_same : (f : Feature) (state : List (List ℕ × Data)) (ps qs : List Property) → AreListedAs ps qs
      → map (listed_value scene f state) ps ≡ map (listed_value scene f state) qs
  listed_same f state [] [] h = refl
  listed_same f state [] (q ∷ qs) h = absurd h
  listed_same f state (p ∷ ps) [] h = absurd h
  listed_same f state (p ∷ ps) (q ∷ qs) h =
      let row = h.0.row in
      let said = outcome_same p q h.0 f state in
      let rest = listed_same f state ps qs h.1 in
      λ i. record { name = (row i).name; outcome = said i } ∷ rest i

  before_same : (p q : Property) → IsListedAs p q → goes_before scene p ≡ goes_before scene q
  before_same p q h =
      let key = λ (f : LayerFeature). ap key_of (outcome_same p q h f.feature f.state) in
      λ i f g. key_before (key f i) (key g i)

  ordered_same : (k l : Option Property) → BothAreListed k l → (fs : List LayerFeature)
      → ordered scene k fs ≡ ordered scene l fs
  ordered_same (Some p) (Some q) h fs = ap (λ before. in_order before fs) (before_same p q h)
  ordered_same (Some p) None h fs = absurd h
  ordered_same None (Some q) h fs = absurd h
  ordered_same None None h fs = refl

-- ---- layers

module _ (scene : Scene) (tiles : List SourceTile) (layer : StyleLayer) (chosen : LayerFilter)
    (ps : List Property) (pass : LetsTheSamePass chosen layer.filter)
    (alike : AreListedAs ps layer.properties) where
  abbrev new : StyleLayer
  new = record layer { filter = chosen; properties = ps }

  layer_values_same : values_shown scene tiles Plain new ≡ values_shown scene tiles Plain layer
  layer_values_same =
      listed_same scene no_feature [] (layer_properties ps) (layer_properties layer.properties)
      (filtered_alike not ps layer.properties alike)

  values_same : (show : Show) → values_shown scene tiles show new ≡ values_shown scene tiles show layer
  values_same Plain = layer_values_same
  values_same Hidden = refl
  values_same Unread = refl
  values_same OutsideFilter = layer_values_same

  feature_same : feature_out scene new ≡ feature_out scene layer
  feature_same =
      let these = filtered_alike (λ b. b) ps layer.properties alike in
      λ i f. record {
        number = f.number;
        id = f.feature.id;
        shape = f.feature.shape;
        values = listed_same scene f.feature f.state (feature_properties ps) (feature_properties layer.properties) these i;
      }

  passing_same : shown_features scene new tiles ≡ shown_features scene layer tiles
  passing_same =
      let all = map (with_state scene layer) (numbered 0 (layer_features tiles layer)) in
      let shown : is_shown scene new ≡ is_shown scene layer =
      λ i f. pass.passes (world_at scene (floor_of scene.zoom) f.feature f.state) i in
      ap (λ test. filter test all) shown

  outs_same : feature_outs scene new tiles ≡ feature_outs scene layer tiles
  outs_same =
      let key = sort_property layer.type ps in
      let old_key = sort_property layer.type layer.properties in
      let left = shown_features scene layer tiles in
      let keys = sorting_alike (sort_row layer.type) ps layer.properties alike in
      ap (λ fs. map (feature_out scene new) (ordered scene key fs)) passing_same
      ∙ (ap (map (feature_out scene new)) (ordered_same scene key old_key keys left)
      ∙ ap (λ made. map made (ordered scene old_key left)) feature_same)

  shown_features_same : (show : Show) → features_shown scene tiles show new ≡ features_shown scene tiles show layer
  shown_features_same Plain = outs_same
  shown_features_same Hidden = refl
  shown_features_same Unread = refl
  shown_features_same OutsideFilter = refl

  shown_same : (show : Show) → shown_layer scene tiles show new ≡ shown_layer scene tiles show layer
  shown_same show =
      let values = values_same show in
      let features = shown_features_same show in
      λ i. record {
        id = layer.id;
        layer_type = layer.type;
        show = show;
        values = values i;
        features = features i;
      }

  show_same : show_of scene.zoom new ≡ show_of scene.zoom layer
  show_same =
      ap (λ outside.
      if is_hidden scene.zoom layer then Hidden else
      if is_unread_type layer.type then Unread else
      shown_plainly layer.type outside) pass.outside

  pub layer_same : layer_out scene tiles new ≡ layer_out scene tiles layer
  layer_same = ap (λ show. shown_layer scene tiles show new) show_same ∙ shown_same (show_of scene.zoom layer)
