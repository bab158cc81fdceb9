-- What the expressions of the cells that a listing asks of a layer give is what the cells mean.
use Rattle.std.proofs.Common.{◌≡◌, ℕ, suc, ◌+◌, List, [], ◌∷◌, ◌++◌, Bool, true, false, Option, Some, None, option_map, refl, sym, ap, ◌∙◌, arith, if◌then◌else◌}
use Rattle.std.specs.List.{slice_get}
use Rattle.tile_reader.specs.declared.tile.Feature.{Feature}
use Rattle.operator_values.specs.Evaluated.{Evaluated}
use Rattle.layer_buckets.specs.declared.cell.CellItem.{CellItem}
use Rattle.layer_buckets.specs.declared.cell.CellItem.TheVariants as items
use Rattle.listing_text.specs.declared.show.Show.{Show}
use Rattle.listing_text.specs.declared.show.Show.TheVariants.{Plain, Hidden, Unread, OutsideFilter}
use Rattle.style_layout.specs.Forms.{Property, Scene}
use Rattle.style_layout.specs.Layers.{StyleLayer, show_of}
use Rattle.style_layout.specs.Shown.{LayerFeature, SourceTile, is_shown, layer_features, numbered, with_state}
use Rattle.asked_cells.specs.Asked.{AskedCell, LayerCell, asked_by, common_asked, each_asked, feature_asked, feature_at, feature_number, features_asked, filter_asked, given_by, has_own_cells, is_listed, item_asked, layer_asked, meaning, meaning_by, own_filter_asked, passed_asked, shown_asked, values_asked}
use Rattle.asked_cells.specs.Counted.{AreMeant}
use Rattle.asked_cells.specs.Expressions.{CellExpression, LayerExpressions}

-- ---- lists of asked cells

module _ (means : LayerCell → Evaluated) where
  both_meant : (xs ys : List AskedCell) → AreMeant means xs → AreMeant means ys → AreMeant means (xs ++ ys)
  both_meant [] ys m n = n
  both_meant (x ∷ xs) ys m n = (m.0, both_meant xs ys m.1 n)

  meant_if : (b : Bool) (xs : List AskedCell) → AreMeant means xs → AreMeant means (if b then xs else [])
  meant_if true xs m = m
  meant_if false xs m = tt

  meant_unless : (b : Bool) (xs : List AskedCell) → AreMeant means xs → AreMeant means (if b then [] else xs)
  meant_unless true xs m = tt
  meant_unless false xs m = m

-- ---- numbered features

-- each has its number in a list
abbrev AreNumberedIn : List Feature → List (ℕ × Feature) → Type 0
AreNumberedIn all [] = Unit {0}
AreNumberedIn all (nf ∷ nfs) = (slice_get all nf.0 ≡ Some nf.1) × AreNumberedIn all nfs

numbered_from : (all : List Feature) (n : ℕ) (fs : List Feature) → ((k : ℕ) → slice_get all (n + k) ≡ slice_get fs k)
    → AreNumberedIn all (numbered n fs)
numbered_from all n [] same = tt
numbered_from all n (f ∷ fs) same =
    let here : n ≡ n + 0 = omega arith in
    let next : (k : ℕ) → (n + 1) + k ≡ n + suc k = λ k. omega arith in
    (ap (slice_get all) here ∙ same 0, numbered_from all (n + 1) fs (λ k. ap (slice_get all) (next k) ∙ same (suc k)))

-- ---- a layer

module _ (expressions : LayerExpressions) (scene : Scene) (tiles : List SourceTile) (layer : StyleLayer) where
  abbrev means : LayerCell → Evaluated
  means = meaning scene tiles layer expressions

  -- the feature of a cell is the one that has its number
  abbrev IsNumbered : Option LayerFeature → Type 0
  IsNumbered feature = feature_at scene tiles layer (feature_number feature) ≡ feature

  meant_by : (o : Option CellExpression) (feature : Option LayerFeature) (item : CellItem) → expressions item ≡ o → IsNumbered feature
      → AreMeant means (asked_by scene o feature item)
  meant_by None feature item is here = tt
  meant_by (Some e) feature item is here = (
    sym (ap (λ o. meaning_by scene o (feature_at scene tiles layer (feature_number feature))) is ∙ ap (given_by scene e) here),
    tt,
  )

  item_meant : (feature : Option LayerFeature) (item : CellItem) → IsNumbered feature
      → AreMeant means (item_asked expressions scene feature item)
  item_meant feature item here = meant_by (expressions item) feature item refl here

  values_meant : (feature : Option LayerFeature) (ps : List Property) → IsNumbered feature
      → AreMeant means (values_asked expressions scene feature ps)
  values_meant feature [] here = tt
  values_meant feature (p ∷ ps) here =
      let item = items.Property p.row.number in
      both_meant means (if is_listed feature p then item_asked expressions scene feature item else []) (values_asked expressions scene feature ps)
      (meant_if means (is_listed feature p) (item_asked expressions scene feature item) (item_meant feature item here))
      (values_meant feature ps here)

  feature_meant : (f : LayerFeature) → IsNumbered (Some f) → AreMeant means (feature_asked expressions scene layer f)
  feature_meant f here =
      both_meant means (own_filter_asked expressions scene f)
      (passed_asked expressions scene (is_shown scene layer f) f layer.properties)
      (meant_if means (has_own_cells (expressions items.Filter)) (filter_asked expressions scene (Some f))
      (item_meant (Some f) items.Filter here))
      (meant_if means (is_shown scene layer f) (values_asked expressions scene (Some f) layer.properties)
      (values_meant (Some f) layer.properties here))

  each_meant : (nfs : List (ℕ × Feature)) → AreNumberedIn (layer_features tiles layer) nfs
      → AreMeant means (each_asked expressions scene layer nfs)
  each_meant [] here = tt
  each_meant (nf ∷ nfs) here =
      both_meant means (feature_asked expressions scene layer (with_state scene layer nf)) (each_asked expressions scene layer nfs)
      (feature_meant (with_state scene layer nf) (ap (option_map (λ (f : Feature). with_state scene layer (nf.0, f))) here.0))
      (each_meant nfs here.1)

  features_meant : AreMeant means (features_asked expressions scene tiles layer)
  features_meant =
      let all = layer_features tiles layer in
      let first : (k : ℕ) → 0 + k ≡ k = λ k. omega arith in
      both_meant means (common_asked expressions scene) (each_asked expressions scene layer (numbered 0 all))
      (meant_unless means (has_own_cells (expressions items.Filter)) (filter_asked expressions scene None)
      (item_meant None items.Filter refl))
      (each_meant (numbered 0 all) (numbered_from all 0 all (λ k. ap (slice_get all) (first k))))

  shown_meant : (show : Show) → AreMeant means (shown_asked expressions scene tiles show layer)
  shown_meant Plain = both_meant means (values_asked expressions scene None layer.properties) (features_asked expressions scene tiles layer)
      (values_meant None layer.properties refl) features_meant
  shown_meant OutsideFilter = values_meant None layer.properties refl
  shown_meant Hidden = tt
  shown_meant Unread = tt

  -- In every scene, what the expressions of the asked cells give is what the cells mean.
  pub all_meant : AreMeant means (layer_asked expressions scene tiles layer)
  all_meant = shown_meant (show_of scene.zoom layer)
