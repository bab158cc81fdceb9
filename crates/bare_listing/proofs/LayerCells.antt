-- The cells that a listing asks of a layer are different ones.
use Rattle.std.proofs.Common.{◌≡◌, ◌≢◌, ℕ, ◌+◌, ◌<◌, ◌≤◌, List, [], ◌∷◌, ◌++◌, Bool, true, false, Option, Some, None, refl, sym, ap, ◌∙◌, arith, if◌then◌else◌}
use Rattle.std.specs.List.{AllByRecursion}
use Rattle.tile_reader.specs.declared.tile.Feature.{Feature}
use Rattle.layer_buckets.specs.LaidOut.{item_number, row_of}
use Rattle.layer_buckets.specs.declared.cell.CellItem.{CellItem}
use Rattle.layer_buckets.specs.declared.cell.CellItem.TheVariants as items
use Rattle.listing_text.specs.declared.show.Show.{Show}
use Rattle.listing_text.specs.declared.show.Show.TheVariants.{Plain, Hidden, Unread, OutsideFilter}
use Rattle.style_layout.specs.Forms.{Property, Scene}
use Rattle.style_layout.specs.Layers.{StyleLayer, show_of}
use Rattle.style_layout.specs.Shown.{LayerFeature, SourceTile, is_shown, layer_features, numbered, with_state}
use Rattle.asked_cells.specs.Asked.{AskedCell, LayerCell, asked_by, common_asked, each_asked, feature_asked, feature_number, features_asked, has_own_cells, is_listed, layer_asked, passed_asked, shown_asked, values_asked}
use Rattle.asked_cells.specs.Expressions.{CellExpression, LayerExpressions}
use Rattle.bare_listing.proofs.Pairs.{PairsByRecursion, each_append, each_so, pairs_append}
use Rattle.bare_listing.proofs.RowNumbers.{RiseFrom}

abbrev pub AreOthers : AskedCell → AskedCell → Type 0
AreOthers a b = a.cell ≢ b.cell

-- the number of the feature of a cell counted from 1, and 0 of a cell that has none
abbrev feature_key : AskedCell → ℕ
feature_key a = row_of a.cell.feature

-- the number of the row of a cell counted from 1, and 0 of a filter
abbrev item_key : AskedCell → ℕ
item_key a = item_number a.cell.item

same_feature : (a b : AskedCell) → a.cell ≡ b.cell → feature_key a ≡ feature_key b
same_feature a b same = ap (λ (c : LayerCell). row_of c.feature) same

same_item : (a b : AskedCell) → a.cell ≡ b.cell → item_key a ≡ item_key b
same_item a b same = ap (λ (c : LayerCell). item_number c.item) same

-- ---- the cells of a feature, or of none

abbrev IsOf : (feature least : ℕ) → AskedCell → Type 0
IsOf feature least a = (feature_key a ≡ feature) × (least ≤ item_key a)

-- their items rise from this number on
abbrev AreOf : (feature least : ℕ) → List AskedCell → Type 0
AreOf feature least [] = Unit {0}
AreOf feature least (a ∷ asked) = IsOf feature least a × AreOf feature (item_key a + 1) asked

module _ (feature : ℕ) where
  of_less : (n m : ℕ) (asked : List AskedCell) → m ≤ n → AreOf feature n asked → AreOf feature m asked
  of_less n m [] less h = tt
  of_less n m (a ∷ asked) less h = ((h.0.0, omega (arith, less, h.0.1)), h.1)

  of_each : (n : ℕ) (asked : List AskedCell) → AreOf feature n asked → AllByRecursion (IsOf feature n) asked
  of_each n [] h = tt
  of_each n (a ∷ asked) h = (
    h.0,
    each_so (IsOf feature (item_key a + 1)) (IsOf feature n) (λ b k. (k.0, omega (arith, h.0.1, k.1))) asked (of_each (item_key a + 1) asked h.1),
  )

  of_pairs : (n : ℕ) (asked : List AskedCell) → AreOf feature n asked → PairsByRecursion AreOthers asked
  of_pairs n [] h = tt
  of_pairs n (a ∷ asked) h = (
    each_so (IsOf feature (item_key a + 1)) (AreOthers a) (λ b k same. let i = same_item a b same in omega (arith, k.1, i)) asked
        (of_each (item_key a + 1) asked h.1),
    of_pairs (item_key a + 1) asked h.1,
  )

  of_if : (b : Bool) (n : ℕ) (asked : List AskedCell) → AreOf feature n asked → AreOf feature n (if b then asked else [])
  of_if true n asked h = h
  of_if false n asked h = tt

module _ (x : LayerExpressions) (scene : Scene) where
  -- an item before others
  item_before : (f : Option LayerFeature) (o : Option CellExpression) (item : CellItem) (n : ℕ) (asked : List AskedCell) → n ≤ item_number item
      → AreOf (row_of (feature_number f)) (item_number item + 1) asked → AreOf (row_of (feature_number f)) n (asked_by scene o f item ++ asked)
  item_before f None item n asked least h = of_less (row_of (feature_number f)) (item_number item + 1) n asked (omega (arith, least)) h
  item_before f (Some e) item n asked least h = ((refl, least), h)

  item_if : (b : Bool) (f : Option LayerFeature) (item : CellItem) (n : ℕ) (asked : List AskedCell) → n ≤ item_number item
      → AreOf (row_of (feature_number f)) (item_number item + 1) asked
      → AreOf (row_of (feature_number f)) n ((if b then asked_by scene (x item) f item else []) ++ asked)
  item_if true f item n asked least h = item_before f (x item) item n asked least h
  item_if false f item n asked least h = of_less (row_of (feature_number f)) (item_number item + 1) n asked (omega (arith, least)) h

  values_of : (f : Option LayerFeature) (n : ℕ) (ps : List Property) → RiseFrom n ps
      → AreOf (row_of (feature_number f)) (n + 1) (values_asked x scene f ps)
  values_of f n [] h = tt
  values_of f n (p ∷ ps) h =
      item_if (is_listed f p) f (items.Property p.row.number) (n + 1) (values_asked x scene f ps) (omega (arith, h.0))
      (values_of f (p.row.number + 1) ps h.1)

  module _ (layer : StyleLayer) (rise : RiseFrom 0 layer.properties) where
    -- of a feature the filter is before the values
    feature_cells : (f : LayerFeature) → AreOf (f.number + 1) 0 (feature_asked x scene layer f)
    feature_cells f =
        item_if (has_own_cells (x items.Filter)) (Some f) items.Filter 0 (passed_asked x scene (is_shown scene layer f) f layer.properties)
        (omega arith) (of_if (f.number + 1) (is_shown scene layer f) 1 (values_asked x scene (Some f) layer.properties)
        (values_of (Some f) 0 layer.properties rise))

    -- ---- one feature after another

    abbrev IsAfter : ℕ → AskedCell → Type 0
    IsAfter n a = n < feature_key a

    each_after : (n : ℕ) (fs : List Feature) → AllByRecursion (IsAfter n) (each_asked x scene layer (numbered n fs))
    each_after n [] = tt
    each_after n (f ∷ fs) =
        let g : LayerFeature = with_state scene layer (n, f) in
        each_append (IsAfter n) (feature_asked x scene layer g) (each_asked x scene layer (numbered (n + 1) fs))
        (each_so (IsOf (n + 1) 0) (IsAfter n) (λ a h. omega (arith, h.0)) (feature_asked x scene layer g)
        (of_each (n + 1) 0 (feature_asked x scene layer g) (feature_cells g)))
        (each_so (IsAfter (n + 1)) (IsAfter n) (λ a h. omega (arith, h)) (each_asked x scene layer (numbered (n + 1) fs))
        (each_after (n + 1) fs))

    each_pairs : (n : ℕ) (fs : List Feature) → PairsByRecursion AreOthers (each_asked x scene layer (numbered n fs))
    each_pairs n [] = tt
    each_pairs n (f ∷ fs) =
        let g : LayerFeature = with_state scene layer (n, f) in
        pairs_append AreOthers (IsOf (n + 1) 0) (IsAfter (n + 1))
        (λ a b h k same. let e = same_feature a b same in omega (arith, e, h.0, k))
        (feature_asked x scene layer g) (each_asked x scene layer (numbered (n + 1) fs))
        (of_each (n + 1) 0 (feature_asked x scene layer g) (feature_cells g)) (each_after (n + 1) fs)
        (of_pairs (n + 1) 0 (feature_asked x scene layer g) (feature_cells g)) (each_pairs (n + 1) fs)

    -- ---- the cell of the filter that serves all features is none of a feature's

    abbrev IsCommon : AskedCell → Type 0
    IsCommon a = (feature_key a ≡ 0) × (item_key a ≡ 0)

    common_each : (b : Bool) (o : Option CellExpression) → AllByRecursion IsCommon (if b then [] else asked_by scene o None items.Filter)
    common_each true o = tt
    common_each false None = tt
    common_each false (Some e) = ((refl, refl), tt)

    common_pairs : (b : Bool) (o : Option CellExpression)
        → PairsByRecursion AreOthers (if b then [] else asked_by scene o None items.Filter)
    common_pairs true o = tt
    common_pairs false None = tt
    common_pairs false (Some e) = (tt, tt)

    -- ---- the values of the layer are of no feature, and no filter

    -- a cell without a feature is one of the filter
    abbrev IsOfFeatures : AskedCell → Type 0
    IsOfFeatures a = feature_key a ≡ 0 → item_key a ≡ 0

    module _ (tiles : List SourceTile) where
      common_cells : AllByRecursion IsCommon (common_asked x scene)
      common_cells = common_each (has_own_cells (x items.Filter)) (x items.Filter)

      features_each : AllByRecursion IsOfFeatures (features_asked x scene tiles layer)
      features_each =
          let fs = layer_features tiles layer in
          each_append IsOfFeatures (common_asked x scene) (each_asked x scene layer (numbered 0 fs))
          (each_so IsCommon IsOfFeatures (λ a h none. h.1) (common_asked x scene) common_cells)
          (each_so (IsAfter 0) IsOfFeatures (λ a h none. absurd (omega (arith, h, none))) (each_asked x scene layer (numbered 0 fs)) (each_after 0 fs))

      features_pairs : PairsByRecursion AreOthers (features_asked x scene tiles layer)
      features_pairs =
          let fs = layer_features tiles layer in
          pairs_append AreOthers IsCommon (IsAfter 0) (λ a b h k same. let e = same_feature a b same in omega (arith, e, h.0, k))
          (common_asked x scene) (each_asked x scene layer (numbered 0 fs)) common_cells (each_after 0 fs)
          (common_pairs (has_own_cells (x items.Filter)) (x items.Filter)) (each_pairs 0 fs)

      value_cells : AreOf 0 1 (values_asked x scene None layer.properties)
      value_cells = values_of None 0 layer.properties rise

      value_pairs : PairsByRecursion AreOthers (values_asked x scene None layer.properties)
      value_pairs = of_pairs 0 1 (values_asked x scene None layer.properties) value_cells

      value_apart : (a b : AskedCell) → IsOf 0 1 a → IsOfFeatures b → a.cell ≢ b.cell
      value_apart a b h k same =
          let e = same_feature a b same in
          let i = same_item a b same in
          let filter : item_key b ≡ 0 = k (sym e ∙ h.0) in
          omega (arith, i, filter, h.1)

      shown_pairs : (show : Show) → PairsByRecursion AreOthers (shown_asked x scene tiles show layer)
      shown_pairs Plain =
          pairs_append AreOthers (IsOf 0 1) IsOfFeatures value_apart (values_asked x scene None layer.properties) (features_asked x scene tiles layer)
          (of_each 0 1 (values_asked x scene None layer.properties) value_cells) features_each value_pairs features_pairs
      shown_pairs OutsideFilter = value_pairs
      shown_pairs Hidden = tt
      shown_pairs Unread = tt

      pub layer_pairs : PairsByRecursion AreOthers (layer_asked x scene tiles layer)
      layer_pairs = shown_pairs (show_of scene.zoom layer)
