-- Counts that stop at a greatest number.
use Rattle.std.proofs.Common.{◌≡◌, ◌∙◌, ℕ, suc, ◌+◌, ◌*◌, ◌<◌, ◌≤◌, ◌++◌, min, List, [], ◌∷◌, length, get_or, drop, map, refl, sym, ap, arith, inl, inr, true, false}
use Rattle.std.specs.Prelude.{Bool, flat_map, if◌then◌else◌}
use Rattle.std.proofs.lemmas.Bool.{cases_lt}
use Rattle.std.proofs.lemmas.List.{drop_more, length-append}
use Rattle.std.proofs.Math.Nat.{le-mul_of_pos_right, min-eq_left}
use Rattle.tile_reader.specs.declared.tile.Feature.{Feature}
use Rattle.style_layout.specs.CodeView.{tile_seen}
use Rattle.style_layout.specs.declared.scene.SourceTile.{SourceTile as Handed}
use Rattle.style_layout.specs.Forms.{Property}
use Rattle.style_layout.specs.Layers.{StyleLayer, feature_properties}
use Rattle.style_layout.specs.Outlines.{layer_outline, property_outline}
use Rattle.style_layout.specs.Shown.{SourceTile, layer_features, tile_features}
use Rattle.style_layout.specs.StyleLayout.{cell_count, layer_cells}

pub sum_saturates : (a b c most : ℕ) → min (min (a + min b most) most + c) most ≡ min (a + (b + c)) most
sum_saturates a b c most = omega arith

at_most : (a most : ℕ) → most ≤ a → min a most ≡ most
at_most a most h = omega (arith, h)

product_over : (a b most : ℕ) → most ≤ a → min (a * (1 + b)) most ≡ most
product_over a b most h =
    let grows : a ≤ a * (1 + b) = le-mul_of_pos_right a (omega arith) in
    at_most (a * (1 + b)) most (omega (arith, grows, h))

pub product_saturates : (a b most : ℕ) → min (min a most * (1 + b)) most ≡ min (a * (1 + b)) most
product_saturates a b most = elim (cases_lt most a) [
  | inl over ↦
      ap (λ m. min (m * (1 + b)) most) (at_most a most (omega (arith, over)))
      ∙ (product_over most b most (omega arith) ∙ sym (product_over a b most (omega (arith, over))))
  | inr within ↦ ap (λ m. min (m * (1 + b)) most) (min-eq_left within)
]

pub features_within : (tiles : List SourceTile) (layer : StyleLayer) → length (layer_features tiles layer) ≤ layer_cells tiles layer
features_within tiles layer = le-mul_of_pos_right (length (layer_features tiles layer)) (omega arith)

-- a count that was not stopped
pub most_is_kept : (a most : ℕ) → a ≤ most → min (a + 0) most ≡ a
most_is_kept a most h = omega (arith, h)

-- one tile more
module _ (layer : StyleLayer) (ts : List Handed) (i : ℕ) (t : Handed) (below : i < length ts) (is : t ≡ get_or ts i t) where
  abbrev counted_from : ℕ → ℕ
  counted_from k = length (flat_map (tile_features layer) (map tile_seen (drop k ts)))

  pub tile_counted : (n most : ℕ) (found : List Feature) → found ≡ tile_features layer (tile_seen t)
      → min (min (n + length found) most + counted_from (i + 1)) most ≡ min (n + counted_from i) most
  tile_counted n most found same =
      let here = tile_features layer (tile_seen t) in
      let later = flat_map (tile_features layer) (map tile_seen (drop (i + 1) ts)) in
      let split : flat_map (tile_features layer) (map tile_seen (drop i ts)) ≡ here ++ later =
      ap (λ xs. flat_map (tile_features layer) (map tile_seen xs)) (drop_more ts i t below)
      ∙ ap (λ x. tile_features layer (tile_seen x) ++ later) (sym is) in
      let counts : counted_from i ≡ length here + counted_from (i + 1) = ap length split ∙ length-append here later in
      let found_count : length found ≡ length here = ap length same in
      omega (arith, counts, found_count)

-- ---- the cells of outlines are those of the layers

listed_of : (ps : List Property) → length (feature_properties (map property_outline ps)) ≡ length (feature_properties ps)
listed_of [] = refl
listed_of (p ∷ ps) = if_listed p.is_per_feature p ps (listed_of ps) where
  if_listed : (b : Bool) (p : Property) (ps : List Property) → length (feature_properties (map property_outline ps)) ≡ length (feature_properties ps)
      → length (if b then property_outline p ∷ feature_properties (map property_outline ps) else feature_properties (map property_outline ps))
      ≡ length (if b then p ∷ feature_properties ps else feature_properties ps)
  if_listed true p ps same = ap suc same
  if_listed false p ps same = same

pub outline_cells : (tiles : List SourceTile) (layer : StyleLayer) → layer_cells tiles (layer_outline layer) ≡ layer_cells tiles layer
outline_cells tiles layer = ap (λ n. length (layer_features tiles layer) * (1 + n)) (listed_of layer.properties)

pub outlines_cells : (tiles : List SourceTile) (layers : List StyleLayer) → cell_count tiles (map layer_outline layers) ≡ cell_count tiles layers
outlines_cells tiles [] = refl
outlines_cells tiles (layer ∷ layers) =
    ap (λ n. n + cell_count tiles (map layer_outline layers)) (outline_cells tiles layer)
    ∙ ap (λ n. layer_cells tiles layer + n) (outlines_cells tiles layers)
