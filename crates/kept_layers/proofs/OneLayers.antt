-- A layer of a document, and the same layer prepared.
use Rattle.std.proofs.Common.{◌≡◌, ℕ, zero, suc, ◌<◌, List, [], ◌∷◌, length, map, get_or, ap, ◌∙◌, refl, sym, arith}
use Rattle.std.proofs.lemmas.List.{get_or-map, length-map}
use Rattle.decimal_json.specs.Tree.{Tree}
use Rattle.decimal_json.specs.View.{tree_of}
use Rattle.decimal_json.specs.declared.tree.Json.{Json}
use Rattle.prop_values.specs.Data.{Data}
use Rattle.style_layout.proofs.CellLaws.{features_within, outlines_cells}
use Rattle.style_layout.specs.Layers.{StyleLayer}
use Rattle.style_layout.specs.Outlines.{layer_outline}
use Rattle.style_layout.specs.Shown.{SourceTile, layer_features}
use Rattle.style_layout.specs.StyleLayout.{cell_count}
use Rattle.kept_layers.specs.KeptLayers.{outline_of, outlines_of, prepared_layer, prepared_layers}
use Rattle.kept_layers.specs.View.{AreTyped, IsTyped}

pub typed_at : (ts : List Tree) (i : ℕ) (d : Tree) → i < length ts → AreTyped ts → IsTyped (get_or ts i d)
typed_at [] i d within typed = absurd (omega (arith, within))
typed_at (t ∷ ts) zero d within typed = typed.0
typed_at (t ∷ ts) (suc i) d within typed = typed_at ts i d (omega (arith, within)) typed.1

pub tree_at : (layers : List Json) (i : ℕ) (x : Json) (t : Tree) → i < length layers → get_or (map tree_of layers) i t ≡ tree_of (get_or layers i x)
tree_at layers i x t within = get_or-map tree_of layers i x t within

pub prepared_at : (globals : List (List ℕ × Data)) (ts : List Tree) (style : List StyleLayer) (i : ℕ) (t : Tree) (d : StyleLayer) → i < length ts
    → style ≡ prepared_layers globals ts → get_or style i d ≡ prepared_layer globals (get_or ts i t)
prepared_at globals ts style i t d within is =
    ap (λ s. get_or s i d) is ∙ get_or-map (prepared_layer globals) ts i t d within

-- what is prepared of a layer
pub outline_at : (globals : List (List ℕ × Data)) (ts : List Tree) (style : List StyleLayer) (i : ℕ) (t : Tree) (d : StyleLayer) → i < length ts
    → style ≡ outlines_of globals ts → get_or style i d ≡ outline_of globals (get_or ts i t)
outline_at globals ts style i t d within is =
    ap (λ s. get_or s i d) is ∙ get_or-map (outline_of globals) ts i t d within

pub outline_within : (globals : List (List ℕ × Data)) (ts : List Tree) (style : List StyleLayer) (i : ℕ) → i < length ts
    → style ≡ outlines_of globals ts → i < length style
outline_within globals ts style i within is = omega (arith, within, ap length is, length-map ts (outline_of globals))

pub outlines_again : (globals : List (List ℕ × Data)) (ts : List Tree) → map layer_outline (prepared_layers globals ts) ≡ outlines_of globals ts
outlines_again globals [] = refl
outlines_again globals (t ∷ ts) = ap (λ ls. outline_of globals t ∷ ls) (outlines_again globals ts)

-- the cells of what is prepared are those of the layers
pub cells_of_outlines : (tiles : List SourceTile) (globals : List (List ℕ × Data)) (ts : List Tree)
    → cell_count tiles (outlines_of globals ts) ≡ cell_count tiles (prepared_layers globals ts)
cells_of_outlines tiles globals ts =
    ap (cell_count tiles) (sym (outlines_again globals ts)) ∙ outlines_cells tiles (prepared_layers globals ts)

pub within_layers : (layers : List Json) (i : ℕ) → i < length (map tree_of layers) → i < length layers
within_layers layers i within = omega (arith, within, length-map layers tree_of)

-- no layer has more features than all have cells
pub few_at : (tiles : List SourceTile) (ls : List StyleLayer) (i most : ℕ) (d : StyleLayer) → i < length ls → cell_count tiles ls < most
    → length (layer_features tiles (get_or ls i d)) < most
few_at tiles [] i most d within few = absurd (omega (arith, within))
few_at tiles (l ∷ ls) zero most d within few = omega (arith, few, features_within tiles l)
few_at tiles (l ∷ ls) (suc i) most d within few = few_at tiles ls i most d (omega (arith, within)) (omega (arith, few))
