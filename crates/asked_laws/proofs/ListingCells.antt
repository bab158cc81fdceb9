-- The cells that a listing asks of all layers are different ones.
use Rattle.std.proofs.Common.{◌≡◌, ◌≢◌, ℕ, ◌+◌, ◌≤◌, List, [], ◌∷◌, length, map, refl, ap, ◌∙◌, arith}
use Rattle.std.specs.List.{AllByRecursion}
use Rattle.std.proofs.lemmas.List.{length-append, length-map}
use Rattle.decimal_json.specs.Tree.{Tree}
use Rattle.prop_values.specs.Data.{Data}
use Rattle.style_edits.specs.Layers.{layer_list}
use Rattle.layer_buckets.specs.declared.cell.Cell.{Cell}
use Rattle.style_layout.specs.Forms.{Scene}
use Rattle.style_layout.specs.Shown.{SourceTile}
use Rattle.asked_cells.specs.Asked.{AskedCell, LayerCell, cell_in}
use Rattle.kept_layers.specs.Changes.{nothing_kept}
use Rattle.kept_layers.specs.KeptLayers.{asked_of, evaluations_of, layer_expressions, none_kept, prepared_layer, type_of}
use Rattle.asked_laws.specs.AskedLaw.{FirstListingsEvaluateAllCells, ListingsAskNoCellTwice, cells_from, layer_cells}
use Rattle.asked_laws.proofs.LayerCells.{all_counted, evaluations_are_counted}
use Rattle.bare_listing.proofs.LayerCells.{AreOthers, layer_pairs}
use Rattle.bare_listing.proofs.Pairs.{PairsByRecursion, each_append, each_so, pairs_all, pairs_append, pairs_map}
use Rattle.bare_listing.proofs.RowNumbers.{properties_rise}

abbrev AreOtherCells : Cell → Cell → Type 0
AreOtherCells a b = a ≢ b

abbrev in_layer : Cell → LayerCell
in_layer c = record { feature = c.feature; item = c.item }

abbrev IsOfLayer : ℕ → Cell → Type 0
IsOfLayer n c = c.layer ≡ n

abbrev IsOfLater : ℕ → Cell → Type 0
IsOfLater n c = n ≤ c.layer

module _ (scene : Scene) (tiles : List SourceTile) (globals : List (List ℕ × Data)) where
  of_layer : (n : ℕ) (asked : List AskedCell) → AllByRecursion (IsOfLayer n) (map (λ (a : AskedCell). cell_in n a.cell) asked)
  of_layer n [] = tt
  of_layer n (a ∷ asked) = (refl, of_layer n asked)

  of_later : (n : ℕ) (ts : List Tree) → AllByRecursion (IsOfLater n) (cells_from scene tiles globals n ts)
  of_later n [] = tt
  of_later n (t ∷ ts) =
      each_append (IsOfLater n) (layer_cells scene tiles globals n t) (cells_from scene tiles globals (n + 1) ts)
      (each_so (IsOfLayer n) (IsOfLater n) (λ c h. omega (arith, h)) (layer_cells scene tiles globals n t) (of_layer n (asked_of scene tiles globals t)))
      (each_so (IsOfLater (n + 1)) (IsOfLater n) (λ c h. omega (arith, h)) (cells_from scene tiles globals (n + 1) ts) (of_later (n + 1) ts))

  one_layer : (n : ℕ) (t : Tree) → PairsByRecursion AreOtherCells (layer_cells scene tiles globals n t)
  one_layer n t =
      pairs_map (λ (a : AskedCell). cell_in n a.cell) AreOthers AreOtherCells (λ a b other same. other (ap in_layer same))
      (asked_of scene tiles globals t)
      (layer_pairs (layer_expressions globals t) scene (prepared_layer globals t) (properties_rise globals (type_of t) t) tiles)

  all_layers : (n : ℕ) (ts : List Tree) → PairsByRecursion AreOtherCells (cells_from scene tiles globals n ts)
  all_layers n [] = tt
  all_layers n (t ∷ ts) =
      pairs_append AreOtherCells (IsOfLayer n) (IsOfLater (n + 1))
      (λ a b h k same. let e : a.layer ≡ b.layer = ap (λ (c : Cell). c.layer) same in omega (arith, e, h, k))
      (layer_cells scene tiles globals n t) (cells_from scene tiles globals (n + 1) ts)
      (of_layer n (asked_of scene tiles globals t)) (of_later (n + 1) ts) (one_layer n t) (all_layers (n + 1) ts)

  -- ---- the evaluations of a listing of which nothing is kept

  evaluated_from : (n : ℕ) (ts : List Tree)
      → evaluations_of scene tiles globals ts (nothing_kept ts) ≡ length (cells_from scene tiles globals n ts)
  evaluated_from n [] = refl
  evaluated_from n (t ∷ ts) =
      let first = evaluations_are_counted scene tiles globals t none_kept ∙ all_counted (asked_of scene tiles globals t) in
      let rest = evaluated_from (n + 1) ts in
      let both = length-append (layer_cells scene tiles globals n t) (cells_from scene tiles globals (n + 1) ts) in
      let as_many = length-map (asked_of scene tiles globals t) (λ (a : AskedCell). cell_in n a.cell) in
      omega (arith, first, rest, both, as_many)

pub listings_ask_once : ListingsAskNoCellTwice
listings_ask_once scene tiles globals document =
    pairs_all AreOtherCells (cells_from scene tiles globals 0 (layer_list document))
    (all_layers scene tiles globals 0 (layer_list document))

pub all_evaluated : FirstListingsEvaluateAllCells
all_evaluated scene tiles globals document = evaluated_from scene tiles globals 0 (layer_list document)
