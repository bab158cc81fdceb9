-- A listing asks no cell twice. So the cells that it asks and that are not kept are what it evaluates, each of them
-- once. Source: own.
use Rattle.std.specs.Prelude.{◌≡◌, ◌≢◌, ℕ, ◌+◌, List, [], ◌∷◌, ◌++◌, AllPairs, count_by, length, map, not}
use Rattle.decimal_json.specs.Tree.{Tree}
use Rattle.prop_values.specs.Data.{Data}
use Rattle.style_edits.specs.Layers.{layer_list}
use Rattle.layer_buckets.specs.declared.cell.Cell.{Cell}
use Rattle.style_layout.specs.Forms.{Scene}
use Rattle.style_layout.specs.Shown.{SourceTile}
use Rattle.asked_cells.specs.Asked.{AskedCell, cell_in}
use Rattle.kept_layers.specs.Changes.{nothing_kept}
use Rattle.kept_layers.specs.KeptLayers.{LayerKept, asked_of, evaluations_in, evaluations_of}

-- In each scene, over all tiles and by all values of the global state, no two of the cells that a listing asks of a
-- layer are the same, whatever tree the layer is.
abbrev pub LayersAskNoCellTwice : Type 0
LayersAskNoCellTwice =
    (scene : Scene) (tiles : List SourceTile) (globals : List (List ℕ × Data)) (layer : Tree) →
    AllPairs (λ a b. a.cell ≢ b.cell) (asked_of scene tiles globals layer)

-- So the evaluations that are counted of a layer are the asked cells that are not kept.
abbrev pub EvaluationsCountNewCells : Type 0
EvaluationsCountNewCells =
    (scene : Scene) (tiles : List SourceTile) (globals : List (List ℕ × Data)) (layer : Tree) (kept : LayerKept) →
    evaluations_in scene tiles globals layer kept
    ≡ count_by (λ a. not (kept a.cell)) (asked_of scene tiles globals layer)

module _ (scene : Scene) (tiles : List SourceTile) (globals : List (List ℕ × Data)) where
  -- the cells that a listing asks of a layer that has this number
  abbrev pub layer_cells : ℕ → Tree → List Cell
  layer_cells number layer = map (λ (a : AskedCell). cell_in number a.cell) (asked_of scene tiles globals layer)

  -- of layers whose numbers are this one and those after it
  abbrev pub cells_from : ℕ → List Tree → List Cell
  cells_from number [] = []
  cells_from number (layer ∷ layers) = layer_cells number layer ++ cells_from (number + 1) layers

  -- The cells that a listing of a document asks, in their order. The number of a layer is its place.
  abbrev pub listing_cells : Tree → List Cell
  listing_cells document = cells_from 0 (layer_list document)

-- No two of the cells that a listing of a document asks are the same, whatever tree the document is.
abbrev pub ListingsAskNoCellTwice : Type 0
ListingsAskNoCellTwice =
    (scene : Scene) (tiles : List SourceTile) (globals : List (List ℕ × Data)) (document : Tree) →
    AllPairs (λ a b. a ≢ b) (listing_cells scene tiles globals document)

-- A listing of a document of which nothing is kept, as that of `eval`, makes as many evaluations as it asks cells.
abbrev pub FirstListingsEvaluateAllCells : Type 0
FirstListingsEvaluateAllCells =
    (scene : Scene) (tiles : List SourceTile) (globals : List (List ℕ × Data)) (document : Tree) →
    evaluations_of scene tiles globals (layer_list document) (nothing_kept (layer_list document))
    ≡ length (listing_cells scene tiles globals document)
