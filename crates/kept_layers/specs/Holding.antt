-- What holds of the kept cells of a style: each layer has its sources and its features, and what is kept is right.
use Rattle.std.specs.Prelude.{◌≡◌, ◌≢◌, ℕ, List, [], ◌∷◌, length, map, true, false, Some, None, is_some}
use Rattle.decimal_json.specs.Tree.{Tree}
use Rattle.prop_values.specs.Data.{Data}
use Rattle.expr_nodes.specs.Evaluators.{Sized}
use Rattle.layer_buckets.specs.Cells.{reads_globals, reads_state}
use Rattle.layer_buckets.specs.Seen.{evaluator_of, features_of, source_of}
use Rattle.layer_buckets.specs.declared.buckets.Buckets.{Buckets}
use Rattle.layer_buckets.specs.declared.cell.CellItem.{CellItem}
use Rattle.style_layout.specs.Forms.{Scene}
use Rattle.style_layout.specs.Shown.{SourceTile, layer_features}
use Rattle.asked_cells.specs.Asked.{LayerCell, meaning}
use Rattle.asked_cells.specs.Counted.{AreRight, is_kept, kept_in}
use Rattle.asked_cells.specs.Expressions.{HasExpressions}
use Rattle.kept_layers.specs.KeptLayers.{LayerKept, StyleKept, layer_expressions, prepared_layer, type_of}

-- ---- lists

-- two lists are of one length, and their elements are related pair by pair
abbrev pub Pairwise : {A B : Type 0} → (A → B → Type 0) → List A → List B → Type 0
Pairwise P [] [] = Unit {0}
Pairwise P (a ∷ xs) (b ∷ ys) = P a b × Pairwise P xs ys
Pairwise P [] (b ∷ ys) = ⊥
Pairwise P (a ∷ xs) [] = ⊥

-- ---- numbers of layers

abbrev pub IsOther : ℕ → List ℕ → Type 0
IsOther n [] = Unit {0}
IsOther n (m ∷ ms) = (n ≢ m) × IsOther n ms

-- no number is there twice
abbrev pub AreApart : List ℕ → Type 0
AreApart [] = Unit {0}
AreApart (n ∷ ns) = IsOther n ns × AreApart ns

module _ {E : Type 0} where
  -- a layer that is not there has no sources, and nothing is kept of it
  pub record IsBare (b : Buckets E) (layer : ℕ) : Type 0 where
    pub sources : (item : CellItem) → source_of b layer item ≡ None
    pub kept : (c : LayerCell) → kept_in b layer c ≡ None

  abbrev pub AbsentAreBare : Buckets E → Type 0
  AbsentAreBare b = (layer : ℕ) → features_of b layer ≡ None → IsBare b layer

  -- no expression was read by the values of the global state
  abbrev pub NoneReadsGlobals : Buckets E → Type 0
  NoneReadsGlobals b = (layer : ℕ) (item : CellItem) → reads_globals (source_of b layer item) ≡ false

  -- no expression of a layer reads a feature's state
  abbrev pub ReadsNoState : Buckets E → ℕ → Type 0
  ReadsNoState b layer = (item : CellItem) → reads_state (source_of b layer item) ≡ false

  -- layers, sources and expressions are as they were
  pub record Still (old new : Buckets E) : Type 0 where
    pub evaluator : evaluator_of new ≡ evaluator_of old
    pub source : (l : ℕ) (item : CellItem) → source_of new l item ≡ source_of old l item
    pub features : (l : ℕ) → features_of new l ≡ features_of old l

  -- the layers of these numbers are there
  abbrev pub AreThere : Buckets E → List ℕ → Type 0
  AreThere b [] = Unit {0}
  AreThere b (n ∷ ns) = (is_some (features_of b n) ≡ true) × AreThere b ns

  -- which cells of the layers of these numbers are kept
  abbrev pub kept_of : Buckets E → ℕ → LayerKept
  kept_of b n c = is_kept (kept_in b n) c

  abbrev pub style_kept : Buckets E → List ℕ → StyleKept
  style_kept b ns = map (kept_of b) ns

  module _ (slots : E → List Sized) (tiles : List SourceTile) (globals : List (List ℕ × Data)) (b : Buckets E) where
    -- the layer of a number is this one of a document
    pub record HasLayer (n : ℕ) (t : Tree) : Type 0 where
      pub sources : HasExpressions slots n (layer_expressions globals t) b
      pub features : features_of b n ≡ Some (length (layer_features tiles (prepared_layer globals t)))

    -- The layers of these numbers are those of a document, in their order.
    abbrev pub AreHeld : List ℕ → List Tree → Type 0
    AreHeld = Pairwise HasLayer

    -- what is kept of a layer is what its cells mean in a scene
    abbrev pub IsRight : Scene → ℕ → Tree → Type 0
    IsRight scene n t = AreRight (meaning scene tiles (prepared_layer globals t) (layer_expressions globals t))
        (kept_in b n)

    -- So it is with each layer.
    abbrev pub AreRightIn : Scene → List ℕ → List Tree → Type 0
    AreRightIn scene = Pairwise (IsRight scene)

-- The item of a layer alone is another: the others have the expressions that they had, and the layer has its type and
-- its source.
pub record ChangesItem (globals : List (List ℕ × Data)) (item : CellItem) (old new : Tree) : Type 0 where
  pub others : (other : CellItem) → item ≢ other
      → layer_expressions globals new other ≡ layer_expressions globals old other
  pub type : type_of new ≡ type_of old
  pub source : (prepared_layer globals new).source ≡ (prepared_layer globals old).source
  pub source_layer : (prepared_layer globals new).source_layer ≡ (prepared_layer globals old).source_layer
