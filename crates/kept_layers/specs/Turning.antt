-- What is made of the items of one layer where the values of the global state are others, or a feature's state is.
-- Source: own.
use Rattle.std.specs.Prelude.{◌≡◌, ℕ, List, Bool, false, Option, Some, None, if◌then◌else◌}
use Rattle.feature_index.specs.Ids.{is_among}
use Rattle.operator_values.specs.Evaluated.{Evaluated}
use Rattle.expr_nodes.specs.Evaluators.{Sized}
use Rattle.layer_buckets.specs.Seen.{evaluator_of, source_of}
use Rattle.layer_buckets.specs.declared.buckets.Buckets.{Buckets}
use Rattle.layer_buckets.specs.declared.cell.CellItem.{CellItem}
use Rattle.asked_cells.specs.Counted.{kept_in}
use Rattle.asked_cells.specs.Expressions.{CellExpression, IsSourced}
use Rattle.cell_sources.specs.CellLaws.{DifferByGlobals, reads_globals}

-- the feature of a cell has one of these numbers
abbrev pub is_listed : List ℕ → Option ℕ → Bool
is_listed ns (Some n) = is_among n ns
is_listed ns None = false

module _ {E : Type 0} where
  -- what is kept of an item of a layer for a feature, or for all
  abbrev pub kept_of_item : Buckets E → ℕ → CellItem → Option ℕ → Option Evaluated
  kept_of_item b layer item feature = kept_in b layer (record { feature = feature; item = item })

  -- an item has the source that it had, and its cells are kept as they were
  pub record LeavesItem (layer : ℕ) (item : CellItem) (old new : Buckets E) : Type 0 where
    pub source : source_of new layer item ≡ source_of old layer item
    pub kept : (feature : Option ℕ) → kept_of_item new layer item feature ≡ kept_of_item old layer item feature

  module _ (slots : E → List Sized) (layer : ℕ) (item : CellItem) where
    -- An item has the source of its expression, and its cells are dropped where the expression that it had before
    -- reads the global state.
    pub record IsTurned (before after : Option CellExpression) (old new : Buckets E) : Type 0 where
      pub source : IsSourced (slots (evaluator_of new)) item after (source_of new layer item)
      pub kept : (feature : Option ℕ) → kept_of_item new layer item feature
          ≡ (if reads_globals before then None else kept_of_item old layer item feature)

    -- So it is whatever expression it had before, if that differs by the global state alone.
    abbrev pub TurnsItem : Option CellExpression → Buckets E → Buckets E → Type 0
    TurnsItem after old new = (before : Option CellExpression) → DifferByGlobals after before
        → IsSourced (slots (evaluator_of old)) item before (source_of old layer item)
        → IsTurned before after old new
