-- What changes and what stays where a layer or an item gets its sources. Source: own.
use Rattle.std.specs.Prelude.{◌≡◌, ◌≢◌, ℕ, ◌<◌, ◌≤◌, List, ◌++◌, false, Option, Some, None, option_map}
use Rattle.operator_values.specs.Evaluated.{Evaluated}
use Rattle.expr_nodes.specs.Evaluators.{Sized}
use Rattle.layer_buckets.specs.Cells.{is_item}
use Rattle.layer_buckets.specs.Seen.{evaluator_of, features_of, kept_at, source_of}
use Rattle.layer_buckets.specs.Slotted.{slotted}
use Rattle.layer_buckets.specs.declared.buckets.Buckets.{Buckets}
use Rattle.layer_buckets.specs.declared.cell.Cell.{Cell}
use Rattle.layer_buckets.specs.declared.cell.CellItem.{CellItem}
use Rattle.layer_buckets.specs.declared.cell.CellItem.TheVariants as items
use Rattle.layer_buckets.specs.declared.cell.Source.{Source}
use Rattle.asked_cells.specs.Expressions.{CellExpression, IsSourced, LayerExpressions, source_with}

-- a list begins with another
abbrev pub IsLonger : {A : Type 0} → List A → List A → Type 0
IsLonger {A} old new = (more : List A) × (new ≡ old ++ more)

-- Other layers, and the expressions that the evaluator had, are as they were.
pub record LeavesOthers {E : Type 0} (slots : E → List Sized) (layer : ℕ) (old new : Buckets E) : Type 0 where
  pub features : (l : ℕ) → features_of new l ≡ features_of old l
  pub source : (l : ℕ) (item : CellItem) → layer ≢ l → source_of new l item ≡ source_of old l item
  pub kept : (cell : Cell) → layer ≢ cell.layer → kept_at new cell ≡ kept_at old cell
  pub expressions : IsLonger (slots (evaluator_of old)) (slots (evaluator_of new))

-- An item of a layer has the source of its expression, which comes after those that the evaluator had, and the other
-- items have theirs.
pub record SetsItem {E : Type 0} (slots : E → List Sized) (layer : ℕ) (item : CellItem)
    (expression : Option CellExpression) (old new : Buckets E) : Type 0 where
  pub own : IsSourced (slots (evaluator_of new)) item expression (source_of new layer item)
  pub others : (other : CellItem) → item ≢ other → source_of new layer other ≡ source_of old layer other

-- What is kept was kept before, with the same value.
abbrev pub KeepsNoMore : {E : Type 0} → Buckets E → Buckets E → Type 0
KeepsNoMore old new = (cell : Cell) (value : Evaluated) → kept_at new cell ≡ Some value → kept_at old cell ≡ Some value

-- Values of an item may have been dropped, and every other cell is kept as it was.
pub record KeepsOthers {E : Type 0} (layer : ℕ) (item : CellItem) (old new : Buckets E) : Type 0 where
  pub own : KeepsNoMore old new
  pub others : (cell : Cell) → is_item layer item cell.layer cell.item ≡ false → kept_at new cell ≡ kept_at old cell

-- ---- sources whose expressions are put anew

-- a source without its number in the evaluator
abbrev pub numberless : Option Source → Option Source
numberless source = slotted 0 source

-- An item has the source of its expression, whatever its number.
abbrev pub IsSourceOf : CellItem → Option CellExpression → Option Source → Type 0
IsSourceOf item expression source = numberless source ≡ option_map (source_with 0 item) expression

-- So it is with each item of a layer.
abbrev pub HasSources : {E : Type 0} → ℕ → LayerExpressions → Buckets E → Type 0
HasSources number expressions b = (item : CellItem) → IsSourceOf item (expressions item) (source_of b number item)

-- Layers, what is kept and the sources are as they were, but for the numbers of sources.
pub record KeepsSources {E : Type 0} (old new : Buckets E) : Type 0 where
  pub features : (l : ℕ) → features_of new l ≡ features_of old l
  pub kept : (cell : Cell) → kept_at new cell ≡ kept_at old cell
  pub source : (l : ℕ) (item : CellItem) → numberless (source_of new l item) ≡ numberless (source_of old l item)

-- Other layers keep their numbers, and the evaluator the expressions that it had.
pub record KeepsNumbers {E : Type 0} (slots : E → List Sized) (layer : ℕ) (old new : Buckets E) : Type 0 where
  pub source : (l : ℕ) (item : CellItem) → layer ≢ l → source_of new l item ≡ source_of old l item
  pub expressions : IsLonger (slots (evaluator_of old)) (slots (evaluator_of new))

-- An item that had the source of its expression has it with the number that the expression has in the evaluator, and
-- the other items have theirs.
pub record RenewsItem {E : Type 0} (slots : E → List Sized) (layer : ℕ) (item : CellItem)
    (expression : Option CellExpression) (old new : Buckets E) : Type 0 where
  pub own : IsSourceOf item expression (source_of old layer item)
      → IsSourced (slots (evaluator_of new)) item expression (source_of new layer item)
  pub others : (other : CellItem) → item ≢ other → source_of new layer other ≡ source_of old layer other

-- ---- what only proofs use

-- The properties of the first rows have their sources, and no other item has one yet.
pub record HasFirst {E : Type 0} (slots : E → List Sized) (layer count : ℕ) (expressions : LayerExpressions)
    (b : Buckets E) : Type 0 where
  pub first : (n : ℕ) → n < count →
      IsSourced (slots (evaluator_of b)) (items.Property n) (expressions (items.Property n))
      (source_of b layer (items.Property n))
  pub later : (n : ℕ) → count ≤ n → source_of b layer (items.Property n) ≡ None
  pub filter : source_of b layer items.Filter ≡ None

-- The properties of the first rows have their sources, where they had those of their expressions.
abbrev pub FirstAreRenewed : {E : Type 0} → (E → List Sized) → ℕ → ℕ → LayerExpressions → Buckets E → Buckets E → Type 0
FirstAreRenewed slots layer count expressions old new = HasSources layer expressions old → (n : ℕ) → n < count
    → IsSourced (slots (evaluator_of new)) (items.Property n) (expressions (items.Property n))
    (source_of new layer (items.Property n))
