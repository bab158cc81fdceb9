-- Tables after cells are dropped.
use Rattle.std.proofs.Common.{◌≡◌, ℕ, ◌≤◌, List, length, Bool, true, false, ◌&&◌, ◌||◌, Option, Some, None, refl, sym, ap, ◌∙◌, subst, if◌then◌else◌}
use Rattle.std.specs.List.{slice_get}
use Rattle.index_lists.specs.Holds.{is_list}
use Rattle.operator_values.specs.Evaluated.{Evaluated}
use Rattle.layer_buckets.specs.Cells.{is_zoomed, reads_images, reads_globals}
use Rattle.layer_buckets.specs.KeptSlots.{SeenColumn, column_at, slot_in, seen_column, kept_of, outcome_by}
use Rattle.layer_buckets.specs.Keeping.{IsKeeping, kept_outcome, lists_at, lists_in_column, lists_by, zoom_list, image_list}
use Rattle.layer_buckets.specs.Listing.{is_in}
use Rattle.layer_buckets.specs.LaidOut.{Columns, AreLaidOut, IsCellTable, column_of, held_by, kept_in_table, row_of, source_by, source_seen}
use Rattle.layer_buckets.specs.Drops.{listed_by, is_listed, DropsList, AreKept}
use Rattle.layer_buckets.specs.declared.cell.Cell.{Cell}
use Rattle.layer_buckets.specs.declared.cell.CellItem.{CellItem}
use Rattle.layer_buckets.specs.declared.cell.Source.{Source}
use Rattle.layer_buckets.specs.declared.columns.Column.{Column}
use Rattle.layer_buckets.specs.declared.kept_cells.KeptCells.{KeptCells}
use Rattle.layer_buckets.specs.declared.layers.LayerColumns.{LayerColumns}
use Rattle.layer_buckets.specs.declared.lists.ListName.{ListName}
use Rattle.layer_buckets.specs.declared.lists.ListName.TheVariants.{Zoom, Image}
use Rattle.layer_buckets.specs.declared.slots.CellPlace.{CellPlace}
use Rattle.layer_buckets.specs.declared.table.CellTable.{CellTable}
use Rattle.layer_buckets.proofs.Listings.{alike_then}
use Rattle.layer_buckets.proofs.Places.{get_past}

-- ---- cells change, columns stay as they are seen

pub laid_again : (layers : List LayerColumns) (columns others : Columns) (count states items lists : ℕ) → ((n : ℕ) → others n ≡ columns n) → items ≡ count → lists ≡ states → AreLaidOut layers columns count states → AreLaidOut layers others items lists
laid_again layers columns others count states items lists e f g a =
    let path : columns ≡ others = λ i n. sym (e n) i in
    subst (λ s. AreLaidOut layers others items s) (sym g) (subst (λ n. AreLaidOut layers others n states) (sym f) (subst (λ c. AreLaidOut layers c count states) path a))

pub table_kept : (t : CellTable) (cells : KeptCells) → IsCellTable t → IsKeeping cells → ((n : ℕ) → column_at cells.columns.items n ≡ column_at t.cells.columns.items n) → length cells.columns.items ≡ length t.cells.columns.items → cells.lists.item_lists ≡ t.cells.lists.item_lists → cells.lists.state_lists ≡ t.cells.lists.state_lists → IsCellTable (record { layers = t.layers; cells = cells })
table_kept t cells i k e l f g = record {
  cells = k;
  listed = l ∙ (i.listed ∙ sym f);
  laid = laid_again t.layers.items (column_at t.cells.columns.items) (column_at cells.columns.items) t.cells.lists.item_lists t.cells.lists.state_lists cells.lists.item_lists cells.lists.state_lists e f g i.laid;
}

-- ---- a list is dropped

if_same : (b : Bool) → (let n : Option Evaluated = None in n) ≡ (if b then None else None)
if_same true = refl
if_same false = refl

pub held_dropped : (cells after : KeptCells) (name : ListName) → ((p : CellPlace) → kept_outcome after p ≡ (if is_in name (lists_at cells.columns.items p) then None else kept_outcome cells p)) → (o : Option ℕ) (row : ℕ) → held_by after o row ≡ (if listed_by name cells.columns.items o row then None else held_by cells o row)
held_dropped cells after name e None row = refl
held_dropped cells after name e (Some c) row = e (record { column = c; row = row })

-- ---- the cells of a list are those that a cause names

-- by cases on the source that a column has
module _ (name : ListName) (test : Option Source → Bool) (none : is_in name (record { item = None; zoom = None; image = None; state = None }) ≡ false) (lacks : test None ≡ false) where
  by_source : ((p : CellPlace) (c : SeenColumn) → is_in name (lists_by p.column p.row c.first_state c.source) ≡ test c.source) → (columns : List Column) (o : Option ℕ) (row : ℕ) → listed_by name columns o row ≡ test (source_by (column_at columns) o)
  by_source e columns None row = sym lacks
  by_source e columns (Some column) row = go (column_at columns column)
    where
      go : (s : Option SeenColumn) → is_in name (lists_in_column (record { column = column; row = row }) s) ≡ test (source_seen s)
      go None = none ∙ sym lacks
      go (Some c) = e (record { column = column; row = row }) c

zoom_first : (m p : Bool) → is_list 0 (zoom_list m p) ≡ (m && (p || false))
zoom_first true true = refl
zoom_first true false = refl
zoom_first false p = refl

paint_listed : (s : Option Source) (p : CellPlace) (first : ℕ) → is_in (Zoom 0) (lists_by p.column p.row first s) ≡ is_zoomed false s
paint_listed None p first = refl
paint_listed (Some s) p first = zoom_first s.mentions.zoom s.paint

pub zoom_named : (columns : List Column) (o : Option ℕ) (row : ℕ) → listed_by (Zoom 0) columns o row ≡ is_zoomed false (source_by (column_at columns) o)
zoom_named = by_source (Zoom 0) (is_zoomed false) refl refl (λ p c. paint_listed c.source p c.first_state)

-- two lists, one after the other
pub second_dropped : (a b n : Bool) (v : Option Evaluated) → (b || a) ≡ n → (if b then None else (if a then None else v)) ≡ (if n then None else v)
second_dropped a true n v e = ap (λ x. if x then None else v) e
second_dropped a false n v e = ap (λ x. if x then None else v) e

zoom_both : (m p : Bool) → (is_list 1 (zoom_list m p) || is_list 0 (zoom_list m p)) ≡ (m && (p || true))
zoom_both true true = refl
zoom_both true false = refl
zoom_both false p = refl

image_both : (i g : Bool) → (is_list 1 (image_list i g) || is_list 0 (image_list i g)) ≡ i
image_both true true = refl
image_both true false = refl
image_both false true = refl
image_both false false = refl

globals_both : (i g : Bool) → (is_list 2 (image_list i g) || is_list 1 (image_list i g)) ≡ g
globals_both true true = refl
globals_both true false = refl
globals_both false true = refl
globals_both false false = refl

module _ (a b : ListName) (test : Option Source → Bool) (lacks : test None ≡ false) where
  two_sources : ((p : CellPlace) (first : ℕ) (s : Option Source) → (is_in b (lists_by p.column p.row first s) || is_in a (lists_by p.column p.row first s)) ≡ test s)
      → (is_in b (record { item = None; zoom = None; image = None; state = None }) || is_in a (record { item = None; zoom = None; image = None; state = None })) ≡ false
      → (columns : List Column) (o : Option ℕ) (row : ℕ) → (listed_by b columns o row || listed_by a columns o row) ≡ test (source_by (column_at columns) o)
  two_sources e none columns None row = sym lacks
  two_sources e none columns (Some column) row = go (column_at columns column)
    where
      go : (s : Option SeenColumn) → (is_in b (lists_in_column (record { column = column; row = row }) s) || is_in a (lists_in_column (record { column = column; row = row }) s)) ≡ test (source_seen s)
      go None = none ∙ sym lacks
      go (Some c) = e (record { column = column; row = row }) c.first_state c.source

zoomed_listed : (p : CellPlace) (first : ℕ) (s : Option Source) → (is_in (Zoom 1) (lists_by p.column p.row first s) || is_in (Zoom 0) (lists_by p.column p.row first s)) ≡ is_zoomed true s
zoomed_listed p first None = refl
zoomed_listed p first (Some s) = zoom_both s.mentions.zoom s.paint

images_listed : (p : CellPlace) (first : ℕ) (s : Option Source) → (is_in (Image 1) (lists_by p.column p.row first s) || is_in (Image 0) (lists_by p.column p.row first s)) ≡ reads_images s
images_listed p first None = refl
images_listed p first (Some s) = image_both s.mentions.image s.globals

globals_listed : (p : CellPlace) (first : ℕ) (s : Option Source) → (is_in (Image 2) (lists_by p.column p.row first s) || is_in (Image 1) (lists_by p.column p.row first s)) ≡ reads_globals s
globals_listed p first None = refl
globals_listed p first (Some s) = globals_both s.mentions.image s.globals

pub floor_named : (columns : List Column) (o : Option ℕ) (row : ℕ) → (listed_by (Zoom 1) columns o row || listed_by (Zoom 0) columns o row) ≡ is_zoomed true (source_by (column_at columns) o)
floor_named = two_sources (Zoom 0) (Zoom 1) (is_zoomed true) refl zoomed_listed refl

pub images_named : (columns : List Column) (o : Option ℕ) (row : ℕ) → (listed_by (Image 1) columns o row || listed_by (Image 0) columns o row) ≡ reads_images (source_by (column_at columns) o)
images_named = two_sources (Image 0) (Image 1) reads_images refl images_listed refl

pub globals_named : (columns : List Column) (o : Option ℕ) (row : ℕ) → (listed_by (Image 2) columns o row || listed_by (Image 1) columns o row) ≡ reads_globals (source_by (column_at columns) o)
globals_named = two_sources (Image 1) (Image 2) reads_globals refl globals_listed refl

-- ---- dropping by one list, and by two

pub drops_one : (name : ListName) (old new : CellTable) → (test : Cell → Bool) → DropsList name old new → ((cell : Cell) → is_listed name old cell ≡ test cell) → (cell : Cell) → kept_in_table new cell ≡ (if test cell then None else kept_in_table old cell)
drops_one name old new test d e cell = d cell ∙ ap (λ b. if b then None else kept_in_table old cell) (e cell)

pub drops_two : (a b : ListName) (old middle new : CellTable) → (test : Cell → Bool) → AreKept old middle → DropsList a old middle → DropsList b middle new → ((cell : Cell) → (is_listed b old cell || is_listed a old cell) ≡ test cell) → (cell : Cell) → kept_in_table new cell ≡ (if test cell then None else kept_in_table old cell)
drops_two a b old middle new test k d f e cell =
    f cell ∙ ((λ i. if listed_by b (k.columns i) (column_of (k.layers i) cell.layer cell.item) (row_of cell.feature) then None else d cell i)
    ∙ second_dropped (is_listed a old cell) (is_listed b old cell) (test cell) (kept_in_table old cell) (e cell))

pub kept_then : (a b d : CellTable) → AreKept a b → AreKept b d → AreKept a d
kept_then a b d e f = record {
  layers = f.layers ∙ e.layers;
  columns = f.columns ∙ e.columns;
  alike = alike_then a.cells.lists b.cells.lists d.cells.lists e.alike f.alike;
}

-- ---- no cell has a row past the last

abbrev pub column_by : Columns → Option ℕ → Option SeenColumn
column_by columns (Some c) = columns c
column_by columns None = None

pub past_rows : (t : CellTable) → IsCellTable t → (o : Option ℕ) (l : ℕ) (i : CellItem) (row : ℕ) → column_of t.layers.items l i ≡ o → ((s : SeenColumn) → column_by (column_at t.cells.columns.items) o ≡ Some s → s.rows ≤ row) → held_by t.cells o row ≡ None
past_rows t k None l i row e f = refl
past_rows t k (Some c) l i row e f = ap (outcome_by (kept_of t.cells.slots.items) (record { column = c; row = row })) (go (slice_get t.cells.columns.items c) f)
  where
    go : (o : Option Column) → ((s : SeenColumn) → seen_column o ≡ Some s → s.rows ≤ row) → slot_in row o ≡ None
    go None g = refl
    go (Some column) g = get_past column.slots.items row (g (record { source = column.source; first_state = column.first_state; rows = length column.slots.items }) refl)
