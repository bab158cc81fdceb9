-- The source of a column has another number in the evaluator: its cells are in the lists that they were in.
use Rattle.std.proofs.Common.{◌≡◌, ◌≢◌, ℕ, ◌≤◌, ◌+◌, List, length, true, false, Bool, nat_eq, Option, Some, None, refl, sym, ap, ◌∙◌, subst, if◌then◌else◌}
use Rattle.std.specs.List.{slice_get}
use Rattle.std.proofs.lemmas.Bool.{false≢true}
use Rattle.index_lists.proofs.Comparing.{is_true, is_false, by_test}
use Rattle.layer_buckets.specs.Cells.{is_item, reads_state}
use Rattle.layer_buckets.specs.KeptSlots.{SeenColumn, column_at, kept_of, outcome_by, slot_of}
use Rattle.layer_buckets.specs.Keeping.{IsKeeping, kept_outcome, lists_at, lists_of, lists_in_column}
use Rattle.layer_buckets.specs.LaidOut.{Columns, AreLaidOut, IsColumnOf, IsCellTable, column_of, source_by, source_in_table, source_seen, states_in, first_state_in, features_in, feature_count}
use Rattle.layer_buckets.specs.Listing.{AreThere, HoldAll}
use Rattle.layer_buckets.specs.Slotted.{column_slotted, slotted, slotted_at}
use Rattle.layer_buckets.specs.declared.cell.CellItem.{CellItem}
use Rattle.layer_buckets.specs.declared.cell.Source.{Source}
use Rattle.layer_buckets.specs.declared.columns.Column.{Column}
use Rattle.layer_buckets.specs.declared.kept_cells.KeptCells.{KeptCells}
use Rattle.layer_buckets.specs.declared.layers.LayerColumns.{LayerColumns}
use Rattle.layer_buckets.specs.declared.lists.CauseLists.{CauseLists}
use Rattle.layer_buckets.specs.declared.lists.ListNumbers.{ListNumbers}
use Rattle.layer_buckets.specs.declared.slots.CellPlace.{CellPlace}
use Rattle.layer_buckets.specs.declared.table.CellTable.{CellTable}
use Rattle.layer_buckets.proofs.ItemLaws.{is_item_same, is_item_true}
use Rattle.layer_buckets.proofs.Places.{by_bool}

-- ---- the lists of cells

numbers_by : (place : CellPlace) (number first rows : ℕ) (source : Option Source)
    → lists_in_column place (Some (record { source = slotted number source; first_state = first; rows = rows }))
    ≡ lists_in_column place (Some (record { source = source; first_state = first; rows = rows }))
numbers_by place number first rows (Some s) = refl
numbers_by place number first rows None = refl

same_numbers : (place : CellPlace) (number : ℕ) (o : Option SeenColumn) → lists_in_column place (column_slotted number o) ≡ lists_in_column place o
same_numbers place number (Some c) = numbers_by place number c.first_state c.rows c.source
same_numbers place number None = refl

abbrev slotted_if : Bool → ℕ → Option SeenColumn → Option SeenColumn
slotted_if b number o = if b then column_slotted number o else o

numbers_if : (place : CellPlace) (number : ℕ) (o : Option SeenColumn) (b : Bool) → lists_in_column place (slotted_if b number o) ≡ lists_in_column place o
numbers_if place number o true = same_numbers place number o
numbers_if place number o false = refl

module _ (c : KeptCells) (others : List Column) (column number : ℕ)
    (seen : (n : ℕ) → column_at others n ≡ slotted_if (nat_eq n column) number (column_at c.columns.items n))
    (same : (p : CellPlace) → slot_of others p ≡ slot_of c.columns.items p) where
  same_lists : lists_at others ≡ lists_at c.columns.items
  same_lists = λ i p. lists_same p i where
    lists_same : (p : CellPlace) → lists_at others p ≡ lists_at c.columns.items p
    lists_same p = ap (lists_in_column p) (seen p.column) ∙ numbers_if p number (column_at c.columns.items p.column) (nat_eq p.column column)

  pub keeping_slotted : (new : KeptCells) → new.columns.items ≡ others → new.slots ≡ c.slots → new.free ≡ c.free → new.lists ≡ c.lists
      → IsKeeping c → IsKeeping new
  keeping_slotted new columns slots free lists k =
      subst IsKeeping (λ i. record { columns = new.columns; slots = sym slots i; free = sym free i; lists = sym lists i })
      (record {
        hold = subst (λ (f : CellPlace → ListNumbers). HoldAll c.lists (λ s. lists_of f (kept_of c.slots.items s))) (sym numbers) k.hold;
        have = k.have;
        counted = k.counted;
        there = λ p s e. subst (λ (f : CellPlace → ListNumbers). AreThere c.lists (f p)) (sym numbers) (k.there p s (sym (named p) ∙ e));
        back = λ s p e. named p ∙ k.back s p e;
        free = k.free;
        within = k.within;
        full = k.full;
        room = k.room;
      })
    where
      numbers : lists_at new.columns.items ≡ lists_at c.columns.items
      numbers = ap lists_at columns ∙ same_lists

      named : (p : CellPlace) → slot_of new.columns.items p ≡ slot_of c.columns.items p
      named p = ap (λ l. slot_of l p) columns ∙ same p

-- ---- columns of layers

source_slotted : (number : ℕ) (o : Option SeenColumn) → source_seen (column_slotted number o) ≡ slotted number (source_seen o)
source_slotted number (Some c) = refl
source_slotted number None = refl

state_slotted : (number : ℕ) (o : Option Source) → reads_state (slotted number o) ≡ reads_state o
state_slotted number (Some s) = refl
state_slotted number None = refl

abbrev seen_or : Option SeenColumn → SeenColumn → SeenColumn
seen_or (Some s) other = s
seen_or None other = other

no_column : (s : SeenColumn) → None ≡ Some s → ⊥
no_column s e = absurd (cc)

-- a column has of its layer what it had
column_fits : (l : Option LayerColumns) (number : ℕ) (o : Option SeenColumn) (s : SeenColumn) → column_slotted number o ≡ Some s
    → ((t : SeenColumn) → o ≡ Some t → IsColumnOf l t) → IsColumnOf l s
column_fits l number (Some c) s is was =
    subst (IsColumnOf l) (ap (λ o. seen_or o s) is)
    (let h : IsColumnOf l c = was c refl in record {
      rows = h.rows;
      first = λ t. h.first (sym (state_slotted number c.source) ∙ t);
      states = λ t. h.states (sym (state_slotted number c.source) ∙ t);
    })
column_fits l number None s is was = absurd (no_column s is)

module _ (layers : List LayerColumns) (seen others : Columns) (count total l : ℕ) (i : CellItem) (c number : ℕ) (a : AreLaidOut layers seen count total)
    (column : column_of layers l i ≡ Some c) (changed : (n : ℕ) → others n ≡ slotted_if (nat_eq n c) number (seen n)) where
  here : (n : ℕ) → n ≡ c → others n ≡ column_slotted number (seen n)
  here n e = changed n ∙ ap (λ b. slotted_if b number (seen n)) (is_true n c e)

  apart : (n : ℕ) → n ≢ c → others n ≡ seen n
  apart n d = changed n ∙ ap (λ b. slotted_if b number (seen n)) (is_false n c d)

  pub laid_slotted : AreLaidOut layers others count total
  laid_slotted = record {
    below = a.below;
    apart = a.apart;
    columns = λ m j d s e q. by_test d c
        (λ f. column_fits (slice_get layers m) number (seen d) s (sym (here d f) ∙ q) (λ t is. a.columns m j d t e is))
        (λ f. a.columns m j d s e (sym (apart d f) ∙ q));
    absent = λ m j e. absent_by m j e (column_of layers m j) refl;
    states = a.states;
    ends = a.ends;
    small = a.small;
    rows = a.rows;
  }
    where
      absent_by : (m : ℕ) (j : CellItem) → features_in (slice_get layers m) ≡ None → (o : Option ℕ) → column_of layers m j ≡ o
          → source_by others (column_of layers m j) ≡ None
      absent_by m j e None q = ap (source_by others) q
      absent_by m j e (Some d) q =
          let was : source_seen (seen d) ≡ None = sym (ap (source_by seen) q) ∙ a.absent m j e in
          ap (source_by others) q ∙ by_test d c
          (λ f. ap source_seen (here d f) ∙ source_slotted number (seen d) ∙ ap (slotted number) was)
          (λ f. ap source_seen (apart d f) ∙ was)

  pub source_slotted_at : (m : ℕ) (j : CellItem)
      → source_by others (column_of layers m j) ≡ slotted_at l i number m j (source_by seen (column_of layers m j))
  source_slotted_at m j = by_bool (is_item l i m j)
      (λ b.
      let item = is_item_true l m i j b in
      let col : column_of layers m j ≡ Some c = sym (λ z. column_of layers (item.0 z) (item.1 z)) ∙ column in
      ap (source_by others) col ∙ ap source_seen (here c refl) ∙ source_slotted number (seen c)
      ∙ sym (ap (λ o. slotted number (source_by seen o)) col)
      ∙ sym (ap (λ x. if x then slotted number (source_by seen (column_of layers m j)) else source_by seen (column_of layers m j)) b))
      (λ b. elsewhere b (column_of layers m j) refl
      ∙ sym (ap (λ x. if x then slotted number (source_by seen (column_of layers m j)) else source_by seen (column_of layers m j)) b))
    where
      elsewhere : is_item l i m j ≡ false → (o : Option ℕ) → column_of layers m j ≡ o
          → source_by others (column_of layers m j) ≡ source_by seen (column_of layers m j)
      elsewhere b None q = ap (source_by others) q ∙ sym (ap (source_by seen) q)
      elsewhere b (Some d) q = ap (source_by others) q ∙ ap source_seen (apart d (λ f.
          let item = a.apart l m i j c column (q ∙ ap Some f) in
          absurd (false≢true (sym b ∙ is_item_same l m i j item.0 item.1)))) ∙ sym (ap (source_by seen) q)

-- ---- of a table

module _ (t : CellTable) (cells : KeptCells) (l : ℕ) (i : CellItem) (c number : ℕ) (column : column_of t.layers.items l i ≡ Some c) (k : IsCellTable t)
    (changed : (n : ℕ) → column_at cells.columns.items n ≡ slotted_if (nat_eq n c) number (column_at t.cells.columns.items n)) where
  pub table_slotted : IsKeeping cells → length cells.columns.items ≡ length t.cells.columns.items → cells.lists ≡ t.cells.lists
      → IsCellTable (record { layers = t.layers; cells = cells })
  table_slotted keeping n lists = record {
    cells = keeping;
    listed = n ∙ (k.listed ∙ sym (ap (λ (x : CauseLists). x.item_lists) lists));
    laid = subst (λ (x : CauseLists). AreLaidOut t.layers.items (column_at cells.columns.items) x.item_lists x.state_lists) (sym lists)
        (laid_slotted t.layers.items (column_at t.cells.columns.items) (column_at cells.columns.items) t.cells.lists.item_lists t.cells.lists.state_lists
        l i c number k.laid column changed);
  }

  pub sources_slotted : (m : ℕ) (j : CellItem)
      → source_by (column_at cells.columns.items) (column_of t.layers.items m j) ≡ slotted_at l i number m j (source_in_table t m j)
  sources_slotted = source_slotted_at t.layers.items (column_at t.cells.columns.items) (column_at cells.columns.items) t.cells.lists.item_lists
      t.cells.lists.state_lists l i c number k.laid column changed

-- an item without a column has no source
pub sources_missing : (t : CellTable) (l : ℕ) (i : CellItem) (number : ℕ) → column_of t.layers.items l i ≡ None → (m : ℕ) (j : CellItem)
    → source_in_table t m j ≡ slotted_at l i number m j (source_in_table t m j)
sources_missing t l i number column m j = by_bool (is_item l i m j)
    (λ b.
    let item = is_item_true l m i j b in
    let none : source_in_table t m j ≡ None =
    ap (source_by (column_at t.cells.columns.items)) (sym (λ z. column_of t.layers.items (item.0 z) (item.1 z)) ∙ column) in
    none ∙ sym (ap (slotted number) none) ∙ sym (ap (λ x. if x then slotted number (source_in_table t m j) else source_in_table t m j) b))
    (λ b. sym (ap (λ x. if x then slotted number (source_in_table t m j) else source_in_table t m j) b))
