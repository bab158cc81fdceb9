-- A column gets a source, and no cell of it is kept.
use Rattle.std.proofs.Common.{◌≡◌, ◌≢◌, ℕ, ◌≤◌, zero, suc, List, length, true, false, nat_eq, Option, Some, None, is_some, refl, sym, ap, ◌∙◌, subst, arith, if◌then◌else◌}
use Rattle.std.specs.List.{slice_get}
use Rattle.std.proofs.lemmas.Bool.{false≢true}
use Rattle.index_lists.proofs.Comparing.{is_true, is_false, by_test}
use Rattle.layer_buckets.specs.Cells.{is_item, reads_state}
use Rattle.layer_buckets.specs.Drops.{AreKept, Drops}
use Rattle.layer_buckets.specs.KeptSlots.{Kept, SeenColumn, column_at, kept_of, place_in, outcome_by, outcome_at, slot_of}
use Rattle.layer_buckets.specs.Keeping.{IsKeeping, kept_outcome, lists_at, lists_of, lists_in_column}
use Rattle.layer_buckets.specs.LaidOut.{Columns, AreLaidOut, IsColumnOf, IsCellTable, column_of, held_by, kept_in_table, row_of, source_by, source_in_table, source_seen, states_in, first_state_in, features_in, feature_count}
use Rattle.layer_buckets.specs.Sources.{HasSource, is_column, no_source_column}
use Rattle.layer_buckets.specs.declared.cell.Cell.{Cell}
use Rattle.layer_buckets.specs.declared.cell.CellItem.{CellItem}
use Rattle.layer_buckets.specs.declared.cell.Source.{Source}
use Rattle.layer_buckets.specs.declared.cell.Stale.TheVariants as stale
use Rattle.layer_buckets.specs.declared.columns.Column.{Column}
use Rattle.layer_buckets.specs.declared.lists.CauseLists.{CauseLists}
use Rattle.layer_buckets.specs.declared.kept_cells.KeptCells.{KeptCells}
use Rattle.layer_buckets.specs.declared.layers.LayerColumns.{LayerColumns}
use Rattle.layer_buckets.specs.declared.slots.CellPlace.{CellPlace}
use Rattle.layer_buckets.specs.declared.table.CellTable.{CellTable}
use Rattle.layer_buckets.proofs.CellLaws.{held_same}
use Rattle.layer_buckets.proofs.Places.{by_bool}
use Rattle.layer_buckets.proofs.SlotLaws.{outcome_there}
use Rattle.layer_buckets.proofs.ItemLaws.{is_item_true, is_item_same}

-- ---- the cells of a column that has none kept

module _ (c : KeptCells) (others : List Column) (column : ℕ) (k : IsKeeping c) (unkept : (row : ℕ) → kept_outcome c (record { column = column; row = row }) ≡ None) (seen : (n : ℕ) → n ≢ column → column_at others n ≡ column_at c.columns.items n) (same : (p : CellPlace) → p.column ≢ column → slot_of others p ≡ slot_of c.columns.items p) (none : (p : CellPlace) → p.column ≡ column → slot_of others p ≡ None) where
  pub elsewhere : (s : ℕ) (p : CellPlace) → place_in (kept_of c.slots.items s) ≡ Some p → p.column ≢ column
  elsewhere s p e q =
      let there : is_some (kept_outcome c p) ≡ true = ap (λ o. is_some (outcome_by (kept_of c.slots.items) p o)) (k.back s p e) ∙ outcome_there p (kept_of c.slots.items s) e in
      let place : record { column = column; row = p.row } ≡ p = λ i. record { column = sym q i; row = p.row } in
      let gone : kept_outcome c p ≡ None = ap (kept_outcome c) (sym place) ∙ unkept p.row in
      absurd (false≢true (sym (ap is_some gone) ∙ there))

  pub kept_lists : (s : ℕ) → lists_of (lists_at others) (kept_of c.slots.items s) ≡ lists_of (lists_at c.columns.items) (kept_of c.slots.items s)
  kept_lists s = go (kept_of c.slots.items s) refl
    where
      go : (o : Option Kept) → kept_of c.slots.items s ≡ o → lists_of (lists_at others) o ≡ lists_of (lists_at c.columns.items) o
      go None e = refl
      go (Some x) e = ap (lists_in_column x.place) (seen x.place.column (elsewhere s x.place (ap place_in e)))

  pub back_elsewhere : (s : ℕ) (p : CellPlace) → place_in (kept_of c.slots.items s) ≡ Some p → slot_of others p ≡ Some s
  back_elsewhere s p e = same p (elsewhere s p e) ∙ k.back s p e

  no_slot : (s : ℕ) → None ≡ Some s → ⊥
  no_slot s e = absurd (cc)

  pub there_elsewhere : (p : CellPlace) (s : ℕ) → slot_of others p ≡ Some s → (p.column ≢ column) × (slot_of c.columns.items p ≡ Some s) × (lists_at others p ≡ lists_at c.columns.items p)
  there_elsewhere p s e = by_test p.column column
      (λ q. absurd (no_slot s (sym (none p q) ∙ e)))
      (λ d. (d, sym (same p d) ∙ e, ap (lists_in_column p) (seen p.column d)))

  pub held_elsewhere : (p : CellPlace) → outcome_at others c.slots.items p ≡ outcome_at c.columns.items c.slots.items p
  held_elsewhere p = by_test p.column column
      (λ q.
      let place : record { column = column; row = p.row } ≡ p = λ i. record { column = sym q i; row = p.row } in
      ap (outcome_by (kept_of c.slots.items) p) (none p q) ∙ sym (ap (kept_outcome c) (sym place) ∙ unkept p.row))
      (λ d. ap (outcome_by (kept_of c.slots.items) p) (same p d))

-- ---- a column of a layer has another source

abbrev seen_or : Option SeenColumn → SeenColumn → SeenColumn
seen_or (Some s) other = s
seen_or None other = other

abbrev own_column : Option Source → ℕ → SeenColumn
own_column source first = record { source = source; first_state = first; rows = 0 }

no_source : (s : Source) → Some s ≡ None → ⊥
no_source s e = absurd (cc)

module _ (layers : List LayerColumns) (seen others : Columns) (count total l : ℕ) (i : CellItem) (c first : ℕ) (source : Option Source) (a : AreLaidOut layers seen count total) (column : column_of layers l i ≡ Some c) (states : reads_state source ≡ true → (first ≡ first_state_in (slice_get layers l)) × (feature_count (features_in (slice_get layers l)) ≤ states_in (slice_get layers l))) (absent : features_in (slice_get layers l) ≡ None → source ≡ None) (changed : (n : ℕ) → others n ≡ (if nat_eq n c then Some (own_column source first) else seen n)) where
  here : (n : ℕ) → n ≡ c → others n ≡ Some (own_column source first)
  here n e = changed n ∙ ap (λ b. if b then Some (own_column source first) else seen n) (is_true n c e)

  apart : (n : ℕ) → n ≢ c → others n ≡ seen n
  apart n d = changed n ∙ ap (λ b. if b then Some (own_column source first) else seen n) (is_false n c d)

  pub laid_changed : AreLaidOut layers others count total
  laid_changed = record {
    below = a.below;
    apart = a.apart;
    columns = λ m j d s e q. by_test d c
        (λ f.
        let layer = (a.apart l m i j c column (e ∙ ap Some f)).0 in
        let same : own_column source first ≡ s = ap (λ o. seen_or o s) (sym (here d f) ∙ q) in
        subst (λ x. IsColumnOf (slice_get layers x) s) layer (subst (λ x. IsColumnOf (slice_get layers l) x) same (record {
          rows = omega arith;
          first = λ t. (states t).0;
          states = λ t. (states t).1;
        })))
        (λ f. a.columns m j d s e (sym (apart d f) ∙ q));
    absent = λ m j e. go m j e (column_of layers m j) refl;
    states = a.states;
    ends = a.ends;
    small = a.small;
    rows = a.rows;
  }
    where
      go : (m : ℕ) (j : CellItem) → features_in (slice_get layers m) ≡ None → (o : Option ℕ) → column_of layers m j ≡ o → source_by others (column_of layers m j) ≡ None
      go m j e None q = ap (source_by others) q
      go m j e (Some d) q = ap (source_by others) q ∙ by_test d c
          (λ f.
          let layer = (a.apart l m i j c column (q ∙ ap Some f)).0 in
          ap source_seen (here d f) ∙ absent (ap (λ x. features_in (slice_get layers x)) layer ∙ e))
          (λ f. ap source_seen (apart d f) ∙ (sym (ap (source_by seen) q) ∙ a.absent m j e))

  pub source_changed : (m : ℕ) (j : CellItem) → source_by others (column_of layers m j) ≡ (if is_item l i m j then source else source_by seen (column_of layers m j))
  source_changed m j = by_bool (is_item l i m j)
      (λ b.
      let item = is_item_true l m i j b in
      let col : column_of layers m j ≡ Some c = sym (λ z. column_of layers (item.0 z) (item.1 z)) ∙ column in
      ap (source_by others) col ∙ (ap source_seen (here c refl) ∙ sym (ap (λ x. if x then source else source_by seen (column_of layers m j)) b)))
      (λ b. go b (column_of layers m j) refl ∙ sym (ap (λ x. if x then source else source_by seen (column_of layers m j)) b))
    where
      go : is_item l i m j ≡ false → (o : Option ℕ) → column_of layers m j ≡ o → source_by others (column_of layers m j) ≡ source_by seen (column_of layers m j)
      go b None q = ap (source_by others) q ∙ sym (ap (source_by seen) q)
      go b (Some d) q = ap (source_by others) q ∙ (ap source_seen (apart d (λ f.
          let item = a.apart l m i j c column (q ∙ ap Some f) in
          absurd (false≢true (sym b ∙ is_item_same l m i j item.0 item.1)))) ∙ sym (ap (source_by seen) q))

-- ---- of a table

-- a row has a feature, or none
abbrev feature_at : ℕ → Option ℕ
feature_at zero = None
feature_at (suc n) = Some n

row_at : (row : ℕ) → row_of (feature_at row) ≡ row
row_at zero = refl
row_at (suc n) = omega arith

pub item_unkept : (old t : CellTable) (l : ℕ) (i : CellItem) (c : ℕ) → column_of t.layers.items l i ≡ Some c → Drops (stale.Item l i) old t → (row : ℕ) → kept_outcome t.cells (record { column = c; row = row }) ≡ None
item_unkept old t l i c column d row =
    let cell : Cell = record { layer = l; feature = feature_at row; item = i } in
    let own : kept_in_table t cell ≡ kept_outcome t.cells (record { column = c; row = row }) = λ z. held_by t.cells (column z) (row_at row z) in
    sym own ∙ (d cell ∙ ap (λ b. if b then None else kept_in_table old cell) (is_item_same l l i i refl refl))

pub table_changed : (t : CellTable) (cells : KeptCells) (l : ℕ) (i : CellItem) (c : ℕ) → column_of t.layers.items l i ≡ Some c → IsCellTable t → IsKeeping cells → ((n : ℕ) → column_at cells.columns.items n ≡ (if nat_eq n c then Some (own_column None 0) else column_at t.cells.columns.items n)) → length cells.columns.items ≡ length t.cells.columns.items → cells.lists ≡ t.cells.lists → IsCellTable (record { layers = t.layers; cells = cells })
table_changed t cells l i c column k keeping changed n lists = record {
  cells = keeping;
  listed = n ∙ (k.listed ∙ sym (ap (λ (x : CauseLists). x.item_lists) lists));
  laid = subst (λ (x : CauseLists). AreLaidOut t.layers.items (column_at cells.columns.items) x.item_lists x.state_lists) (sym lists)
      (laid_changed t.layers.items (column_at t.cells.columns.items) (column_at cells.columns.items) t.cells.lists.item_lists t.cells.lists.state_lists l i c 0 None k.laid column (λ t. absurd (false≢true t)) (λ e. refl) changed);
}

pub sources_changed : (old t : CellTable) (cells : KeptCells) (l : ℕ) (i : CellItem) (c : ℕ) → column_of t.layers.items l i ≡ Some c → IsCellTable t → AreKept old t → ((n : ℕ) → column_at cells.columns.items n ≡ (if nat_eq n c then Some (own_column None 0) else column_at t.cells.columns.items n)) → (m : ℕ) (j : CellItem) → source_by (column_at cells.columns.items) (column_of t.layers.items m j) ≡ (if is_item l i m j then None else source_in_table old m j)
sources_changed old t cells l i c column k a changed m j =
    source_changed t.layers.items (column_at t.cells.columns.items) (column_at cells.columns.items) t.cells.lists.item_lists t.cells.lists.state_lists l i c 0 None k.laid column (λ t. absurd (false≢true t)) (λ e. refl) changed m j
    ∙ (λ z. if is_item l i m j then None else source_by (column_at (a.columns z)) (column_of (a.layers z) m j))

pub source_missing : (old t : CellTable) (l : ℕ) (i : CellItem) → column_of t.layers.items l i ≡ None → AreKept old t → (m : ℕ) (j : CellItem) → source_in_table t m j ≡ (if is_item l i m j then None else source_in_table old m j)
source_missing old t l i column a m j = by_bool (is_item l i m j)
    (λ b.
    let item = is_item_true l m i j b in
    ap (source_by (column_at t.cells.columns.items)) (sym (λ z. column_of t.layers.items (item.0 z) (item.1 z)) ∙ column) ∙ sym (ap (λ x. if x then None else source_in_table old m j) b))
    (λ b. (λ z. source_by (column_at (a.columns z)) (column_of (a.layers z) m j)) ∙ sym (ap (λ x. if x then None else source_in_table old m j) b))

-- a source is put where a layer is
module _ (t : CellTable) (cells : KeptCells) (l : ℕ) (i : CellItem) (c first : ℕ) (source : Option Source) (k : IsCellTable t) (column : column_of t.layers.items l i ≡ Some c) (there : is_some (features_in (slice_get t.layers.items l)) ≡ true) (states : reads_state source ≡ true → (first ≡ first_state_in (slice_get t.layers.items l)) × (feature_count (features_in (slice_get t.layers.items l)) ≤ states_in (slice_get t.layers.items l))) (changed : (n : ℕ) → column_at cells.columns.items n ≡ (if nat_eq n c then Some (own_column source first) else column_at t.cells.columns.items n)) where
  not_absent : features_in (slice_get t.layers.items l) ≡ None → source ≡ None
  not_absent e = absurd (false≢true (sym (ap is_some e) ∙ there))

  pub table_put : IsKeeping cells → length cells.columns.items ≡ length t.cells.columns.items → cells.lists ≡ t.cells.lists → IsCellTable (record { layers = t.layers; cells = cells })
  table_put keeping n lists = record {
    cells = keeping;
    listed = n ∙ (k.listed ∙ sym (ap (λ (x : CauseLists). x.item_lists) lists));
    laid = subst (λ (x : CauseLists). AreLaidOut t.layers.items (column_at cells.columns.items) x.item_lists x.state_lists) (sym lists)
        (laid_changed t.layers.items (column_at t.cells.columns.items) (column_at cells.columns.items) t.cells.lists.item_lists t.cells.lists.state_lists l i c first source k.laid column states not_absent changed);
  }

  pub put_has : (old : CellTable) → AreKept old t → Drops (stale.Item l i) old t → ((p : CellPlace) → kept_outcome cells p ≡ kept_outcome t.cells p) → HasSource old (record { layers = t.layers; cells = cells }) l i source
  put_has old a d h = record {
    kept = λ cell. held_same t.cells cells h (column_of t.layers.items cell.layer cell.item) (row_of cell.feature) ∙ d cell;
    source = λ m j. source_changed t.layers.items (column_at t.cells.columns.items) (column_at cells.columns.items) t.cells.lists.item_lists t.cells.lists.state_lists l i c first source k.laid column states not_absent changed m j
        ∙ (λ z. if is_item l i m j then source else source_by (column_at (a.columns z)) (column_of (a.layers z) m j));
    features = λ m. ap (λ ls. features_in (slice_get ls m)) a.layers;
  }

pub columns_changed : (old t : CellTable) (cells : KeptCells) (l : ℕ) (i : CellItem) (c : ℕ) → column_of t.layers.items l i ≡ Some c → AreKept old t → ((n : ℕ) → column_at cells.columns.items n ≡ (if nat_eq n c then Some (own_column None 0) else column_at t.cells.columns.items n)) → (n : ℕ) → column_at cells.columns.items n ≡ (if is_column n (column_of old.layers.items l i) then Some no_source_column else column_at old.cells.columns.items n)
columns_changed old t cells l i c column a changed n =
    let own : column_of old.layers.items l i ≡ Some c = sym (ap (λ ls. column_of ls l i) a.layers) ∙ column in
    changed n ∙ (λ z. if is_column n (sym own z) then Some no_source_column else column_at (a.columns z) n)

pub columns_missing : (old t : CellTable) (l : ℕ) (i : CellItem) → column_of t.layers.items l i ≡ None → AreKept old t → (n : ℕ) → column_at t.cells.columns.items n ≡ (if is_column n (column_of old.layers.items l i) then Some no_source_column else column_at old.cells.columns.items n)
columns_missing old t l i column a n =
    let own : column_of old.layers.items l i ≡ None = sym (ap (λ ls. column_of ls l i) a.layers) ∙ column in
    λ z. if is_column n (sym own z) then Some no_source_column else column_at (a.columns z) n
