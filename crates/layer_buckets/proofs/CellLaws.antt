-- Cells of a table, after rows and slots are made and a cell is kept.
use Rattle.std.proofs.Common.{◌≡◌, ◌≢◌, ℕ, ◌+◌, ◌<◌, ◌≤◌, ◌-◌, List, length, Bool, true, false, nat_le, Option, Some, None, is_some, refl, sym, ap, ◌∙◌, subst, arith, if◌then◌else◌}
use Rattle.std.specs.Prelude.{IfSome}
use Rattle.std.specs.List.{slice_get}
use Rattle.std.proofs.lemmas.Bool.{false≢true}
use Rattle.index_lists.proofs.Comparing.{is_true, is_false, test_true, by_test, by_order}
use Rattle.operator_values.specs.Evaluated.{Evaluated}
use Rattle.layer_buckets.specs.Cells.{is_item, feature_eq, cell_eq, reads_state}
use Rattle.layer_buckets.specs.Growing.{HasRows, IsSame, StaySeen}
use Rattle.layer_buckets.specs.KeptSlots.{SeenColumn, column_at, same_place}
use Rattle.layer_buckets.specs.Keeping.{IsKeeping, kept_outcome, lists_at, lists_in_column, lists_by, zoom_list, image_list, state_list}
use Rattle.layer_buckets.specs.Listing.{AreThere}
use Rattle.layer_buckets.specs.LaidOut.{Columns, AreLaidOut, IsColumnOf, IsCellTable, column_of, held_by, kept_in_table, row_of, source_by, source_seen, features_in, feature_count}
use Rattle.layer_buckets.specs.declared.cell.Cell.{Cell}
use Rattle.layer_buckets.specs.declared.cell.CellItem.{CellItem}
use Rattle.layer_buckets.specs.declared.cell.Source.{Source}
use Rattle.layer_buckets.specs.declared.kept_cells.KeptCells.{KeptCells}
use Rattle.layer_buckets.specs.declared.layers.LayerColumns.{LayerColumns}
use Rattle.layer_buckets.specs.declared.lists.CauseLists.{CauseLists}
use Rattle.layer_buckets.specs.declared.slots.CellPlace.{CellPlace}
use Rattle.layer_buckets.specs.declared.table.CellTable.{CellTable}
use Rattle.layer_buckets.proofs.Places.{and_true, both, by_bool, place_self, place_true, seen_inside}
use Rattle.layer_buckets.proofs.TableLaws.{table_kept}
use Rattle.layer_buckets.proofs.ItemLaws.{is_item_true, is_item_same}

-- ---- what is kept by columns

pub held_same : (cells others : KeptCells) → ((p : CellPlace) → kept_outcome others p ≡ kept_outcome cells p) → (o : Option ℕ) (row : ℕ) → held_by others o row ≡ held_by cells o row
held_same cells others e None row = refl
held_same cells others e (Some c) row = e (record { column = c; row = row })

pub source_same : (seen others : Columns) → ((n : ℕ) → source_seen (others n) ≡ source_seen (seen n)) → (o : Option ℕ) → source_by others o ≡ source_by seen o
source_same seen others e None = refl
source_same seen others e (Some c) = e c

-- the same layers over other cells, where what is kept and the sources stay
pub table_same : (t : CellTable) (cells : KeptCells) → ((p : CellPlace) → kept_outcome cells p ≡ kept_outcome t.cells p) → ((n : ℕ) → source_seen (column_at cells.columns.items n) ≡ source_seen (column_at t.cells.columns.items n)) → IsSame t (record { layers = t.layers; cells = cells })
table_same t cells e f = record {
  layers = refl;
  kept = λ cell. held_same t.cells cells e (column_of t.layers.items cell.layer cell.item) (row_of cell.feature);
  source = λ l i. source_same (column_at t.cells.columns.items) (column_at cells.columns.items) f (column_of t.layers.items l i);
}

pub table_stays : (t : CellTable) (cells : KeptCells) → IsCellTable t → IsKeeping cells → StaySeen t.cells cells → IsCellTable (record { layers = t.layers; cells = cells })
table_stays t cells i k s = table_kept t cells i k (λ n. ap (λ cs. column_at cs n) s.columns) (ap length s.columns) s.items s.states

pub same_then : (a b d : CellTable) → IsSame a b → IsSame b d → IsSame a d
same_then a b d e f = record {
  layers = f.layers ∙ e.layers;
  kept = λ cell. f.kept cell ∙ e.kept cell;
  source = λ l i. f.source l i ∙ e.source l i;
}

-- ---- a column has more rows

abbrev seen_or : Option SeenColumn → SeenColumn → SeenColumn
seen_or (Some s) other = s
seen_or None other = other

module _ (layers : List LayerColumns) (seen others : Columns) (count total l : ℕ) (i : CellItem) (c rows : ℕ) (old new : SeenColumn) (column : column_of layers l i ≡ Some c) (few : rows ≤ 1 + feature_count (features_in (slice_get layers l))) (before : seen c ≡ Some old) (after : others c ≡ Some new) (grown : HasRows old new rows) (apart : (n : ℕ) → n ≢ c → others n ≡ seen n) where
  pub sources_stay : (n : ℕ) → source_seen (others n) ≡ source_seen (seen n)
  sources_stay n = by_test n c
      (λ e. ap (λ m. source_seen (others m)) e ∙ (ap source_seen after ∙ (grown.source ∙ sym (ap (λ m. source_seen (seen m)) e ∙ ap source_seen before))))
      (λ d. ap source_seen (apart n d))

  pub laid_grown : AreLaidOut layers seen count total → AreLaidOut layers others count total
  laid_grown a = record {
    below = a.below;
    apart = a.apart;
    columns = λ m j d s e q. by_test d c
        (λ f.
        let layer = (a.apart l m i j c column (e ∙ ap Some f)).0 in
        let same : new ≡ s = ap (λ o. seen_or o s) (sym after ∙ (ap others (sym f) ∙ q)) in
        let own = a.columns l i c old column before in
        subst (λ x. IsColumnOf (slice_get layers x) s) layer (subst (λ x. IsColumnOf (slice_get layers l) x) same (record {
          rows = grown.most (1 + feature_count (features_in (slice_get layers l))) few own.rows;
          first = λ t. grown.first ∙ own.first (ap reads_state (sym grown.source) ∙ t);
          states = λ t. own.states (ap reads_state (sym grown.source) ∙ t);
        })))
        (λ f. a.columns m j d s e (sym (apart d f) ∙ q));
    absent = λ m j e. source_same seen others sources_stay (column_of layers m j) ∙ a.absent m j e;
    states = a.states;
    ends = a.ends;
    small = a.small;
    rows = a.rows;
  }

-- by the columns of a table
module _ (t : CellTable) (cells : KeptCells) (l : ℕ) (i : CellItem) (c rows : ℕ) (k : IsCellTable t) (column : column_of t.layers.items l i ≡ Some c) (few : rows ≤ 1 + feature_count (features_in (slice_get t.layers.items l))) where
  by_column : {Q : Type 0} → ((old new : SeenColumn) → column_at t.cells.columns.items c ≡ Some old → column_at cells.columns.items c ≡ Some new → HasRows old new rows) → length cells.columns.items ≡ length t.cells.columns.items → ((old new : SeenColumn) → column_at t.cells.columns.items c ≡ Some old → column_at cells.columns.items c ≡ Some new → HasRows old new rows → Q) → Q
  by_column {Q} r n f =
      let below = k.laid.below l i c column in
      let listed = k.listed in
      go (column_at t.cells.columns.items c) (column_at cells.columns.items c) refl refl (seen_inside t.cells.columns.items c (omega arith)) (seen_inside cells.columns.items c (omega arith))
    where
      go : (x y : Option SeenColumn) → column_at t.cells.columns.items c ≡ x → column_at cells.columns.items c ≡ y → is_some x ≡ true → is_some y ≡ true → Q
      go None y e g a b = absurd (cc)
      go (Some x) None e g a b = absurd (cc)
      go (Some x) (Some y) e g a b = f x y e g (r x y e g)

  pub rows_table : IsKeeping cells → ((n : ℕ) → n ≢ c → column_at cells.columns.items n ≡ column_at t.cells.columns.items n) → ((old new : SeenColumn) → column_at t.cells.columns.items c ≡ Some old → column_at cells.columns.items c ≡ Some new → HasRows old new rows) → length cells.columns.items ≡ length t.cells.columns.items → cells.lists ≡ t.cells.lists → IsCellTable (record { layers = t.layers; cells = cells })
  rows_table keeping apart r n lists = by_column r n (λ old new e f g. record {
    cells = keeping;
    listed = n ∙ (k.listed ∙ sym (ap (λ (x : CauseLists). x.item_lists) lists));
    laid = subst (λ (x : CauseLists). AreLaidOut t.layers.items (column_at cells.columns.items) x.item_lists x.state_lists) (sym lists)
        (laid_grown t.layers.items (column_at t.cells.columns.items) (column_at cells.columns.items) t.cells.lists.item_lists t.cells.lists.state_lists l i c rows old new column few e f g apart k.laid);
  })

  pub rows_same : ((p : CellPlace) → kept_outcome cells p ≡ kept_outcome t.cells p) → ((n : ℕ) → n ≢ c → column_at cells.columns.items n ≡ column_at t.cells.columns.items n) → ((old new : SeenColumn) → column_at t.cells.columns.items c ≡ Some old → column_at cells.columns.items c ≡ Some new → HasRows old new rows) → length cells.columns.items ≡ length t.cells.columns.items → IsSame t (record { layers = t.layers; cells = cells })
  rows_same h apart r n = by_column r n (λ old new e f g. table_same t cells h
      (sources_stay t.layers.items (column_at t.cells.columns.items) (column_at cells.columns.items) t.cells.lists.item_lists t.cells.lists.state_lists l i c rows old new column few e f g apart))

-- ---- the lists of a row of a layer are there

zoom_there : (m p : Bool) (n : ℕ) → n ≡ 2 → IfSome (zoom_list m p) (λ l. l < n)
zoom_there true true n e = omega arith
zoom_there true false n e = omega arith
zoom_there false p n e = tt

image_there : (i g : Bool) (n : ℕ) → n ≡ 3 → IfSome (image_list i g) (λ l. l < n)
image_there true true n e = omega arith
image_there true false n e = omega arith
image_there false true n e = omega arith
image_there false false n e = tt

state_there : (first row n : ℕ) → first + row ≤ n → IfSome (state_list first row) (λ l. l < n)
state_there first row n h = by_test row 0
    (λ e. subst (λ o. IfSome o (λ l. l < n)) (sym (ap (λ b. if b then None else (if nat_le (row - 1) (4294967295 - first) then Some (first + (row - 1)) else None)) (is_true row 0 e))) tt)
    (λ d. subst (λ o. IfSome o (λ l. l < n)) (sym (ap (λ b. if b then None else (if nat_le (row - 1) (4294967295 - first) then Some (first + (row - 1)) else None)) (is_false row 0 d))) (go (nat_le (row - 1) (4294967295 - first)) d))
  where
    go : (b : Bool) → row ≢ 0 → IfSome (if b then Some (first + (row - 1)) else None) (λ l. l < n)
    go true d = by_order 0 row (λ p. omega arith) (λ p. absurd (d (omega arith)))
    go false d = tt

pub row_there : (t : CellTable) → IsCellTable t → (l : ℕ) (i : CellItem) (c row : ℕ) → column_of t.layers.items l i ≡ Some c → row < 1 + feature_count (features_in (slice_get t.layers.items l)) → AreThere t.cells.lists (lists_at t.cells.columns.items (record { column = c; row = row }))
row_there t k l i c row e h = go (column_at t.cells.columns.items c) refl
  where
    counted : c < length t.cells.lists.items.lists
    counted = let b = k.laid.below l i c e in let n = k.cells.counted.items.lists in omega arith

    go : (o : Option SeenColumn) → column_at t.cells.columns.items c ≡ o → AreThere t.cells.lists (lists_at t.cells.columns.items (record { column = c; row = row }))
    go None q = subst (λ n. AreThere t.cells.lists n) (sym (ap (lists_in_column (record { column = c; row = row })) q)) (record { item = tt; zoom = tt; image = tt; state = tt })
    go (Some s) q = subst (λ n. AreThere t.cells.lists n) (sym (ap (lists_in_column (record { column = c; row = row })) q)) (by_source s.source refl)
      where
        by_source : (o : Option Source) → s.source ≡ o → AreThere t.cells.lists (lists_by c row s.first_state s.source)
        by_source None r = subst (λ x. AreThere t.cells.lists (lists_by c row s.first_state x)) (sym r) (record { item = counted; zoom = tt; image = tt; state = tt })
        by_source (Some source) r = subst (λ x. AreThere t.cells.lists (lists_by c row s.first_state x)) (sym r) (record {
          item = counted;
          zoom = zoom_there source.mentions.zoom source.paint (length t.cells.lists.zooms.lists) k.cells.counted.zooms.lists;
          image = image_there source.mentions.image source.globals (length t.cells.lists.images.lists) k.cells.counted.images.lists;
          state = by_reads source.mentions.state refl;
        })
          where
            by_reads : (b : Bool) → source.mentions.state ≡ b → IfSome (if b then state_list s.first_state row else None) (λ n. n < length t.cells.lists.states.lists)
            by_reads false w = tt
            by_reads true w =
                let own = k.laid.columns l i c s e q in
                let reads : reads_state s.source ≡ true = ap reads_state r ∙ w in
                let first = own.first reads in
                let states = own.states reads in
                let ends = k.laid.ends l in
                let lists = k.cells.counted.states.lists in
                state_there s.first_state row (length t.cells.lists.states.lists) (omega arith)

-- ---- a cell is kept

row_feature : (f g : Option ℕ) → row_of f ≡ row_of g → feature_eq f g ≡ true
row_feature None None e = refl
row_feature None (Some b) e = absurd (omega arith)
row_feature (Some a) None e = absurd (omega arith)
row_feature (Some a) (Some b) e = is_true a b (omega arith)

feature_row : (f g : Option ℕ) → feature_eq f g ≡ true → row_of f ≡ row_of g
feature_row None None e = refl
feature_row None (Some b) e = absurd (cc)
feature_row (Some a) None e = absurd (cc)
feature_row (Some a) (Some b) e = let q = test_true a b e in omega arith

no_column : (c : ℕ) → Some c ≡ None → ⊥
no_column c e = absurd (cc)

pub cell_kept : (t : CellTable) (cells : KeptCells) (cell : Cell) (p : CellPlace) (v : Evaluated) → IsCellTable t → column_of t.layers.items cell.layer cell.item ≡ Some p.column → row_of cell.feature ≡ p.row → ((q : CellPlace) → kept_outcome cells q ≡ (if same_place p q then Some v else kept_outcome t.cells q)) → (other : Cell) → held_by cells (column_of t.layers.items other.layer other.item) (row_of other.feature) ≡ (if cell_eq cell other then Some v else kept_in_table t other)
cell_kept t cells cell p v k column row h other = by_bool (cell_eq cell other)
    (λ b.
    let parts = and_true (is_item cell.layer cell.item other.layer other.item) (feature_eq cell.feature other.feature) b in
    let item = is_item_true cell.layer other.layer cell.item other.item parts.0 in
    let col : column_of t.layers.items other.layer other.item ≡ Some p.column = sym (λ z. column_of t.layers.items (item.0 z) (item.1 z)) ∙ column in
    let r : row_of other.feature ≡ p.row = sym (feature_row cell.feature other.feature parts.1) ∙ row in
    (λ z. held_by cells (col z) (r z)) ∙ (h p ∙ (ap (λ x. if x then Some v else kept_outcome t.cells p) (place_self p) ∙ sym (ap (λ x. if x then Some v else kept_in_table t other) b))))
    (λ b. go b (column_of t.layers.items other.layer other.item) refl ∙ sym (ap (λ x. if x then Some v else kept_in_table t other) b))
  where
    go : cell_eq cell other ≡ false → (o : Option ℕ) → column_of t.layers.items other.layer other.item ≡ o → held_by cells (column_of t.layers.items other.layer other.item) (row_of other.feature) ≡ kept_in_table t other
    go b None e = ap (λ o. held_by cells o (row_of other.feature)) e ∙ sym (ap (λ o. held_by t.cells o (row_of other.feature)) e)
    go b (Some c) e =
        let q : CellPlace = record { column = c; row = row_of other.feature } in
        let apart : same_place p q ≡ false = by_bool (same_place p q)
        (λ s.
        let same = place_true p q s in
        let col = ap (λ (x : CellPlace). x.column) same in
        let r = ap (λ (x : CellPlace). x.row) same in
        let item = k.laid.apart cell.layer other.layer cell.item other.item p.column column (e ∙ ap Some (sym col)) in
        absurd (false≢true (sym b ∙ both (is_item cell.layer cell.item other.layer other.item) (feature_eq cell.feature other.feature) (is_item_same cell.layer other.layer cell.item other.item item.0 item.1) (row_feature cell.feature other.feature (row ∙ r)))))
        (λ s. s) in
        ap (λ o. held_by cells o (row_of other.feature)) e ∙ (h q ∙ (ap (λ x. if x then Some v else kept_outcome t.cells q) apart ∙ sym (ap (λ o. held_by t.cells o (row_of other.feature)) e)))

pub kept_none : (t : CellTable) (cell : Cell) (p : CellPlace) → column_of t.layers.items cell.layer cell.item ≡ Some p.column → row_of cell.feature ≡ p.row → kept_in_table t cell ≡ None → kept_outcome t.cells p ≡ None
kept_none t cell p column row e = sym (λ z. held_by t.cells (column z) (row z)) ∙ e
