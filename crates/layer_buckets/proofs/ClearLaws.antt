-- A layer is cleared item by item, and forgotten.
use Rattle.std.proofs.Common.{◌≡◌, ◌≢◌, ℕ, ◌+◌, ◌<◌, List, false, nat_eq, Option, Some, None, refl, sym, ap, ◌∙◌, subst, arith, if◌then◌else◌}
use Rattle.std.specs.List.{slice_get}
use Rattle.std.proofs.lemmas.Bool.{false≢true}
use Rattle.index_lists.proofs.Comparing.{is_true, is_false, by_test, by_order}
use Rattle.layer_buckets.specs.KeptSlots.{SeenColumn, column_at}
use Rattle.layer_buckets.specs.LaidOut.{Columns, AreLaidOut, IsColumnOf, IsCellTable, column_of, item_number, item_of, items_in, source_by, states_in, first_state_in, features_in, feature_count}
use Rattle.layer_buckets.specs.Sources.{IsCleared, is_column, no_source_column}
use Rattle.layer_buckets.specs.declared.cell.CellItem.{CellItem}
use Rattle.layer_buckets.specs.declared.layers.LayerColumns.{LayerColumns}
use Rattle.layer_buckets.specs.declared.table.CellTable.{CellTable}
use Rattle.layer_buckets.proofs.ItemLaws.{number_of, item_true, item_number_test, column_past}
use Rattle.layer_buckets.proofs.AddLaws.{column_again}

abbrev seen_or : Option SeenColumn → SeenColumn → SeenColumn
seen_or (Some s) other = s
seen_or None other = other

same_number : (i j : CellItem) → item_number i ≡ item_number j → i ≡ j
same_number i j e = item_true i j (item_number_test i j ∙ is_true (item_number i) (item_number j) e)

pub next_cleared : (b d : CellTable) (l n : ℕ) → IsCellTable b → d.layers.items ≡ b.layers.items → ((c : ℕ) → column_at d.cells.columns.items c ≡ (if is_column c (column_of b.layers.items l (item_of n)) then Some no_source_column else column_at b.cells.columns.items c)) → IsCleared b l n → IsCleared d l (n + 1)
next_cleared b d l n k layers columns cleared i c h e =
    let own : column_of b.layers.items l i ≡ Some c = sym (ap (λ ls. column_of ls l i) layers) ∙ e in
    by_test (item_number i) n
    (λ q.
    let same : i ≡ item_of n = same_number i (item_of n) (q ∙ sym (number_of n)) in
    let column : column_of b.layers.items l (item_of n) ≡ Some c = sym (ap (column_of b.layers.items l) same) ∙ own in
    columns c ∙ ap (λ x. if x then Some no_source_column else column_at b.cells.columns.items c) (ap (is_column c) column ∙ is_true c c refl))
    (λ q. columns c ∙ (ap (λ x. if x then Some no_source_column else column_at b.cells.columns.items c) (go q own (column_of b.layers.items l (item_of n)) refl) ∙ cleared i c (omega arith) own))
  where
    go : item_number i ≢ n → column_of b.layers.items l i ≡ Some c → (o : Option ℕ) → column_of b.layers.items l (item_of n) ≡ o → is_column c (column_of b.layers.items l (item_of n)) ≡ false
    go q own None z = ap (is_column c) z
    go q own (Some x) z = ap (is_column c) z ∙ is_false c x (λ y.
        let item = (k.laid.apart l l i (item_of n) c own (z ∙ ap Some (sym y))).1 in
        q (ap item_number item ∙ number_of n))

pub laid_forgotten : (layers others : List LayerColumns) (seen : Columns) (count total l : ℕ) → ((i : CellItem) → source_by seen (column_of layers l i) ≡ None) → ((i : CellItem) (c : ℕ) → item_number i < items_in (slice_get layers l) → column_of layers l i ≡ Some c → seen c ≡ Some no_source_column) → ((m : ℕ) (i : CellItem) → column_of others m i ≡ column_of layers m i) → ((m : ℕ) → features_in (slice_get others m) ≡ (if nat_eq m l then None else features_in (slice_get layers m))) → ((m : ℕ) → first_state_in (slice_get others m) ≡ first_state_in (slice_get layers m)) → ((m : ℕ) → states_in (slice_get others m) ≡ states_in (slice_get layers m)) → AreLaidOut layers seen count total → AreLaidOut others seen count total
laid_forgotten layers others seen count total l sources cleared c features first states a = record {
  below = λ m i n e. a.below m i n (sym (c m i) ∙ e);
  apart = λ m n i j k e g. a.apart m n i j k (sym (c m i) ∙ e) (sym (c n j) ∙ g);
  columns = λ m i n x e q. by_test m l
      (λ p.
      let own : column_of layers l i ≡ Some n = ap (λ z. column_of layers z i) (sym p) ∙ (sym (c m i) ∙ e) in
      let inside : item_number i < items_in (slice_get layers l) = by_order (item_number i) (items_in (slice_get layers l)) (λ h. h) (λ h. absurd (no_column n (sym (column_past layers l i h) ∙ own))) in
      let same : no_source_column ≡ x = ap (λ o. seen_or o x) (sym (cleared i n inside own) ∙ q) in
      subst (λ y. IsColumnOf (slice_get others m) y) same (record { rows = omega arith; first = λ t. absurd (false≢true t); states = λ t. absurd (false≢true t) }))
      (λ d. column_again (slice_get layers m) (slice_get others m) x (other m d) (first m) (states m) (a.columns m i n x (sym (c m i) ∙ e) q));
  absent = λ m i e. ap (source_by seen) (c m i) ∙ by_test m l
      (λ p. ap (λ z. source_by seen (column_of layers z i)) p ∙ sources i)
      (λ d. a.absent m i (sym (other m d) ∙ e));
  states = λ m n g h x y e. a.states m n g h (subst (λ z. g < z) (states m) x) (subst (λ z. h < z) (states n) y) (sym (ap (λ z. z + g) (first m)) ∙ (e ∙ ap (λ z. z + h) (first n)));
  ends = λ m. let x = a.ends m in let y = first m in let z = states m in omega arith;
  small = a.small;
  rows = λ m. by_test m l
      (λ p. subst (λ x. feature_count x < 4294967295) (sym (features m ∙ ap (λ b. if b then None else features_in (slice_get layers m)) (is_true m l p))) (omega arith))
      (λ d. subst (λ x. feature_count x < 4294967295) (sym (other m d)) (a.rows m));
}
  where
    other : (m : ℕ) → m ≢ l → features_in (slice_get others m) ≡ features_in (slice_get layers m)
    other m d = features m ∙ ap (λ b. if b then None else features_in (slice_get layers m)) (is_false m l d)

    no_column : (n : ℕ) → None ≡ Some n → ⊥
    no_column n e = absurd (cc)

-- where a layer has no place it is not there
pub no_place : (layers : List LayerColumns) (l : ℕ) → slice_get layers l ≡ None → (m : ℕ) → features_in (slice_get layers m) ≡ (if nat_eq m l then None else features_in (slice_get layers m))
no_place layers l e m = by_test m l
    (λ p. ap features_in (ap (slice_get layers) p ∙ e) ∙ sym (ap (λ b. if b then None else features_in (slice_get layers m)) (is_true m l p)))
    (λ d. sym (ap (λ b. if b then None else features_in (slice_get layers m)) (is_false m l d)))
