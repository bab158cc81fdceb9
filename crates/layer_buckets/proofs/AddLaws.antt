-- Layers get features, columns and lists of states.
use Rattle.std.specs.Global.{Global}
use Rattle.std.proofs.Common.{◌≡◌, ◌≢◌, ℕ, ◌+◌, ◌<◌, ◌≤◌, List, length, Vec, true, false, nat_eq, Option, Some, None, refl, sym, ap, ◌∙◌, subst, arith, if◌then◌else◌}
use Rattle.std.specs.List.{slice_get}
use Rattle.std.proofs.lemmas.Bool.{false≢true}
use Rattle.index_lists.proofs.Comparing.{is_true, is_false, by_test}
use Rattle.layer_buckets.specs.Cells.{is_item, reads_state}
use Rattle.layer_buckets.specs.KeptSlots.{SeenColumn, column_at, kept_of, slot_in, outcome_by}
use Rattle.layer_buckets.specs.Keeping.{IsKeeping, kept_outcome}
use Rattle.layer_buckets.specs.LaidOut.{Columns, AreLaidOut, IsColumnOf, IsCellTable, column_of, held_by, row_of, source_by, source_seen, states_in, first_state_in, features_in, feature_count}
use Rattle.layer_buckets.specs.Sources.{StayLayers, StayShown}
use Rattle.layer_buckets.specs.declared.cell.CellItem.{CellItem}
use Rattle.layer_buckets.specs.declared.kept_cells.KeptCells.{KeptCells}
use Rattle.layer_buckets.specs.declared.layers.LayerColumns.{LayerColumns}
use Rattle.layer_buckets.specs.declared.table.CellTable.{CellTable}
use Rattle.layer_buckets.specs.declared.slots.CellPlace.{CellPlace}
use Rattle.layer_buckets.proofs.TableLaws.{laid_again}
use Rattle.layer_buckets.proofs.CellLaws.{held_same}
use Rattle.layer_buckets.proofs.Places.{by_bool, get_past}
use Rattle.layer_buckets.proofs.ItemLaws.{is_item_true}

abbrev seen_or : Option SeenColumn → SeenColumn → SeenColumn
seen_or (Some s) other = s
seen_or None other = other

abbrev column_or : Option ℕ → ℕ → ℕ
column_or (Some c) other = c
column_or None other = other

abbrev new_column : SeenColumn
new_column = record { source = None; first_state = 0; rows = 0 }

pub column_again : (o q : Option LayerColumns) (s : SeenColumn) → features_in q ≡ features_in o → first_state_in q ≡ first_state_in o → states_in q ≡ states_in o → IsColumnOf o s → IsColumnOf q s
column_again o q s f g h c = record {
  rows = subst (λ x. s.rows ≤ 1 + feature_count x) (sym f) c.rows;
  first = λ t. c.first t ∙ sym g;
  states = λ t. subst (λ x. feature_count (features_in q) ≤ x) (sym h) (subst (λ x. feature_count x ≤ states_in o) (sym f) (c.states t));
}

-- ---- the same layers, as they are seen

pub laid_views : (layers others : List LayerColumns) (seen : Columns) (count total : ℕ) → ((l : ℕ) (i : CellItem) → column_of others l i ≡ column_of layers l i) → StayLayers layers others → AreLaidOut layers seen count total → AreLaidOut others seen count total
laid_views layers others seen count total c s a = record {
  below = λ l i n e. a.below l i n (sym (c l i) ∙ e);
  apart = λ l m i j n e f. a.apart l m i j n (sym (c l i) ∙ e) (sym (c m j) ∙ f);
  columns = λ l i n x e q. column_again (slice_get layers l) (slice_get others l) x (s.features l) (s.first l) (s.states l) (a.columns l i n x (sym (c l i) ∙ e) q);
  absent = λ l i e. ap (source_by seen) (c l i) ∙ a.absent l i (sym (s.features l) ∙ e);
  states = λ l m f g h k e. a.states l m f g (subst (λ x. f < x) (s.states l) h) (subst (λ x. g < x) (s.states m) k) (sym (ap (λ x. x + f) (s.first l)) ∙ (e ∙ ap (λ x. x + g) (s.first m)));
  ends = λ l. let x = a.ends l in let y = s.first l in let z = s.states l in omega arith;
  small = a.small;
  rows = λ l. subst (λ x. feature_count x < 4294967295) (sym (s.features l)) (a.rows l);
}

pub shown_views : (t : CellTable) (layers : Vec LayerColumns Global) → ((l : ℕ) (i : CellItem) → column_of layers.items l i ≡ column_of t.layers.items l i) → StayLayers t.layers.items layers.items → StayShown t (record { layers = layers; cells = t.cells })
shown_views t layers c s = record {
  kept = λ cell. ap (λ o. held_by t.cells o (row_of cell.feature)) (c cell.layer cell.item);
  source = λ l i. ap (source_by (column_at t.cells.columns.items)) (c l i);
  features = s.features;
}

pub table_views : (t : CellTable) (layers : Vec LayerColumns Global) → ((l : ℕ) (i : CellItem) → column_of layers.items l i ≡ column_of t.layers.items l i) → StayLayers t.layers.items layers.items → IsCellTable t → IsCellTable (record { layers = layers; cells = t.cells })
table_views t layers c s k = record {
  cells = k.cells;
  listed = k.listed;
  laid = laid_views t.layers.items layers.items (column_at t.cells.columns.items) t.cells.lists.item_lists t.cells.lists.state_lists c s k.laid;
}

-- ---- a layer is added

source_of_seen : (seen : Columns) (o : Option ℕ) (c : ℕ) (s : SeenColumn) → o ≡ Some c → seen c ≡ Some s → source_by seen o ≡ None → s.source ≡ None
source_of_seen seen o c s e q n = sym (ap source_seen q) ∙ (sym (ap (source_by seen) e) ∙ n)

no_features : (f : ℕ) → Some f ≡ None → ⊥
no_features f e = absurd (cc)

pub laid_features : (layers others : List LayerColumns) (seen : Columns) (count total l f : ℕ) → features_in (slice_get layers l) ≡ None → f < 4294967295 → ((m : ℕ) (i : CellItem) → column_of others m i ≡ column_of layers m i) → ((m : ℕ) → features_in (slice_get others m) ≡ (if nat_eq m l then Some f else features_in (slice_get layers m))) → ((m : ℕ) → first_state_in (slice_get others m) ≡ first_state_in (slice_get layers m)) → ((m : ℕ) → states_in (slice_get others m) ≡ states_in (slice_get layers m)) → AreLaidOut layers seen count total → AreLaidOut others seen count total
laid_features layers others seen count total l f none few c features first states a = record {
  below = λ m i n e. a.below m i n (sym (c m i) ∙ e);
  apart = λ m n i j k e g. a.apart m n i j k (sym (c m i) ∙ e) (sym (c n j) ∙ g);
  columns = λ m i n x e q. by_test m l
      (λ p.
      let old = a.columns m i n x (sym (c m i) ∙ e) q in
      let lacks : features_in (slice_get layers m) ≡ None = ap (λ z. features_in (slice_get layers z)) p ∙ none in
      let source : x.source ≡ None = source_of_seen seen (column_of layers m i) n x (sym (c m i) ∙ e) q (a.absent m i lacks) in
      let was = ap feature_count lacks in
      let old_rows = old.rows in
      record {
        rows = omega arith;
        first = λ t. absurd (false≢true (sym (ap reads_state source) ∙ t));
        states = λ t. absurd (false≢true (sym (ap reads_state source) ∙ t));
      })
      (λ d. column_again (slice_get layers m) (slice_get others m) x (other m d) (first m) (states m) (a.columns m i n x (sym (c m i) ∙ e) q));
  absent = λ m i e. by_test m l
      (λ p. absurd (no_features f (sym (features m ∙ ap (λ b. if b then Some f else features_in (slice_get layers m)) (is_true m l p)) ∙ e)))
      (λ d. ap (source_by seen) (c m i) ∙ a.absent m i (sym (other m d) ∙ e));
  states = λ m n g h x y e. a.states m n g h (subst (λ z. g < z) (states m) x) (subst (λ z. h < z) (states n) y) (sym (ap (λ z. z + g) (first m)) ∙ (e ∙ ap (λ z. z + h) (first n)));
  ends = λ m. let x = a.ends m in let y = first m in let z = states m in omega arith;
  small = a.small;
  rows = λ m. by_test m l
      (λ p. subst (λ x. feature_count x < 4294967295) (sym (features m ∙ ap (λ b. if b then Some f else features_in (slice_get layers m)) (is_true m l p))) few)
      (λ d. subst (λ x. feature_count x < 4294967295) (sym (other m d)) (a.rows m));
}
  where
    other : (m : ℕ) → m ≢ l → features_in (slice_get others m) ≡ features_in (slice_get layers m)
    other m d = features m ∙ ap (λ b. if b then Some f else features_in (slice_get layers m)) (is_false m l d)

-- ---- a layer gets lists of states

pub laid_states : (layers others : List LayerColumns) (seen : Columns) (count total more l n : ℕ) → more ≡ total + n → more < 4294967296 → states_in (slice_get layers l) < feature_count (features_in (slice_get layers l)) → ((m : ℕ) (i : CellItem) → column_of others m i ≡ column_of layers m i) → ((m : ℕ) → features_in (slice_get others m) ≡ features_in (slice_get layers m)) → ((m : ℕ) → first_state_in (slice_get others m) ≡ (if nat_eq m l then total else first_state_in (slice_get layers m))) → ((m : ℕ) → states_in (slice_get others m) ≡ (if nat_eq m l then n else states_in (slice_get layers m))) → AreLaidOut layers seen count total → AreLaidOut others seen count more
laid_states layers others seen count total more l n sum small few c features first states a = record {
  below = λ m i k e. a.below m i k (sym (c m i) ∙ e);
  apart = λ m k i j x e g. a.apart m k i j x (sym (c m i) ∙ e) (sym (c k j) ∙ g);
  columns = λ m i k x e q. by_test m l
      (λ p.
      let old = a.columns m i k x (sym (c m i) ∙ e) q in
      record {
        rows = subst (λ z. x.rows ≤ 1 + feature_count z) (sym (features m)) old.rows;
        first = λ t. absurd (past m p (old.states t));
        states = λ t. absurd (past m p (old.states t));
      })
      (λ d. column_again (slice_get layers m) (slice_get others m) x (features m) (first_other m d) (states_other m d) (a.columns m i k x (sym (c m i) ∙ e) q));
  absent = λ m i e. ap (source_by seen) (c m i) ∙ a.absent m i (sym (features m) ∙ e);
  states = λ m k f g x y e. by_test m l
      (λ p. by_test k l
      (λ q. p ∙ sym q)
      (λ d. absurd (let s = first_here m p in let u = first_other k d in let v = states_other k d in let z = a.ends k in omega arith)))
      (λ d. by_test k l
      (λ q. absurd (let s = first_here k q in let u = first_other m d in let v = states_other m d in let z = a.ends m in omega arith))
      (λ h. a.states m k f g (subst (λ z. f < z) (states_other m d) x) (subst (λ z. g < z) (states_other k h) y) (sym (ap (λ z. z + f) (first_other m d)) ∙ (e ∙ ap (λ z. z + g) (first_other k h)))));
  ends = λ m. by_test m l
      (λ p. let s = first_here m p in let u = states_here m p in omega arith)
      (λ d. let s = first_other m d in let u = states_other m d in let z = a.ends m in omega arith);
  small = small;
  rows = λ m. subst (λ x. feature_count x < 4294967295) (sym (features m)) (a.rows m);
}
  where
    first_here : (m : ℕ) → m ≡ l → first_state_in (slice_get others m) ≡ total
    first_here m p = first m ∙ ap (λ b. if b then total else first_state_in (slice_get layers m)) (is_true m l p)

    states_here : (m : ℕ) → m ≡ l → states_in (slice_get others m) ≡ n
    states_here m p = states m ∙ ap (λ b. if b then n else states_in (slice_get layers m)) (is_true m l p)

    first_other : (m : ℕ) → m ≢ l → first_state_in (slice_get others m) ≡ first_state_in (slice_get layers m)
    first_other m d = first m ∙ ap (λ b. if b then total else first_state_in (slice_get layers m)) (is_false m l d)

    states_other : (m : ℕ) → m ≢ l → states_in (slice_get others m) ≡ states_in (slice_get layers m)
    states_other m d = states m ∙ ap (λ b. if b then n else states_in (slice_get layers m)) (is_false m l d)

    past : (m : ℕ) → m ≡ l → feature_count (features_in (slice_get layers m)) ≤ states_in (slice_get layers m) → ⊥
    past m p h =
        let x = ap (λ z. feature_count (features_in (slice_get layers z))) p in
        let y = ap (λ z. states_in (slice_get layers z)) p in
        absurd (omega arith)

-- ---- an item gets a new column

module _ (layers others : List LayerColumns) (seen more : Columns) (count total l : ℕ) (i : CellItem) (a : AreLaidOut layers seen count total) (stay : StayLayers layers others) (none : column_of layers l i ≡ None) (names : (m : ℕ) (j : CellItem) → column_of others m j ≡ (if is_item l i m j then Some count else column_of layers m j)) (new : more count ≡ Some new_column) (old : (n : ℕ) → n ≢ count → more n ≡ seen n) where
  here : (m : ℕ) (j : CellItem) → is_item l i m j ≡ true → column_of others m j ≡ Some count
  here m j b = names m j ∙ ap (λ x. if x then Some count else column_of layers m j) b

  there : (m : ℕ) (j : CellItem) → is_item l i m j ≡ false → column_of others m j ≡ column_of layers m j
  there m j b = names m j ∙ ap (λ x. if x then Some count else column_of layers m j) b

  pub lacked : (m : ℕ) (j : CellItem) → is_item l i m j ≡ true → column_of layers m j ≡ None
  lacked m j b = let p = is_item_true l m i j b in sym (λ z. column_of layers (p.0 z) (p.1 z)) ∙ none

  by_item : {Q : Type 0} (m : ℕ) (j : CellItem) (c : ℕ) → column_of others m j ≡ Some c → ((l ≡ m) × (i ≡ j) → c ≡ count → Q) → (column_of layers m j ≡ Some c → c < count → Q) → Q
  by_item m j c e f g = by_bool (is_item l i m j)
      (λ b. f (is_item_true l m i j b) (ap (λ o. column_or o c) (sym e ∙ here m j b)))
      (λ b. let q : column_of layers m j ≡ Some c = sym (there m j b) ∙ e in g q (a.below m j c q))

  pub source_named : (m : ℕ) (j : CellItem) → source_by more (column_of others m j) ≡ source_by seen (column_of layers m j)
  source_named m j = by_bool (is_item l i m j)
      (λ b. ap (source_by more) (here m j b) ∙ (ap source_seen new ∙ sym (ap (source_by seen) (lacked m j b))))
      (λ b. ap (source_by more) (there m j b) ∙ go (column_of layers m j) refl)
    where
      go : (o : Option ℕ) → column_of layers m j ≡ o → source_by more (column_of layers m j) ≡ source_by seen (column_of layers m j)
      go None e = ap (source_by more) e ∙ sym (ap (source_by seen) e)
      go (Some c) e = ap (source_by more) e ∙ (ap source_seen (old c (λ y. let w = a.below m j c e in absurd (omega arith))) ∙ sym (ap (source_by seen) e))

  pub laid_named : AreLaidOut others more (count + 1) total
  laid_named = record {
    below = λ m j c e. by_item m j c e (λ p q. omega arith) (λ p q. omega arith);
    apart = λ m n j h c e f. by_item m j c e
        (λ p q. by_item n h c f (λ r s. (sym p.0 ∙ r.0, sym p.1 ∙ r.1)) (λ r s. absurd (omega arith)))
        (λ p q. by_item n h c f (λ r s. absurd (omega arith)) (λ r s. a.apart m n j h c p r));
    columns = λ m j c s e q. by_item m j c e
        (λ p z.
        let same : new_column ≡ s = ap (λ o. seen_or o s) (sym (ap more z ∙ new) ∙ q) in
        subst (λ x. IsColumnOf (slice_get others m) x) same (record { rows = omega arith; first = λ t. absurd (false≢true t); states = λ t. absurd (false≢true t) }))
        (λ p z. column_again (slice_get layers m) (slice_get others m) s (stay.features m) (stay.first m) (stay.states m) (a.columns m j c s p (sym (old c (λ y. absurd (omega arith))) ∙ q)));
    absent = λ m j e. source_named m j ∙ a.absent m j (sym (stay.features m) ∙ e);
    states = λ m n f g h k e. a.states m n f g (subst (λ x. f < x) (stay.states m) h) (subst (λ x. g < x) (stay.states n) k) (sym (ap (λ x. x + f) (stay.first m)) ∙ (e ∙ ap (λ x. x + g) (stay.first n)));
    ends = λ m. let x = a.ends m in let y = stay.first m in let z = stay.states m in omega arith;
    small = a.small;
    rows = λ m. subst (λ x. feature_count x < 4294967295) (sym (stay.features m)) (a.rows m);
  }

  pub held_named_by : (cells others_cells : KeptCells) → ((row : ℕ) → kept_outcome others_cells (record { column = count; row = row }) ≡ None) → ((c row : ℕ) → kept_outcome others_cells (record { column = c; row = row }) ≡ kept_outcome cells (record { column = c; row = row })) → (m : ℕ) (j : CellItem) (row : ℕ) → held_by others_cells (column_of others m j) row ≡ held_by cells (column_of layers m j) row
  held_named_by cells others_cells n e m j row = by_bool (is_item l i m j)
      (λ b. ap (λ o. held_by others_cells o row) (here m j b) ∙ (n row ∙ sym (ap (λ o. held_by cells o row) (lacked m j b))))
      (λ b. ap (λ o. held_by others_cells o row) (there m j b) ∙ go (column_of layers m j))
    where
      go : (o : Option ℕ) → held_by others_cells o row ≡ held_by cells o row
      go None = refl
      go (Some c) = e c row

pub held_past : (c : KeptCells) (n row : ℕ) → length c.columns.items ≤ n → kept_outcome c (record { column = n; row = row }) ≡ None
held_past c n row h = ap (outcome_by (kept_of c.slots.items) (record { column = n; row = row })) (ap (slot_in row) (get_past c.columns.items n h))

-- ---- of tables

pub stay_seen_table : (t : CellTable) (layers : Vec LayerColumns Global) (cells : KeptCells) → ((l : ℕ) (i : CellItem) → column_of layers.items l i ≡ column_of t.layers.items l i) → StayLayers t.layers.items layers.items → IsCellTable t → IsKeeping cells → length cells.columns.items ≡ cells.lists.item_lists → cells.columns.items ≡ t.cells.columns.items → cells.lists.state_lists ≡ t.cells.lists.state_lists → IsCellTable (record { layers = layers; cells = cells })
stay_seen_table t layers cells c s k keeping listed columns states = record {
  cells = keeping;
  listed = listed;
  laid = laid_again layers.items (column_at t.cells.columns.items) (column_at cells.columns.items) t.cells.lists.item_lists t.cells.lists.state_lists cells.lists.item_lists cells.lists.state_lists
      (λ n. ap (λ cs. column_at cs n) columns) (sym listed ∙ (ap length columns ∙ k.listed)) states
      (laid_views t.layers.items layers.items (column_at t.cells.columns.items) t.cells.lists.item_lists t.cells.lists.state_lists c s k.laid);
}

pub stay_seen_shown : (t : CellTable) (layers : Vec LayerColumns Global) (cells : KeptCells) → ((l : ℕ) (i : CellItem) → column_of layers.items l i ≡ column_of t.layers.items l i) → StayLayers t.layers.items layers.items → ((p : CellPlace) → kept_outcome cells p ≡ kept_outcome t.cells p) → cells.columns.items ≡ t.cells.columns.items → StayShown t (record { layers = layers; cells = cells })
stay_seen_shown t layers cells c s h columns = record {
  kept = λ cell. held_same t.cells cells h (column_of layers.items cell.layer cell.item) (row_of cell.feature) ∙ ap (λ o. held_by t.cells o (row_of cell.feature)) (c cell.layer cell.item);
  source = λ l i z. source_by (column_at (columns z)) (c l i z);
  features = s.features;
}

stay_then : (a b d : List LayerColumns) → StayLayers a b → StayLayers b d → StayLayers a d
stay_then a b d e f = record {
  features = λ l. f.features l ∙ e.features l;
  first = λ l. f.first l ∙ e.first l;
  states = λ l. f.states l ∙ e.states l;
}

module _ (t : CellTable) (made slot_named : Vec LayerColumns Global) (cells : KeptCells) (l : ℕ) (i : CellItem) (k : IsCellTable t) (none : column_of t.layers.items l i ≡ None) (c : (m : ℕ) (j : CellItem) → column_of made.items m j ≡ column_of t.layers.items m j) (s : StayLayers t.layers.items made.items) (names : (m : ℕ) (j : CellItem) → column_of slot_named.items m j ≡ (if is_item l i m j then Some t.cells.lists.item_lists else column_of made.items m j)) (stay : StayLayers made.items slot_named.items) where
  all_names : (m : ℕ) (j : CellItem) → column_of slot_named.items m j ≡ (if is_item l i m j then Some t.cells.lists.item_lists else column_of t.layers.items m j)
  all_names m j = names m j ∙ ap (λ o. if is_item l i m j then Some t.cells.lists.item_lists else o) (c m j)

  all_stay : StayLayers t.layers.items slot_named.items
  all_stay = stay_then t.layers.items made.items slot_named.items s stay

  module _ (seen : (n : ℕ) → column_at cells.columns.items n ≡ (if nat_eq n (length t.cells.columns.items) then Some new_column else column_at t.cells.columns.items n)) where
    seen_new : column_at cells.columns.items t.cells.lists.item_lists ≡ Some new_column
    seen_new = seen t.cells.lists.item_lists ∙ ap (λ b. if b then Some new_column else column_at t.cells.columns.items t.cells.lists.item_lists) (is_true t.cells.lists.item_lists (length t.cells.columns.items) (sym k.listed))

    seen_old : (n : ℕ) → n ≢ t.cells.lists.item_lists → column_at cells.columns.items n ≡ column_at t.cells.columns.items n
    seen_old n d = seen n ∙ ap (λ b. if b then Some new_column else column_at t.cells.columns.items n) (is_false n (length t.cells.columns.items) (λ q. d (q ∙ k.listed)))

    pub named_table_by : IsKeeping cells → length cells.columns.items ≡ cells.lists.item_lists → cells.lists.state_lists ≡ t.cells.lists.state_lists → cells.lists.item_lists ≡ t.cells.lists.item_lists + 1 → IsCellTable (record { layers = slot_named; cells = cells })
    named_table_by keeping listed states more = record {
      cells = keeping;
      listed = listed;
      laid = subst (λ n. AreLaidOut slot_named.items (column_at cells.columns.items) n cells.lists.state_lists) (sym more)
          (subst (λ n. AreLaidOut slot_named.items (column_at cells.columns.items) (t.cells.lists.item_lists + 1) n) (sym states)
          (laid_named t.layers.items slot_named.items (column_at t.cells.columns.items) (column_at cells.columns.items) t.cells.lists.item_lists t.cells.lists.state_lists l i k.laid all_stay none all_names seen_new seen_old));
    }

    pub named_shown_by : ((p : CellPlace) → kept_outcome cells p ≡ kept_outcome t.cells p) → StayShown t (record { layers = slot_named; cells = cells })
    named_shown_by h = record {
      kept = λ cell. held_named_by t.layers.items slot_named.items (column_at t.cells.columns.items) (column_at cells.columns.items) t.cells.lists.item_lists t.cells.lists.state_lists l i k.laid all_stay none all_names seen_new seen_old t.cells cells
          (λ row. h (record { column = t.cells.lists.item_lists; row = row }) ∙ held_past t.cells t.cells.lists.item_lists row (let n = k.listed in omega arith))
          (λ d row. h (record { column = d; row = row })) cell.layer cell.item (row_of cell.feature);
      source = source_named t.layers.items slot_named.items (column_at t.cells.columns.items) (column_at cells.columns.items) t.cells.lists.item_lists t.cells.lists.state_lists l i k.laid all_stay none all_names seen_new seen_old;
      features = all_stay.features;
    }

pub stay_self : (layers : List LayerColumns) → StayLayers layers layers
stay_self layers = record { features = λ l. refl; first = λ l. refl; states = λ l. refl }

pub states_table : (t : CellTable) (layers : Vec LayerColumns Global) (cells : KeptCells) (l n : ℕ) → IsCellTable t → states_in (slice_get t.layers.items l) < feature_count (features_in (slice_get t.layers.items l)) → ((m : ℕ) (i : CellItem) → column_of layers.items m i ≡ column_of t.layers.items m i) → ((m : ℕ) → features_in (slice_get layers.items m) ≡ features_in (slice_get t.layers.items m)) → ((m : ℕ) → first_state_in (slice_get layers.items m) ≡ (if nat_eq m l then t.cells.lists.state_lists else first_state_in (slice_get t.layers.items m))) → ((m : ℕ) → states_in (slice_get layers.items m) ≡ (if nat_eq m l then n else states_in (slice_get t.layers.items m)))
    → IsKeeping cells → cells.columns.items ≡ t.cells.columns.items → cells.lists.item_lists ≡ t.cells.lists.item_lists → cells.lists.state_lists ≡ t.cells.lists.state_lists + n → cells.lists.state_lists < 4294967296 → IsCellTable (record { layers = layers; cells = cells })
states_table t layers cells l n k few c features first states keeping columns items sum small = record {
  cells = keeping;
  listed = ap length columns ∙ (k.listed ∙ sym items);
  laid = laid_again layers.items (column_at t.cells.columns.items) (column_at cells.columns.items) t.cells.lists.item_lists cells.lists.state_lists cells.lists.item_lists cells.lists.state_lists
      (λ m. ap (λ cs. column_at cs m) columns) items refl
      (laid_states t.layers.items layers.items (column_at t.cells.columns.items) t.cells.lists.item_lists t.cells.lists.state_lists cells.lists.state_lists l n sum small few c features first states k.laid);
}

pub states_shown : (t : CellTable) (layers : Vec LayerColumns Global) (cells : KeptCells) → ((m : ℕ) (i : CellItem) → column_of layers.items m i ≡ column_of t.layers.items m i) → ((m : ℕ) → features_in (slice_get layers.items m) ≡ features_in (slice_get t.layers.items m)) → ((p : CellPlace) → kept_outcome cells p ≡ kept_outcome t.cells p) → cells.columns.items ≡ t.cells.columns.items → StayShown t (record { layers = layers; cells = cells })
states_shown t layers cells c features h columns = record {
  kept = λ cell. held_same t.cells cells h (column_of layers.items cell.layer cell.item) (row_of cell.feature) ∙ ap (λ o. held_by t.cells o (row_of cell.feature)) (c cell.layer cell.item);
  source = λ l i z. source_by (column_at (columns z)) (c l i z);
  features = features;
}
