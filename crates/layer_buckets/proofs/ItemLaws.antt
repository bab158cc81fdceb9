-- Items and their numbers, and the cells of an item, of a layer and of a feature.
use Rattle.std.proofs.Common.{◌≡◌, ◌≢◌, ℕ, ◌+◌, ◌-◌, ◌<◌, ◌≤◌, zero, suc, List, length, set, Bool, true, false, ◌&&◌, nat_eq, nat_lt, nat_le, Option, Some, None, is_some, refl, sym, ap, ◌∙◌, arith, if◌then◌else◌}
use Rattle.std.specs.List.{slice_get}
use Rattle.std.proofs.lemmas.Bool.{false≢true}
use Rattle.std.proofs.lemmas.Bool.Decides.{nat_tests}
use Rattle.index_lists.specs.Holds.{is_list}
use Rattle.index_lists.proofs.Comparing.{is_true, is_false, test_true, by_test, by_order}
use Rattle.operator_values.specs.Evaluated.{Evaluated}
use Rattle.layer_buckets.specs.Cells.{names, item_eq, is_item, feature_eq, reads_state}
use Rattle.layer_buckets.specs.KeptSlots.{SeenColumn, column_at}
use Rattle.layer_buckets.specs.Keeping.{lists_in_column, lists_by, state_list}
use Rattle.layer_buckets.specs.Listing.{is_in}
use Rattle.layer_buckets.specs.LaidOut.{IsCellTable, column_of, column_in, flat, held_by, kept_in_table, row_of, source_by, source_in_table, source_seen, item_number, item_of, items_in, states_in, first_state_in, state_of_feature, IsColumnOf}
use Rattle.layer_buckets.specs.Drops.{listed_by, is_listed, DropsList, Drops}
use Rattle.layer_buckets.specs.declared.cell.Cell.{Cell}
use Rattle.layer_buckets.specs.declared.cell.CellItem.{CellItem}
use Rattle.layer_buckets.specs.declared.cell.CellItem.TheVariants.{Filter, Property}
use Rattle.layer_buckets.specs.declared.cell.Source.{Source}
use Rattle.layer_buckets.specs.declared.cell.Stale.TheVariants as stale
use Rattle.layer_buckets.specs.declared.layers.LayerColumns.{LayerColumns}
use Rattle.layer_buckets.specs.declared.lists.ListName.TheVariants.{Item, State}
use Rattle.layer_buckets.specs.declared.slots.CellPlace.{CellPlace}
use Rattle.layer_buckets.specs.declared.table.CellTable.{CellTable}
use Rattle.layer_buckets.proofs.Places.{and_true, both, by_bool, get_past, get_set_here, get_set_other, get_within, seen_inside}
use Rattle.layer_buckets.proofs.TableLaws.{past_rows, column_by}

-- ---- numbers of items

pub number_of : (n : ℕ) → item_number (item_of n) ≡ n
number_of zero = refl
number_of (suc n) = omega arith

pub item_self : (i : CellItem) → item_eq i i ≡ true
item_self Filter = refl
item_self (Property a) = is_true a a refl

pub item_true : (i j : CellItem) → item_eq i j ≡ true → i ≡ j
item_true Filter Filter e = refl
item_true Filter (Property b) e = absurd (cc)
item_true (Property a) Filter e = absurd (cc)
item_true (Property a) (Property b) e = ap Property (test_true a b e)

pub is_item_true : (l m : ℕ) (i j : CellItem) → is_item l i m j ≡ true → (l ≡ m) × (i ≡ j)
is_item_true l m i j e = let t = and_true (nat_eq l m) (item_eq i j) e in (test_true l m t.0, item_true i j t.1)

pub is_item_same : (l m : ℕ) (i j : CellItem) → l ≡ m → i ≡ j → is_item l i m j ≡ true
is_item_same l m i j e f = both (nat_eq l m) (item_eq i j) (is_true l m e) (ap (item_eq i) (sym f) ∙ item_self i)

pub item_number_test : (i j : CellItem) → item_eq i j ≡ nat_eq (item_number i) (item_number j)
item_number_test Filter Filter = refl
item_number_test Filter (Property b) = sym (is_false 0 (b + 1) (λ e. absurd (omega arith)))
item_number_test (Property a) Filter = sym (is_false (a + 1) 0 (λ e. absurd (omega arith)))
item_number_test (Property a) (Property b) = by_test a b
    (λ e. is_true a b e ∙ sym (is_true (a + 1) (b + 1) (omega arith)))
    (λ d. is_false a b d ∙ sym (is_false (a + 1) (b + 1) (λ e. d (omega arith))))

-- ---- the cells of an item

item_in_column : (c : ℕ) (p : CellPlace) (o : Option SeenColumn) → is_some o ≡ true → is_in (Item c) (lists_in_column p o) ≡ nat_eq p.column c
item_in_column c p None e = absurd (cc)
item_in_column c p (Some s) e = go s.source
  where
    go : (o : Option Source) → is_in (Item c) (lists_by p.column p.row s.first_state o) ≡ nat_eq p.column c
    go None = refl
    go (Some source) = refl

if_same : (b : Bool) → (let n : Option Evaluated = None in n) ≡ (if b then None else None)
if_same true = refl
if_same false = refl

abbrev column_or : Option ℕ → ℕ → ℕ
column_or (Some c) other = c
column_or None other = other

no_column : (c : ℕ) → Some c ≡ None → ⊥
no_column c e = absurd (cc)

pub item_listed : (t : CellTable) → IsCellTable t → (l : ℕ) (i : CellItem) (c : ℕ) → column_of t.layers.items l i ≡ Some c → (cell : Cell) → is_listed (Item c) t cell ≡ is_item l i cell.layer cell.item
item_listed t k l i c h cell = go (column_of t.layers.items cell.layer cell.item) refl
  where
    m : ℕ
    m = cell.layer

    j : CellItem
    j = cell.item

    same_column : is_item l i cell.layer cell.item ≡ true → column_of t.layers.items l i ≡ column_of t.layers.items cell.layer cell.item
    same_column e = let p = is_item_true l cell.layer i cell.item e in λ z. column_of t.layers.items (p.0 z) (p.1 z)

    go : (o : Option ℕ) → column_of t.layers.items cell.layer cell.item ≡ o → listed_by (Item c) t.cells.columns.items o (row_of cell.feature) ≡ is_item l i cell.layer cell.item
    go None e = by_bool (is_item l i cell.layer cell.item)
        (λ b. absurd (no_column c (sym h ∙ (same_column b ∙ e))))
        (λ b. sym b)
    go (Some d) e =
        let within : d < length t.cells.columns.items = let x = k.laid.below cell.layer cell.item d e in let y = k.listed in omega arith in
        item_in_column c (record { column = d; row = row_of cell.feature }) (column_at t.cells.columns.items d) (seen_inside t.cells.columns.items d within)
        ∙ by_bool (is_item l i cell.layer cell.item)
        (λ b. is_true d c (ap (λ o. column_or o d) (sym e ∙ (sym (same_column b) ∙ h))) ∙ sym b)
        (λ b. is_false d c (λ q. let a = k.laid.apart l cell.layer i cell.item c h (e ∙ ap Some q) in absurd (false≢true (sym b ∙ is_item_same l cell.layer i cell.item a.0 a.1))) ∙ sym b)

pub item_missing : (t : CellTable) (l : ℕ) (i : CellItem) → column_of t.layers.items l i ≡ None → (cell : Cell) → kept_in_table t cell ≡ (if is_item l i cell.layer cell.item then None else kept_in_table t cell)
item_missing t l i h cell = by_bool (is_item l i cell.layer cell.item)
    (λ b.
    let p = is_item_true l cell.layer i cell.item b in
    let none : column_of t.layers.items cell.layer cell.item ≡ None = sym (λ z. column_of t.layers.items (p.0 z) (p.1 z)) ∙ h in
    ap (λ o. held_by t.cells o (row_of cell.feature)) none ∙ sym (ap (λ x. if x then None else kept_in_table t cell) b))
    (λ b. sym (ap (λ x. if x then None else kept_in_table t cell) b))

-- ---- the cells of a layer, item by item

item_test : (n : ℕ) (j : CellItem) → item_eq (item_of n) j ≡ nat_eq n (item_number j)
item_test zero Filter = refl
item_test zero (Property b) = sym (is_false zero (b + 1) (λ e. absurd (omega arith)))
item_test (suc n) Filter = sym (is_false (suc n) zero (λ e. absurd (omega arith)))
item_test (suc n) (Property b) = by_test n b
    (λ e. is_true n b e ∙ sym (is_true (suc n) (b + 1) (omega arith)))
    (λ d. is_false n b d ∙ sym (is_false (suc n) (b + 1) (λ e. d (omega arith))))

next_number : {A : Type 0} (a : Bool) (n k : ℕ) (old v new : Option A) → new ≡ (if a && nat_eq n k then None else v) → v ≡ (if a && nat_lt k n then None else old) → new ≡ (if a && nat_lt k (n + 1) then None else old)
next_number false n k old v new e f = e ∙ f
next_number true n k old v new e f = by_test n k
    (λ q. e ∙ (ap (λ b. if b then None else v) (is_true n k q) ∙ sym (ap (λ b. if b then None else old) (below k (n + 1) (omega arith)))))
    (λ d. e ∙ (ap (λ b. if b then None else v) (is_false n k d) ∙ (f ∙ ap (λ b. if b then None else old) (same d))))
  where
    below : (x y : ℕ) → x < y → nat_lt x y ≡ true
    below x y h = grind (arith, nat_tests)

    above : (x y : ℕ) → y ≤ x → nat_lt x y ≡ false
    above x y h = grind (arith, nat_tests)

    same : n ≢ k → nat_lt k n ≡ nat_lt k (n + 1)
    same d = by_order k n
        (λ h. below k n h ∙ sym (below k (n + 1) (omega arith)))
        (λ h. above k n h ∙ sym (above k (n + 1) (let q : n < k = by_order n k (λ x. x) (λ x. absurd (d (omega arith))) in omega arith)))

pub layer_dropped : (l n : ℕ) (cell : Cell) (old v new : Option Evaluated) → new ≡ (if is_item l (item_of n) cell.layer cell.item then None else v) → v ≡ (if nat_eq l cell.layer && nat_lt (item_number cell.item) n then None else old) → new ≡ (if nat_eq l cell.layer && nat_lt (item_number cell.item) (n + 1) then None else old)
layer_dropped l n cell old v new e f = next_number (nat_eq l cell.layer) n (item_number cell.item) old v new (e ∙ ap (λ b. if nat_eq l cell.layer && b then None else v) (item_test n cell.item)) f

-- past the last number there is no column
pub layer_done : (t : CellTable) (l : ℕ) (cell : Cell) (old : Option Evaluated) → kept_in_table t cell ≡ (if nat_eq l cell.layer && nat_lt (item_number cell.item) (items_in (slice_get t.layers.items l)) then None else old) → kept_in_table t cell ≡ (if nat_eq l cell.layer then None else old)
layer_done t l cell old e = by_test l cell.layer
    (λ q. by_order (item_number cell.item) (items_in (slice_get t.layers.items l))
    (λ h. e ∙ (ap (λ b. if b then None else old) (both (nat_eq l cell.layer) (nat_lt (item_number cell.item) (items_in (slice_get t.layers.items l))) (is_true l cell.layer q) (below (item_number cell.item) (items_in (slice_get t.layers.items l)) h)) ∙ sym (ap (λ b. if b then None else old) (is_true l cell.layer q))))
    (λ h. ap (λ o. held_by t.cells o (row_of cell.feature)) (ap (λ m. column_of t.layers.items m cell.item) (sym q) ∙ past (slice_get t.layers.items l) h) ∙ sym (ap (λ b. if b then None else old) (is_true l cell.layer q))))
    (λ d. e ∙ (ap (λ b. if b && nat_lt (item_number cell.item) (items_in (slice_get t.layers.items l)) then None else old) (is_false l cell.layer d) ∙ sym (ap (λ b. if b then None else old) (is_false l cell.layer d))))
  where
    below : (x y : ℕ) → x < y → nat_lt x y ≡ true
    below x y h = grind (arith, nat_tests)

    past : (o : Option LayerColumns) → items_in o ≤ item_number cell.item → column_in cell.item o ≡ None
    past None h = refl
    past (Some x) h = ap flat (get_past x.columns.items (item_number cell.item) h)

-- ---- the cells of a feature

below : (x y : ℕ) → x < y → nat_lt x y ≡ true
below x y h = grind (arith, nat_tests)

not_below : (x y : ℕ) → y ≤ x → nat_lt x y ≡ false
not_below x y h = grind (arith, nat_tests)

fits : (x y : ℕ) → x ≤ y → nat_le x y ≡ true
fits x y h = grind (arith, nat_tests)

and_true_right : (a : Bool) → (a && true) ≡ a
and_true_right true = refl
and_true_right false = refl

abbrev rows_or : Option SeenColumn → ℕ → ℕ
rows_or (Some s) other = s.rows
rows_or None other = other

state_at : (first g : ℕ) → first + g < 4294967296 → state_list first (g + 1) ≡ Some (first + g)
state_at first g h =
    ap (λ b. if b then None else (if nat_le (g + 1 - 1) (4294967295 - first) then Some (first + (g + 1 - 1)) else None)) (is_false (g + 1) 0 (λ e. absurd (omega arith)))
    ∙ (ap (λ b. if b then Some (first + (g + 1 - 1)) else None) (fits (g + 1 - 1) (4294967295 - first) (omega arith))
    ∙ ap (λ n. Some (first + n)) (let same : g + 1 - 1 ≡ g = omega arith in same))

second_false : (a : Bool) → (a && false) ≡ false
second_false true = refl
second_false false = refl

-- A cell that reads no state is in no list of states. One that does is in that of its feature, or it is not kept.
module _ (t : CellTable) (k : IsCellTable t) (l f : ℕ) (cell : Cell) where
  abbrev slot_named : Bool
  slot_named = names (stale.State l f) cell (source_in_table t cell.layer cell.item)

  abbrev own : Option LayerColumns
  own = slice_get t.layers.items cell.layer

  pub by_state : {Q : Type 0} → (kept_in_table t cell ≡ None → Q)
      → (slot_named ≡ false → ((n : ℕ) → is_listed (State n) t cell ≡ false) → Q)
      → ((g : ℕ) → slot_named ≡ (nat_eq l cell.layer && nat_eq f g) → g < states_in own → ((n : ℕ) → is_listed (State n) t cell ≡ nat_eq (first_state_in own + g) n) → Q) → Q
  by_state {Q} none out in_list = go (column_of t.layers.items cell.layer cell.item) refl
    where
      go : (o : Option ℕ) → column_of t.layers.items cell.layer cell.item ≡ o → Q
      go None e = none (ap (λ o. held_by t.cells o (row_of cell.feature)) e)
      go (Some c) e = go_column (column_at t.cells.columns.items c) refl
        where
          place : CellPlace
          place = record { column = c; row = row_of cell.feature }

          test_as : (s : Option SeenColumn) → column_at t.cells.columns.items c ≡ s → slot_named ≡ ((nat_eq l cell.layer && feature_eq (Some f) cell.feature) && reads_state (source_seen s))
          test_as s q = ap (λ o. names (stale.State l f) cell o) (ap (source_by (column_at t.cells.columns.items)) e ∙ ap source_seen q)

          list_as : (s : Option SeenColumn) → column_at t.cells.columns.items c ≡ s → (n : ℕ) → is_listed (State n) t cell ≡ is_in (State n) (lists_in_column place s)
          list_as s q n = ap (λ o. listed_by (State n) t.cells.columns.items o (row_of cell.feature)) e ∙ ap (λ o. is_in (State n) (lists_in_column place o)) q

          go_column : (s : Option SeenColumn) → column_at t.cells.columns.items c ≡ s → Q
          go_column None q = out (test_as None q ∙ second_false (nat_eq l cell.layer && feature_eq (Some f) cell.feature)) (list_as None q)
          go_column (Some s) q = go_source s.source refl
            where
              go_source : (o : Option Source) → s.source ≡ o → Q
              go_source None r = out
                  (test_as (Some s) q ∙ (ap (λ x. (nat_eq l cell.layer && feature_eq (Some f) cell.feature) && reads_state x) r ∙ second_false (nat_eq l cell.layer && feature_eq (Some f) cell.feature)))
                  (λ n. list_as (Some s) q n ∙ ap (λ x. is_in (State n) (lists_by c (row_of cell.feature) s.first_state x)) r)
              go_source (Some source) r = by_bool source.mentions.state reads no_read
                where
                  number_as : (b : Bool) → source.mentions.state ≡ b → (n : ℕ) → is_listed (State n) t cell ≡ is_list n (if b then state_list s.first_state (row_of cell.feature) else None)
                  number_as b w n = list_as (Some s) q n ∙ (ap (λ x. is_in (State n) (lists_by c (row_of cell.feature) s.first_state x)) r ∙ ap (λ x. is_list n (if x then state_list s.first_state (row_of cell.feature) else None)) w)

                  named_as : (b : Bool) → source.mentions.state ≡ b → slot_named ≡ ((nat_eq l cell.layer && feature_eq (Some f) cell.feature) && b)
                  named_as b w = test_as (Some s) q ∙ (ap (λ x. (nat_eq l cell.layer && feature_eq (Some f) cell.feature) && reads_state x) r ∙ ap (λ x. (nat_eq l cell.layer && feature_eq (Some f) cell.feature) && x) w)

                  no_read : source.mentions.state ≡ false → Q
                  no_read w = out (named_as false w ∙ second_false (nat_eq l cell.layer && feature_eq (Some f) cell.feature)) (number_as false w)

                  reads : source.mentions.state ≡ true → Q
                  reads w = go_feature cell.feature refl
                    where
                      column : IsColumnOf own s
                      column = k.laid.columns cell.layer cell.item c s e q

                      reading : reads_state s.source ≡ true
                      reading = ap reads_state r ∙ w

                      go_feature : (o : Option ℕ) → cell.feature ≡ o → Q
                      go_feature None p = out
                          (named_as true w ∙ (ap (λ x. (nat_eq l cell.layer && feature_eq (Some f) x) && true) p ∙ ap (λ x. x && true) (second_false (nat_eq l cell.layer))))
                          (λ n. number_as true w n ∙ ap (λ x. is_list n (state_list s.first_state (row_of x))) p)
                      go_feature (Some g) p = by_order (g + 1) s.rows inside outside
                        where
                          inside : g + 1 < s.rows → Q
                          inside h =
                              let rows = column.rows in
                              let states = column.states reading in
                              let within : g < states_in own = omega arith in
                              let first = column.first reading in
                              let ends = k.laid.ends cell.layer in
                              let small = k.laid.small in
                              in_list g
                              (named_as true w ∙ (ap (λ x. (nat_eq l cell.layer && feature_eq (Some f) x) && true) p ∙ and_true_right (nat_eq l cell.layer && nat_eq f g)))
                              within
                              (λ n. number_as true w n ∙ (ap (λ x. is_list n (state_list s.first_state (row_of x))) p ∙ (ap (is_list n) (state_at s.first_state g (omega arith)) ∙ ap (λ m. nat_eq (m + g) n) first)))

                          outside : s.rows ≤ g + 1 → Q
                          outside h = none
                              (ap (λ o. held_by t.cells o (row_of cell.feature)) e ∙ (ap (λ x. held_by t.cells (Some c) (row_of x)) p
                              ∙ past_rows t k (Some c) cell.layer cell.item (g + 1) e (λ s2 z. let same : s2.rows ≡ s.rows = ap (λ o. rows_or o 0) (sym z ∙ q) in omega arith)))

pub state_known : (o : Option LayerColumns) (f n : ℕ) → state_of_feature o f ≡ Some n → (f < states_in o) × (n ≡ first_state_in o + f)
state_known None f n e = absurd (cc)
state_known (Some x) f n e = by_order f x.states
    (λ h. (h, ap (λ o. column_or o n) (sym e ∙ ap (λ b. if b then Some (x.first_state + f) else None) (below f x.states h))))
    (λ h. absurd (no_column n (sym e ∙ ap (λ b. if b then Some (x.first_state + f) else None) (not_below f x.states h))))

state_there : (o : Option LayerColumns) (f : ℕ) → f < states_in o → state_of_feature o f ≡ Some (first_state_in o + f)
state_there None f h = absurd (omega arith)
state_there (Some x) f h = ap (λ b. if b then Some (x.first_state + f) else None) (below f x.states h)

module _ (t new : CellTable) (k : IsCellTable t) (l f n : ℕ) (number : state_of_feature (slice_get t.layers.items l) f ≡ Some n) where
  same_list : (m g : ℕ) → g < states_in (slice_get t.layers.items m) → nat_eq (first_state_in (slice_get t.layers.items m) + g) n ≡ (nat_eq l m && nat_eq f g)
  same_list m g w = by_bool (nat_eq l m && nat_eq f g)
      (λ b.
      let both_same = and_true (nat_eq l m) (nat_eq f g) b in
      let layer = ap (λ x. first_state_in (slice_get t.layers.items x)) (test_true l m both_same.0) in
      let feature = test_true f g both_same.1 in
      let known = (state_known (slice_get t.layers.items l) f n number).1 in
      is_true (first_state_in (slice_get t.layers.items m) + g) n (omega arith) ∙ sym b)
      (λ b. is_false (first_state_in (slice_get t.layers.items m) + g) n (λ q.
      let known = state_known (slice_get t.layers.items l) f n number in
      let known_number = known.1 in
      let layer = k.laid.states l m f g known.0 w (omega arith) in
      let first = ap (λ x. first_state_in (slice_get t.layers.items x)) layer in
      let feature : f ≡ g = omega arith in
      absurd (false≢true (sym b ∙ both (nat_eq l m) (nat_eq f g) (is_true l m layer) (is_true f g feature)))) ∙ sym b)

  pub state_dropped : DropsList (State n) t new → Drops (stale.State l f) t new
  state_dropped d cell = d cell ∙ by_state t k l f cell
      (λ e. unkept (is_listed (State n) t cell) (names (stale.State l f) cell (source_in_table t cell.layer cell.item)) e)
      (λ slot_named listed. ap (λ b. if b then None else kept_in_table t cell) (listed n ∙ sym slot_named))
      (λ g slot_named w listed. ap (λ b. if b then None else kept_in_table t cell) (listed n ∙ (same_list cell.layer g w ∙ sym slot_named)))
    where
      unkept : (a b : Bool) → kept_in_table t cell ≡ None → (if a then None else kept_in_table t cell) ≡ (if b then None else kept_in_table t cell)
      unkept a b e = ap (λ v. if a then None else v) e ∙ (sym (if_same a) ∙ (if_same b ∙ ap (λ v. if b then None else v) (sym e)))

pub state_missing : (t : CellTable) → IsCellTable t → (l f : ℕ) → state_of_feature (slice_get t.layers.items l) f ≡ None → Drops (stale.State l f) t t
state_missing t k l f e cell = by_state t k l f cell
    (λ v. v ∙ (if_same (names (stale.State l f) cell (source_in_table t cell.layer cell.item)) ∙ ap (λ x. if names (stale.State l f) cell (source_in_table t cell.layer cell.item) then None else x) (sym v)))
    (λ slot_named listed. sym (ap (λ b. if b then None else kept_in_table t cell) slot_named))
    (λ g slot_named w listed. sym (ap (λ b. if b then None else kept_in_table t cell) (slot_named ∙ other g w)))
  where
    other : (g : ℕ) → g < states_in (slice_get t.layers.items cell.layer) → (nat_eq l cell.layer && nat_eq f g) ≡ false
    other g w = by_bool (nat_eq l cell.layer && nat_eq f g)
        (λ b.
        let both_same = and_true (nat_eq l cell.layer) (nat_eq f g) b in
        let layer = ap (λ x. states_in (slice_get t.layers.items x)) (test_true l cell.layer both_same.0) in
        let feature = test_true f g both_same.1 in
        absurd (no_column (first_state_in (slice_get t.layers.items l) + f) (sym (state_there (slice_get t.layers.items l) f (omega arith)) ∙ e)))
        (λ b. b)

-- ---- no row has so great a number

pub unrowed : (t : CellTable) → IsCellTable t → (cell : Cell) → 4294967296 ≤ row_of cell.feature → kept_in_table t cell ≡ None
unrowed t k cell h = past_rows t k (column_of t.layers.items cell.layer cell.item) cell.layer cell.item (row_of cell.feature) refl (go (column_of t.layers.items cell.layer cell.item) refl)
  where
    go : (o : Option ℕ) → column_of t.layers.items cell.layer cell.item ≡ o → (s : SeenColumn) → column_by (column_at t.cells.columns.items) o ≡ Some s → s.rows ≤ row_of cell.feature
    go None e s q = absurd (cc)
    go (Some c) e s q =
        let column = k.laid.columns cell.layer cell.item c s e q in
        let rows = column.rows in
        let few = k.laid.rows cell.layer in
        omega arith

-- ---- a column gets its name

pub name_set : (layers : List LayerColumns) (layer : ℕ) (new old : LayerColumns) (item : CellItem) (column : ℕ) → slice_get layers layer ≡ Some old → ((i : CellItem) → flat (slice_get new.columns.items (item_number i)) ≡ (if item_eq item i then Some column else flat (slice_get old.columns.items (item_number i)))) → (l : ℕ) (i : CellItem) → column_of (set layers layer new) l i ≡ (if is_item layer item l i then Some column else column_of layers l i)
name_set layers layer new old item column here names l i = by_test l layer
    (λ e. ap (column_in i) (ap (slice_get (set layers layer new)) e ∙ get_set_here layers layer new (get_within layers layer (ap is_some here)))
    ∙ (names i ∙ ((λ z. if item_eq item i then Some column else column_in i (was e z)) ∙ sym (ap (λ b. if b && item_eq item i then Some column else column_of layers l i) (is_true layer l (sym e))))))
    (λ d. ap (column_in i) (get_set_other layers layer new l d) ∙ sym (ap (λ b. if b && item_eq item i then Some column else column_of layers l i) (is_false layer l (λ q. d (sym q)))))
  where
    was : l ≡ layer → Some old ≡ slice_get layers l
    was e = sym (ap (slice_get layers) e ∙ here)

pub items_within : (layers : List LayerColumns) (l n : ℕ) → n < items_in (slice_get layers l) → l < length layers
items_within layers l n h = get_within layers l (go (slice_get layers l) h)
  where
    go : (o : Option LayerColumns) → n < items_in o → is_some o ≡ true
    go None w = absurd (omega arith)
    go (Some x) w = refl

-- ---- the sources of a layer, item by item

pub source_dropped : (l n m : ℕ) (j : CellItem) (old v new : Option Source) → new ≡ (if is_item l (item_of n) m j then None else v) → v ≡ (if nat_eq l m && nat_lt (item_number j) n then None else old) → new ≡ (if nat_eq l m && nat_lt (item_number j) (n + 1) then None else old)
source_dropped l n m j old v new e f = next_number (nat_eq l m) n (item_number j) old v new (e ∙ ap (λ b. if nat_eq l m && b then None else v) (item_test n j)) f

past_items : (o : Option LayerColumns) (j : CellItem) → items_in o ≤ item_number j → column_in j o ≡ None
past_items None j h = refl
past_items (Some x) j h = ap flat (get_past x.columns.items (item_number j) h)

pub source_done : (t : CellTable) (l m : ℕ) (j : CellItem) (old : Option Source) → source_in_table t m j ≡ (if nat_eq l m && nat_lt (item_number j) (items_in (slice_get t.layers.items l)) then None else old) → source_in_table t m j ≡ (if nat_eq l m then None else old)
source_done t l m j old e = by_test l m
    (λ q. by_order (item_number j) (items_in (slice_get t.layers.items l))
    (λ h. e ∙ (ap (λ b. if b then None else old) (both (nat_eq l m) (nat_lt (item_number j) (items_in (slice_get t.layers.items l))) (is_true l m q) (below (item_number j) (items_in (slice_get t.layers.items l)) h)) ∙ sym (ap (λ b. if b then None else old) (is_true l m q))))
    (λ h. ap (source_by (column_at t.cells.columns.items)) (ap (λ x. column_of t.layers.items x j) (sym q) ∙ past_items (slice_get t.layers.items l) j h) ∙ sym (ap (λ b. if b then None else old) (is_true l m q))))
    (λ d. e ∙ (ap (λ b. if b && nat_lt (item_number j) (items_in (slice_get t.layers.items l)) then None else old) (is_false l m d) ∙ sym (ap (λ b. if b then None else old) (is_false l m d))))

pub column_past : (layers : List LayerColumns) (l : ℕ) (j : CellItem) → items_in (slice_get layers l) ≤ item_number j → column_of layers l j ≡ None
column_past layers l j h = past_items (slice_get layers l) j h
