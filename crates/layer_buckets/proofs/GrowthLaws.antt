-- More slots, and more rows of a column.
use Rattle.std.proofs.Common.{◌≡◌, ◌≢◌, ℕ, ◌<◌, List, length, true, Option, Some, None, is_some, refl, sym, ap, ◌∙◌, subst, arith, if◌then◌else◌}
use Rattle.index_lists.proofs.Comparing.{by_test}
use Rattle.layer_buckets.specs.Growing.{HasRows, StaySeen}
use Rattle.layer_buckets.specs.KeptSlots.{Kept, SeenColumn, column_at, kept_of, place_in, outcome_for, outcome_by, outcome_at, slot_of}
use Rattle.layer_buckets.specs.Keeping.{lists_at, lists_in_column, lists_by}
use Rattle.layer_buckets.specs.Listing.{AreThere}
use Rattle.layer_buckets.specs.declared.columns.Column.{Column}
use Rattle.layer_buckets.specs.declared.kept_cells.KeptCells.{KeptCells}
use Rattle.layer_buckets.specs.declared.lists.CauseLists.{CauseLists}
use Rattle.layer_buckets.specs.declared.slots.CellPlace.{CellPlace}
use Rattle.layer_buckets.specs.declared.slots.ValueSlot.{ValueSlot}
use Rattle.layer_buckets.proofs.Places.{by_place, seen_inside}

pub stay_then : (a b d : KeptCells) → StaySeen a b → StaySeen b d → StaySeen a d
stay_then a b d e f = record {
  columns = f.columns ∙ e.columns;
  items = f.items ∙ e.items;
  states = f.states ∙ e.states;
  kept_outcome = λ p. f.kept_outcome p ∙ e.kept_outcome p;
}

-- ---- more rows

pub lists_grown : (columns others : List Column) (c rows : ℕ) → c < length columns → length others ≡ length columns → ((n : ℕ) → n ≢ c → column_at others n ≡ column_at columns n) → ((old new : SeenColumn) → column_at columns c ≡ Some old → column_at others c ≡ Some new → HasRows old new rows) → (p : CellPlace) → lists_at others p ≡ lists_at columns p
lists_grown columns others c rows w l o r p = by_test p.column c
    (λ e. ap (λ n. lists_in_column p (column_at others n)) e ∙ (go (column_at columns c) (column_at others c) refl refl (seen_inside columns c w) (seen_inside others c (omega arith)) ∙ sym (ap (λ n. lists_in_column p (column_at columns n)) e)))
    (λ d. ap (lists_in_column p) (o p.column d))
  where
    go : (x y : Option SeenColumn) → column_at columns c ≡ x → column_at others c ≡ y → is_some x ≡ true → is_some y ≡ true → lists_in_column p (column_at others c) ≡ lists_in_column p (column_at columns c)
    go None y e f a b = absurd (cc)
    go (Some x) None e f a b = absurd (cc)
    go (Some x) (Some y) e f a b =
        let h = r x y e f in
        ap (lists_in_column p) f ∙ ((λ i. lists_by p.column p.row (h.first i) (h.source i)) ∙ sym (ap (lists_in_column p) e))

no_slot_named : (s : ℕ) → None ≡ Some s → ⊥
no_slot_named s e = absurd (cc)

pub there_grown : (lists : CauseLists) (columns others : List Column) (c rows : ℕ) → ((p : CellPlace) → lists_at others p ≡ lists_at columns p) → ((p : CellPlace) (s : ℕ) → slot_of columns p ≡ Some s → AreThere lists (lists_at columns p)) → ((row : ℕ) → row < rows → AreThere lists (lists_at columns (record { column = c; row = row }))) → ((p : CellPlace) (s : ℕ) → slot_of columns p ≡ None → slot_of others p ≡ Some s → (p.column ≡ c) × (p.row < rows) × (s ≡ 0)) → (p : CellPlace) (s : ℕ) → slot_of others p ≡ Some s → AreThere lists (lists_at others p)
there_grown lists columns others c rows same old new fresh p s e = subst (λ n. AreThere lists n) (sym (same p)) (go (slot_of columns p) refl)
  where
    go : (o : Option ℕ) → slot_of columns p ≡ o → AreThere lists (lists_at columns p)
    go (Some r) q = old p r q
    go None q =
        let f = fresh p s q e in
        let place : record { column = c; row = p.row } ≡ p = λ i. record { column = sym f.0 i; row = p.row } in
        subst (λ x. AreThere lists (lists_at columns x)) place (new p.row f.1)

-- what names no slot is kept in none
unkept_for : (columns : List Column) (slots : List ValueSlot) (p : CellPlace) (s : ℕ) → ((s : ℕ) (q : CellPlace) → place_in (kept_of slots s) ≡ Some q → slot_of columns q ≡ Some s) → slot_of columns p ≡ None → outcome_for p (kept_of slots s) ≡ None
unkept_for columns slots p s b n = go (kept_of slots s) refl
  where
    go : (k : Option Kept) → kept_of slots s ≡ k → outcome_for p k ≡ None
    go None e = refl
    go (Some k) e = by_place k.place p
        (λ q. absurd (no_slot_named s (sym n ∙ (ap (slot_of columns) (sym q) ∙ b s k.place (ap place_in e)))))
        (λ f. ap (λ t. if t then Some k.outcome else None) f)

pub held_grown : (columns others : List Column) (slots : List ValueSlot) → ((s : ℕ) (q : CellPlace) → place_in (kept_of slots s) ≡ Some q → slot_of columns q ≡ Some s) → ((p : CellPlace) (s : ℕ) → slot_of columns p ≡ Some s → slot_of others p ≡ Some s) → (p : CellPlace) → outcome_at others slots p ≡ outcome_at columns slots p
held_grown columns others slots b stay p = go (slot_of columns p) (slot_of others p) refl refl
  where
    go : (x y : Option ℕ) → slot_of columns p ≡ x → slot_of others p ≡ y → outcome_at others slots p ≡ outcome_at columns slots p
    go (Some s) y e f = ap (outcome_by (kept_of slots) p) (stay p s e ∙ sym e)
    go None None e f = ap (outcome_by (kept_of slots) p) (f ∙ sym e)
    go None (Some s) e f = ap (outcome_by (kept_of slots) p) f ∙ (unkept_for columns slots p s b e ∙ sym (ap (outcome_by (kept_of slots) p) e))
