-- What is kept, after a slot is emptied or filled.
use Rattle.std.specs.Global.{Global}
use Rattle.std.proofs.Common.{◌≡◌, ◌≢◌, ℕ, ◌<◌, ◌≤◌, List, length, set, Bool, true, false, Option, Some, None, Vec, is_some, refl, sym, ap, ◌∙◌, subst, arith, if◌then◌else◌}
use Rattle.std.specs.Prelude.{IfSome, IfNone, slice_get}
use Rattle.std.proofs.lemmas.Bool.{false≢true}
use Rattle.operator_values.specs.Evaluated.{Evaluated}
use Rattle.layer_buckets.specs.KeptSlots.{Kept, kept_in, kept_of, no_slot, place_in, is_place, same_place, outcome_for, outcome_by, outcome_at, slot_in, slot_of, column_at}
use Rattle.layer_buckets.specs.Keeping.{IsKeeping, kept_outcome, slot_named, lists_at, lists_of, lists_in_column}
use Rattle.layer_buckets.specs.Listing.{no_lists, is_in, list_named, AreThere, MovesNumbers, AreWider, AreCounted}
use Rattle.layer_buckets.specs.declared.columns.Column.{Column}
use Rattle.layer_buckets.specs.declared.kept_cells.KeptCells.{KeptCells}
use Rattle.layer_buckets.specs.declared.lists.CauseLists.{CauseLists}
use Rattle.layer_buckets.specs.declared.lists.ListName.{ListName}
use Rattle.layer_buckets.specs.declared.lists.ListNumbers.{ListNumbers}
use Rattle.layer_buckets.specs.declared.slots.CellPlace.{CellPlace}
use Rattle.layer_buckets.specs.declared.slots.ValueSlot.{ValueSlot}
use Rattle.layer_buckets.proofs.Places.{by_bool, get_past, place_true}
use Rattle.layer_buckets.proofs.SlotLaws.{kept_here, kept_other}
use Rattle.layer_buckets.proofs.Listings.{first_in, none_in, in_none, hold_same}

-- ---- the lists of slots

pub lists_same : (numbers others : CellPlace → ListNumbers) (k : Option Kept) → ((p : CellPlace) → others p ≡ numbers p) → lists_of others k ≡ lists_of numbers k
lists_same numbers others None e = refl
lists_same numbers others (Some k) e = e k.place

pub moves_out : (numbers : CellPlace → ListNumbers) (slots : List ValueSlot) (slot : ℕ) → slot < length slots → MovesNumbers slot no_lists (λ s. lists_of numbers (kept_of slots s)) (λ s. lists_of numbers (kept_of (set slots slot no_slot) s))
moves_out numbers slots slot w = record {
  here = ap (lists_of numbers) (kept_here slots slot no_slot w);
  others = λ s d. ap (lists_of numbers) (kept_other slots slot no_slot s d);
}

pub moves_in : (numbers others : CellPlace → ListNumbers) (slots : List ValueSlot) (slot : ℕ) (x : ValueSlot) (k : Kept) → slot < length slots → kept_in (Some x) ≡ Some k → ((p : CellPlace) → others p ≡ numbers p) → MovesNumbers slot (numbers k.place) (λ s. lists_of numbers (kept_of slots s)) (λ s. lists_of others (kept_of (set slots slot x) s))
moves_in numbers others slots slot x k w e same = record {
  here = ap (lists_of others) (kept_here slots slot x w ∙ e) ∙ same k.place;
  others = λ s d. ap (lists_of others) (kept_other slots slot x s d) ∙ lists_same numbers others (kept_of slots s) same;
}

-- ---- the first slot of a list

pub first_kept : (name : ListName) (numbers : CellPlace → ListNumbers) (k : Option Kept) → is_in name (lists_of numbers k) ≡ true → is_some k ≡ true
first_kept name numbers None e = absurd (false≢true (sym (in_none name) ∙ e))
first_kept name numbers (Some k) e = refl

pub first_found : (c : KeptCells) (name : ListName) → IsKeeping c → (r : Option ℕ) → r ≡ slice_get (list_named c.lists name) 0 → IfSome r (λ slot. is_in name (lists_of (lists_at c.columns.items) (kept_of c.slots.items slot)) ≡ true)
first_found c name k None e = tt
first_found c name k (Some slot) e = first_in c.lists (λ s. lists_of (lists_at c.columns.items) (kept_of c.slots.items s)) name slot k.hold (sym e)

pub first_lacks : (c : KeptCells) (name : ListName) → IsKeeping c → (r : Option ℕ) → r ≡ slice_get (list_named c.lists name) 0 → IfNone r ((p : CellPlace) → is_in name (lists_at c.columns.items p) ≡ true → kept_outcome c p ≡ None)
first_lacks c name k (Some slot) e = tt
first_lacks c name k None e = λ p t. go p t (slot_of c.columns.items p)
  where
    unkept : (p : CellPlace) (o : Option Kept) → is_in name (lists_at c.columns.items p) ≡ true → is_in name (lists_of (lists_at c.columns.items) o) ≡ false → outcome_for p o ≡ None
    unkept p None t f = refl
    unkept p (Some o) t f = by_bool (same_place o.place p)
        (λ s. absurd (false≢true (sym f ∙ (ap (λ q. is_in name (lists_at c.columns.items q)) (place_true o.place p s) ∙ t))))
        (λ s. ap (λ b. if b then Some o.outcome else None) s)

    go : (p : CellPlace) → is_in name (lists_at c.columns.items p) ≡ true → (o : Option ℕ) → outcome_by (kept_of c.slots.items) p o ≡ None
    go p t None = refl
    go p t (Some s) = unkept p (kept_of c.slots.items s) t (none_in c.lists (λ s. lists_of (lists_at c.columns.items) (kept_of c.slots.items s)) name k.hold (sym e) s)

-- ---- dropping a list, slot by slot

pub dropped : (name : ListName) (numbers : CellPlace → ListNumbers) (k : Option Kept) (p : CellPlace) (old new r : Option Evaluated) → is_in name (lists_of numbers k) ≡ true → new ≡ (if is_place p (place_in k) then None else old) → (if is_in name (numbers p) then None else old) ≡ r → (if is_in name (numbers p) then None else new) ≡ r
dropped name numbers k p old new r t e f = by_bool (is_in name (numbers p))
    (λ b. ap (λ x. if x then None else new) b ∙ (sym (ap (λ x. if x then None else old) b) ∙ f))
    (λ b. ap (λ y. if is_in name (numbers p) then None else y) (e ∙ ap (λ x. if x then None else old) (other k t b)) ∙ f)
  where
    other : (k : Option Kept) → is_in name (lists_of numbers k) ≡ true → is_in name (numbers p) ≡ false → is_place p (place_in k) ≡ false
    other None t b = refl
    other (Some k) t b = by_bool (same_place k.place p)
        (λ s. absurd (false≢true (sym b ∙ (sym (ap (λ q. is_in name (numbers q)) (place_true k.place p s)) ∙ t))))
        (λ s. s)

pub all_dropped : (b : Bool) (old new : Option Evaluated) → (b ≡ true → new ≡ None) → (if b then None else new) ≡ (if b then None else old) → new ≡ (if b then None else old)
all_dropped true old new f e = f refl
all_dropped false old new f e = e

-- ---- a place names a slot

pub named_there : (c : KeptCells) (p : CellPlace) → IsKeeping c → is_some (slot_named c p) ≡ true → AreThere c.lists (lists_at c.columns.items p)
named_there c p k e = go (slot_named c p) refl e
  where
    go : (o : Option ℕ) → slot_named c p ≡ o → is_some o ≡ true → AreThere c.lists (lists_at c.columns.items p)
    go None q t = absurd (cc)
    go (Some s) q t = k.there p s q

pub lists_seen : (columns others : List Column) → ((n : ℕ) → column_at others n ≡ column_at columns n) → (p : CellPlace) → lists_at others p ≡ lists_at columns p
lists_seen columns others e p = ap (lists_in_column p) (e p.column)

pub there_filled : (c : KeptCells) (columns : List Column) (place : CellPlace) (slot : ℕ) → IsKeeping c → is_some (slot_named c place) ≡ true → ((q : CellPlace) → slot_of columns q ≡ (if same_place place q then Some slot else slot_named c q)) → ((n : ℕ) → column_at columns n ≡ column_at c.columns.items n) → (p : CellPlace) (s : ℕ) → slot_of columns p ≡ Some s → AreThere c.lists (lists_at columns p)
there_filled c columns place slot k i names seen p s e = subst (λ n. AreThere c.lists n) (sym (lists_seen c.columns.items columns seen p)) (by_bool (same_place place p)
    (λ t. subst (λ q. AreThere c.lists (lists_at c.columns.items q)) (place_true place p t) (named_there c place k i))
    (λ f. k.there p s (sym (names p ∙ ap (λ b. if b then Some slot else slot_named c p) f) ∙ e)))

-- ---- columns and lists are added

pub keeping_wider : (c : KeptCells) (columns : Vec Column Global) (lists : CauseLists) → IsKeeping c → AreWider c.lists lists → AreCounted lists → ((p : CellPlace) → slot_of columns.items p ≡ slot_named c p) → ((p : CellPlace) (s : ℕ) → slot_named c p ≡ Some s → lists_at columns.items p ≡ lists_at c.columns.items p) → IsKeeping (record { columns = columns; slots = c.slots; free = c.free; lists = lists })
keeping_wider c columns lists k w counted names same = record {
  hold = hold_same lists (λ s. lists_of (lists_at c.columns.items) (kept_of c.slots.items s)) (λ s. lists_of (lists_at columns.items) (kept_of c.slots.items s)) (w.hold (λ s. lists_of (lists_at c.columns.items) (kept_of c.slots.items s)) k.hold) (λ s. go s (kept_of c.slots.items s) refl);
  have = w.have (length c.slots.items) k.have;
  counted = counted;
  there = λ p s e.
      let old : slot_named c p ≡ Some s = sym (names p) ∙ e in
      subst (λ n. AreThere lists n) (sym (same p s old)) (w.there (lists_at c.columns.items p) (k.there p s old));
  back = λ s p e. names p ∙ k.back s p e;
  free = k.free;
  within = k.within;
  full = k.full;
  room = k.room;
}
  where
    go : (s : ℕ) (o : Option Kept) → kept_of c.slots.items s ≡ o → lists_of (lists_at columns.items) o ≡ lists_of (lists_at c.columns.items) o
    go s None e = refl
    go s (Some x) e = same x.place s (k.back s x.place (ap place_in e))

-- a place that names a slot is in a column before the last
pub lists_before : (columns others : List Column) (count : ℕ) → length columns ≡ count → ((n : ℕ) → n ≢ count → column_at others n ≡ column_at columns n) → (p : CellPlace) (s : ℕ) → slot_of columns p ≡ Some s → lists_at others p ≡ lists_at columns p
lists_before columns others count l e p s q = ap (lists_in_column p) (e p.column (λ z. absurd (past (omega arith))))
  where
    past : length columns ≤ p.column → ⊥
    past h = absurd (no_slot_in (sym (ap (slot_in p.row) (get_past columns p.column h)) ∙ q))
      where
        no_slot_in : None ≡ Some s → ⊥
        no_slot_in z = absurd (cc)

pub held_named : (c : KeptCells) (columns : List Column) → ((p : CellPlace) → slot_of columns p ≡ slot_named c p) → (p : CellPlace) → outcome_at columns c.slots.items p ≡ kept_outcome c p
held_named c columns names p = ap (outcome_by (kept_of c.slots.items) p) (names p)
