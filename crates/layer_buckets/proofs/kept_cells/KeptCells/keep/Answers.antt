use Rattle.std.proofs.Common.{◌≡◌, ℕ, ◌+◌, ◌<◌, ◌≤◌, List, ◌∷◌, [], Some, length, length-set, set, true, sym, ap, ◌∙◌, subst, arith}
use Rattle.std.specs.Prelude.{is_some}
use Rattle.index_lists.specs.SlotLists.{times_in}
use Rattle.index_lists.specs.Holds.{one_of}
use Rattle.layer_buckets.specs.KeptSlots.{Kept, kept_of, kept_in, place_in, full_count, outcome_at, slot_of}
use Rattle.layer_buckets.specs.Keeping.{lists_at, lists_of}
use Rattle.layer_buckets.specs.Listing.{AreThere, HoldAll, HaveSlots, MovesNumbers}
use Rattle.layer_buckets.specs.Outcomes.{outcome_owned}
use Rattle.layer_buckets.specs.declared.lists.ListNumbers.{ListNumbers}
use Rattle.layer_buckets.specs.declared.slots.CellPlace.{CellPlace}
use Rattle.layer_buckets.specs.declared.slots.ValueSlot.{ValueSlot}
use Rattle.layer_buckets.proofs.Listings.{unlisted, there_alike, have_alike, counted_alike}
use Rattle.layer_buckets.proofs.SlotLaws.{full_filled, outcome_filled, free_filled, taken_unkept, taken_within, back_filled, longer}
use Rattle.layer_buckets.proofs.Keeping.{moves_in, named_there, there_filled, lists_seen}
use Rattle.layer_buckets.proofs.kept_cells.KeptCells.keep.Goals as goal

pub put-requires-clause-there : goal.put-requires-clause-there
put-requires-clause-there c =
    let b = c.args.self.now in
    subst (λ n. AreThere b.lists n) (sym c.numbers_at-numbers.ensures) (named_there b c.args.place c.requires.sound c.requires.slot_named)

pub put-requires-clause-slot : goal.put-requires-clause-slot
put-requires-clause-slot c =
    let b = c.args.self.now in
    let slot = c.take_free-slot.result in
    let G : List ℕ → Type 0 = λ x. (s : ℕ) → 0 < times_in s x → s < length b.slots.items in
    let w : slot < length b.slots.items = taken_within c.take_free-slot.new.free.items slot (length b.slots.items) (subst G c.take_free-slot.ensures.items c.requires.sound.within) in
    let have = c.requires.sound.have in
    (omega (arith, have.items), omega (arith, have.zooms), omega (arith, have.images), omega (arith, have.states))

pub put-requires-clause-free : goal.put-requires-clause-free
put-requires-clause-free c =
    let b = c.args.self.now in
    let slot = c.take_free-slot.result in
    let F : List ℕ → Type 0 = λ x. times_in slot x + one_of (is_some (kept_of b.slots.items slot)) ≤ 1 in
    let none = taken_unkept c.take_free-slot.new.free.items b.slots.items slot (subst F c.take_free-slot.ensures.items (c.requires.sound.free slot)) in
    unlisted b.lists (λ s. lists_of (lists_at b.columns.items) (kept_of b.slots.items s)) slot c.requires.sound.hold (ap (lists_of (lists_at b.columns.items)) none)

pub fill-requires : goal.fill-requires
fill-requires c =
    let b = c.args.self.now in
    let slot = c.take_free-slot.result in
    let G : List ℕ → Type 0 = λ x. (s : ℕ) → 0 < times_in s x → s < length b.slots.items in
    taken_within c.take_free-slot.new.free.items slot (length b.slots.items) (subst G c.take_free-slot.ensures.items c.requires.sound.within)

pub returns-clause-sound : goal.returns-clause-sound
returns-clause-sound c =
    let b = c.args.self.now in
    let sound = c.requires.sound in
    let place = c.args.place in
    let slot = c.take_free-slot.result in
    let slots = b.slots.items in
    let free = c.take_free-slot.new.free.items in
    let f = c.take_free-slot.ensures.items in
    let x = c.full_slot-kept.result in
    let k : Kept = record { place = place; outcome = outcome_owned c.args.outcome } in
    let keeps : kept_in (Some x) ≡ Some k = c.full_slot-kept.ensures in
    let full : is_some (kept_in (Some x)) ≡ true = ap is_some keeps in
    let F : List ℕ → Type 0 = λ y. times_in slot y + one_of (is_some (kept_of slots slot)) ≤ 1 in
    let none = taken_unkept free slots slot (subst F f (sound.free slot)) in
    let G : List ℕ → Type 0 = λ y. (s : ℕ) → 0 < times_in s y → s < length slots in
    let w : slot < length slots = taken_within free slot (length slots) (subst G f sound.within) in
    let H : List ℕ → Type 0 = λ y. (s : ℕ) → times_in s y + one_of (is_some (kept_of slots s)) ≤ 1 in
    let count = full_filled slots slot x w none full in
    let len = length-set slots slot x in
    let e = c.fill.ensures in
    let columns = c.name_slot.new.columns.items in
    let numbers = lists_at b.columns.items in
    let others = lists_at columns in
    let same = lists_seen b.columns.items columns c.name_slot.ensures.seen in
    let after = c.put.new.self in
    let M : ListNumbers → Type 0 = λ n. MovesNumbers slot n (λ s. lists_of numbers (kept_of slots s)) (λ s. lists_of others (kept_of (set slots slot x) s)) in
    record {
      hold = let P : List ValueSlot → Type 0 = λ y. HoldAll after (λ s. lists_of others (kept_of y s)) in
          subst P (sym e) (c.put.ensures.hold (λ s. lists_of numbers (kept_of slots s)) (λ s. lists_of others (kept_of (set slots slot x) s)) sound.hold (ap (lists_of numbers) none) (subst M (sym c.numbers_at-numbers.ensures) (moves_in numbers others slots slot x k w keeps same)));
      have = let P : ℕ → Type 0 = λ n. HaveSlots after n in
          subst P (sym (ap length e ∙ len)) (have_alike b.lists after (length slots) c.put.ensures.alike sound.have);
      counted = counted_alike b.lists after c.put.ensures.alike sound.counted;
      there = λ p s q. there_alike b.lists after (others p) c.put.ensures.alike (there_filled b columns place slot sound c.requires.slot_named c.name_slot.ensures.slot_named c.name_slot.ensures.seen p s q);
      back = let P : List ValueSlot → Type 0 = λ y. (s : ℕ) (p : CellPlace) → place_in (kept_of y s) ≡ Some p → slot_of columns p ≡ Some s in
          subst P (sym e) (back_filled b.columns.items columns slots slot x k w keeps c.requires.new c.name_slot.ensures.slot_named sound.back);
      free = λ s. let g = free_filled free slots slot x w full (subst H f sound.free) s in let y = ap (λ z. one_of (is_some (kept_of z s))) e in omega arith;
      within = λ s h. let y = ap length e in let a = sound.within s (let z = ap (times_in s) f in let v = Rattle.index_lists.proofs.Times.times_in-append s free (slot ∷ []) in omega arith) in omega arith;
      full = let y = ap length f in let z = longer free slot in let v = ap length e in let m = ap full_count e in omega (arith, sound.full);
      room = let y = ap length e in omega (arith, sound.room, c.take_free-slot.ensures.room);
    }

pub returns-clause-kept_outcome : goal.returns-clause-kept_outcome
returns-clause-kept_outcome c = λ p.
    let b = c.args.self.now in
    let slot = c.take_free-slot.result in
    let slots = b.slots.items in
    let free = c.take_free-slot.new.free.items in
    let f = c.take_free-slot.ensures.items in
    let x = c.full_slot-kept.result in
    let k : Kept = record { place = c.args.place; outcome = outcome_owned c.args.outcome } in
    let keeps : kept_in (Some x) ≡ Some k = c.full_slot-kept.ensures in
    let F : List ℕ → Type 0 = λ y. times_in slot y + one_of (is_some (kept_of slots slot)) ≤ 1 in
    let none = taken_unkept free slots slot (subst F f (c.requires.sound.free slot)) in
    let G : List ℕ → Type 0 = λ y. (s : ℕ) → 0 < times_in s y → s < length slots in
    let w : slot < length slots = taken_within free slot (length slots) (subst G f c.requires.sound.within) in
    ap (λ y. outcome_at c.name_slot.new.columns.items y p) c.fill.ensures ∙ outcome_filled b.columns.items c.name_slot.new.columns.items slots slot x k p w none keeps c.name_slot.ensures.slot_named
