use Rattle.std.proofs.Common.{◌≡◌, ℕ, ◌+◌, ◌++◌, ◌∷◌, [], length, refl, sym, ap, ◌∙◌, subst, arith}
use Rattle.std.specs.Prelude.{is_some}
use Rattle.index_lists.specs.SlotLists.{times_in}
use Rattle.index_lists.specs.Holds.{one_of}
use Rattle.layer_buckets.specs.KeptSlots.{kept_of, no_slot, place_in, full_count, outcome_at}
use Rattle.layer_buckets.specs.Keeping.{lists_at, lists_of}
use Rattle.layer_buckets.specs.Listing.{HaveSlots}
use Rattle.layer_buckets.proofs.Listings.{hold_same}
use Rattle.layer_buckets.proofs.SlotLaws.{kept_added, full_added, count_added, outcome_added, free_added, within_added, longer}
use Rattle.layer_buckets.proofs.kept_cells.KeptCells.add_slot.Goals as goal

pub returns-clause-keeping : goal.returns-clause-keeping
returns-clause-keeping c =
    let b = c.args.self.now in
    let k = c.requires.keeping in
    let slots = b.slots.items in
    let numbers = lists_at b.columns.items in
    let e : c.push_reserved.new.self.items ≡ slots ++ no_slot ∷ [] = c.push_reserved.ensures.items ∙ ap (λ x. slots ++ x ∷ []) c.empty_slot.ensures in
    let same : (s : ℕ) → kept_of c.push_reserved.new.self.items s ≡ kept_of slots s = λ s. ap (λ x. kept_of x s) e ∙ kept_added slots s in
    let count : length c.push_reserved.new.self.items ≡ length slots + 1 = ap length e ∙ count_added slots in
    let f : c.push_reserved-2.new.self.items ≡ b.free.items ++ length slots ∷ [] = c.push_reserved-2.ensures.items ∙ ap (λ x. b.free.items ++ x ∷ []) (let n : c.len-slot.result ≡ length slots = omega (arith, c.len-slot.ensures) in n) in
    record {
      hold = hold_same b.lists (λ s. lists_of numbers (kept_of slots s)) (λ s. lists_of numbers (kept_of c.push_reserved.new.self.items s)) k.hold (λ s. ap (lists_of numbers) (same s));
      have = subst (λ n. HaveSlots b.lists n) (sym count) c.requires.room.lists;
      counted = k.counted;
      there = k.there;
      back = λ s p q. k.back s p (sym (ap place_in (same s)) ∙ q);
      free = λ s. let g = free_added b.free.items slots k.within k.free s in let x = ap (times_in s) f in let y = ap (λ o. one_of (is_some o)) (same s) in omega arith;
      within = λ s h. let x = ap (times_in s) f in let w = within_added b.free.items (length slots) k.within s (omega arith) in omega arith;
      full = let x = ap length f in let y = longer b.free.items (length slots) in let m = ap full_count e ∙ full_added slots in omega (arith, k.full);
      room = omega (arith, c.requires.room.free, c.push_reserved-2.ensures.capacity);
    }

pub returns-clause-same : goal.returns-clause-same
returns-clause-same c =
    let b = c.args.self.now in
    record {
      columns = refl;
      items = refl;
      states = refl;
      kept_outcome = λ p. ap (λ x. outcome_at b.columns.items x p) (c.push_reserved.ensures.items ∙ ap (λ x. b.slots.items ++ x ∷ []) c.empty_slot.ensures) ∙ outcome_added b.columns.items b.slots.items p;
    }
