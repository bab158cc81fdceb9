use Rattle.std.proofs.Common.{◌≡◌, List, true, subst, ◌∙◌}
use Rattle.layer_buckets.specs.KeptSlots.{kept_of}
use Rattle.layer_buckets.specs.Keeping.{kept_outcome, lists_at, lists_of}
use Rattle.layer_buckets.specs.Listing.{is_in}
use Rattle.layer_buckets.specs.declared.columns.Column.{Column}
use Rattle.layer_buckets.proofs.Listings.{there_named, alike_then}
use Rattle.layer_buckets.proofs.Keeping.{dropped}
use Rattle.layer_buckets.proofs.kept_cells.KeptCells.drop_list.Goals as goal

pub loop-slot-preserved : goal.loop-slot-preserved
loop-slot-preserved c =
    let b = c.loop-slot.self in
    let i = c.loop-slot.invariant in
    let kept = kept_of b.slots.items c.in-Some.slot in
    let numbers = lists_at c.args.self.now.columns.items in
    let P : List Column → Type 0 = λ x. is_in c.args.name (lists_of (lists_at x) kept) ≡ true in
    record {
      sound = c.drop_slot.ensures.sound;
      there = there_named b.lists c.drop_slot.new.self.lists c.args.name c.drop_slot.ensures.alike i.there;
      columns = c.drop_slot.ensures.columns ∙ i.columns;
      alike = alike_then c.args.self.now.lists b.lists c.drop_slot.new.self.lists i.alike c.drop_slot.ensures.alike;
      ends = λ p. dropped c.args.name numbers kept p (kept_outcome b p) (kept_outcome c.drop_slot.new.self p) _ (subst P i.columns c.in-Some.ensures.some) (c.drop_slot.ensures.kept_outcome p) (i.ends p);
    }
