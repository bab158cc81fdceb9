use Rattle.std.proofs.Common.{◌<◌, ◌≤◌, length, arith, subst, sym, ap, ◌∙◌}
use Rattle.std.specs.Prelude.{Some, slice_get}
use Rattle.index_lists.specs.Nodes.{slot_count, list_count, after, before}
use Rattle.index_lists.specs.Rounds.{lists_of}
use Rattle.index_lists.specs.SlotLists.{list_at}
use Rattle.index_lists.proofs.Kept.{first_within, first_past}
use Rattle.index_lists.proofs.Times.{first_stands}
use Rattle.index_lists.proofs.Turns.{times_in_list}
use Rattle.index_lists.proofs.slot_lists.Links.first.Goals as goal

first_is : goal.returns-then-is_slot-clause-slot
first_is c =
    let nodes = c.self.inside.nodes in
    let there : c.args.list < length (lists_of nodes) = subst (λ s. c.args.list < length s.lists) (sym c.self.view_is) c.requires in
    let is_slot : c.after-first.result < slot_count nodes = grind (arith, c.if-is_slot.true, c.is_slot.ensures) in
    ap Some c.after-first.ensures
    ∙ first_within (after nodes) (before nodes) (slot_count nodes) (list_count nodes) (lists_of nodes) c.self.invariant c.args.list
    (omega (arith, there, c.self.invariant.counted)) (subst (λ node. node < slot_count nodes) c.after-first.ensures is_slot)
    ∙ ap (λ s. slice_get (list_at s c.args.list) 0) c.self.view_is

pub returns-else-is_slot-clause-slot : goal.returns-else-is_slot-clause-slot
returns-else-is_slot-clause-slot c =
    let nodes = c.self.inside.nodes in
    let there : c.args.list < length (lists_of nodes) = subst (λ s. c.args.list < length s.lists) (sym c.self.view_is) c.requires in
    let is_past : slot_count nodes ≤ c.after-first.result = grind (arith, c.if-is_slot.false, c.is_slot.ensures) in
    first_past (after nodes) (before nodes) (slot_count nodes) (list_count nodes) (lists_of nodes) c.self.invariant c.args.list
    (omega (arith, there, c.self.invariant.counted)) (subst (λ node. slot_count nodes ≤ node) c.after-first.ensures is_past)
    ∙ ap (λ s. slice_get (list_at s c.args.list) 0) c.self.view_is

pub returns-then-is_slot-clause-slot : goal.returns-then-is_slot-clause-slot
returns-then-is_slot-clause-slot c = first_is c

pub returns-then-is_slot-clause-listed : goal.returns-then-is_slot-clause-listed
returns-then-is_slot-clause-listed c =
    let stands = first_stands (list_at c.args.self.now c.args.list) c.after-first.result (sym (first_is c)) in
    omega (arith, stands, times_in_list c.after-first.result c.args.list c.args.self.now.lists)
