use Rattle.std.proofs.Common.{◌<◌, ◌≤◌, arith, subst, sym, ap, ◌∙◌}
use Rattle.std.specs.Prelude.{Some}
use Rattle.index_lists.specs.Nodes.{slot_count, list_count, after, before}
use Rattle.index_lists.specs.Rounds.{lists_of}
use Rattle.index_lists.specs.SlotLists.{next_of}
use Rattle.index_lists.proofs.Kept.{next_within, next_past, next_itself}
use Rattle.index_lists.proofs.Times.{next_stands}
use Rattle.index_lists.proofs.slot_lists.Links.next.Goals as goal
use Rattle.index_lists.proofs.slot_lists.Links.next.Goals.{else-is_slot-via-then-is_slot+else-next-slot, else-is_slot-via-else-is_slot}

next_is : goal.returns-then-next-slot-clause-slot
next_is c =
    let nodes = c.self.inside.nodes in
    let is_slot : c.after-next.result < slot_count nodes = grind (arith, c.if-is_slot.true, c.is_slot.ensures) in
    ap Some c.after-next.ensures
    ∙ next_within (after nodes) (before nodes) (slot_count nodes) (list_count nodes) (lists_of nodes) c.self.invariant c.args.slot
    (subst (λ s. c.args.slot < s.slots) (sym c.self.view_is) c.requires)
    (subst (λ node. node < slot_count nodes) c.after-next.ensures is_slot)
    (λ same. c.if-next-slot.true (c.after-next.ensures ∙ same))
    ∙ ap (λ s. next_of c.args.slot s.lists) c.self.view_is

pub returns-else-is_slot-clause-slot : goal.returns-else-is_slot-clause-slot
returns-else-is_slot-clause-slot c =
    let nodes = c.self.inside.nodes in
    let within = subst (λ s. c.args.slot < s.slots) (sym c.self.view_is) c.requires in
    elim c.else-is_slot.branch [
      | else-is_slot-via-then-is_slot+else-next-slot w ↦ next_itself (after nodes) (before nodes) (slot_count nodes) (list_count nodes) (lists_of nodes) c.self.invariant c.args.slot within
          (sym c.after-next.ensures ∙ w.if-next-slot.false)
      | else-is_slot-via-else-is_slot w ↦ next_past (after nodes) (before nodes) (slot_count nodes) (list_count nodes) (lists_of nodes) c.self.invariant c.args.slot within
          (let is_past : slot_count nodes ≤ c.after-next.result = grind (arith, w.if-is_slot.false, c.is_slot.ensures) in subst (λ node. slot_count nodes ≤ node) c.after-next.ensures is_past)
    ]
    ∙ ap (λ s. next_of c.args.slot s.lists) c.self.view_is

pub returns-then-next-slot-clause-slot : goal.returns-then-next-slot-clause-slot
returns-then-next-slot-clause-slot c = next_is c

pub returns-then-next-slot-clause-listed : goal.returns-then-next-slot-clause-listed
returns-then-next-slot-clause-listed c = next_stands c.args.slot c.after-next.result c.args.self.now.lists (sym (next_is c))
