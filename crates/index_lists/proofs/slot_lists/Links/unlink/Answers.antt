use Rattle.std.proofs.Common.{◌<◌, map, subst, sym, ap, ◌∙◌}
use Rattle.index_lists.specs.Rounds.{lists_of}
use Rattle.index_lists.specs.SlotLists.{IsListed, times, without, after_unlink}
use Rattle.index_lists.proofs.Times.{times-without_same}
use Rattle.index_lists.proofs.SeenNodes.{AreKept, before_slot, after_slot, after_unlinking, sound, seen_lists, seen_as}
use Rattle.index_lists.proofs.slot_lists.Links.unlink.Goals as goal

pub unlink-requires-clause-after : goal.unlink-requires-clause-after
unlink-requires-clause-after c =
    after_slot c.self.inside.nodes c.self.invariant c.args.slot (subst (λ s. IsListed s c.args.slot) (sym c.self.view_is) c.requires)

pub unlink-requires-clause-before : goal.unlink-requires-clause-before
unlink-requires-clause-before c =
    before_slot c.self.inside.nodes c.self.invariant c.args.slot (subst (λ s. IsListed s c.args.slot) (sym c.self.view_is) c.requires)

pub invariant_of-self : goal.invariant_of-self
invariant_of-self c =
    sound c.unlink.new.self (map (without c.args.slot) (lists_of c.self.inside.nodes))
    (after_unlinking c.self.inside.nodes c.unlink.new.self c.self.invariant c.unlink.ensures.slots c.unlink.ensures.lists c.args.slot
    (subst (λ s. IsListed s c.args.slot) (sym c.self.view_is) c.requires) c.unlink.ensures.after c.unlink.ensures.before)

pub returns-clause-lists : goal.returns-clause-lists
returns-clause-lists c =
    seen_as c.unlink.new.self (map (without c.args.slot) (lists_of c.self.inside.nodes)) _
    (after_unlinking c.self.inside.nodes c.unlink.new.self c.self.invariant c.unlink.ensures.slots c.unlink.ensures.lists c.args.slot
    (subst (λ s. IsListed s c.args.slot) (sym c.self.view_is) c.requires) c.unlink.ensures.after c.unlink.ensures.before)
    c.unlink.ensures.slots
    ∙ ap (λ s. after_unlink s c.args.slot) c.self.view_is

pub returns-clause-free : goal.returns-clause-free
returns-clause-free c =
    let kept : AreKept c.unlink.new.self (map (without c.args.slot) (lists_of c.self.inside.nodes)) =
    after_unlinking c.self.inside.nodes c.unlink.new.self c.self.invariant c.unlink.ensures.slots c.unlink.ensures.lists c.args.slot
    (subst (λ s. IsListed s c.args.slot) (sym c.self.view_is) c.requires) c.unlink.ensures.after c.unlink.ensures.before in
    ap (times c.args.slot) (seen_lists c.unlink.new.self _ kept) ∙ times-without_same c.args.slot (lists_of c.self.inside.nodes)

pub returns-clause-within : goal.returns-clause-within
returns-clause-within c =
    subst (λ slots. c.args.slot < slots) (sym c.unlink.ensures.slots)
    (c.self.invariant.within c.args.slot (subst (λ s. IsListed s c.args.slot) (sym c.self.view_is) c.requires))
