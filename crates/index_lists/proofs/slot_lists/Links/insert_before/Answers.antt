use Rattle.std.proofs.Common.{◌<◌, map, subst, sym, ap, ◌∙◌}
use Rattle.index_lists.specs.Rounds.{lists_of}
use Rattle.index_lists.specs.SlotLists.{IsListed, IsFree, placed, after_insert}
use Rattle.index_lists.proofs.SeenNodes.{before_slot, after_inserting, sound, seen_as}
use Rattle.index_lists.proofs.slot_lists.Links.insert_before.Goals as goal

pub link-requires-clause-before : goal.link-requires-clause-before
link-requires-clause-before c =
    before_slot c.self.inside.nodes c.self.invariant c.args.before (subst (λ s. IsListed s c.args.before) (sym c.self.view_is) c.requires.listed)

pub invariant_of-self : goal.invariant_of-self
invariant_of-self c =
    sound c.link.new.self (map (placed c.args.slot c.args.before) (lists_of c.self.inside.nodes))
    (after_inserting c.self.inside.nodes c.link.new.self c.self.invariant c.link.ensures.slots c.link.ensures.lists c.args.slot c.args.before
    (subst (λ s. c.args.slot < s.slots) (sym c.self.view_is) c.requires.slot)
    (subst (λ s. IsFree s c.args.slot) (sym c.self.view_is) c.requires.free)
    (subst (λ s. IsListed s c.args.before) (sym c.self.view_is) c.requires.listed)
    c.link.ensures.after c.link.ensures.before)

pub returns : goal.returns
returns c =
    seen_as c.link.new.self (map (placed c.args.slot c.args.before) (lists_of c.self.inside.nodes)) _
    (after_inserting c.self.inside.nodes c.link.new.self c.self.invariant c.link.ensures.slots c.link.ensures.lists c.args.slot c.args.before
    (subst (λ s. c.args.slot < s.slots) (sym c.self.view_is) c.requires.slot)
    (subst (λ s. IsFree s c.args.slot) (sym c.self.view_is) c.requires.free)
    (subst (λ s. IsListed s c.args.before) (sym c.self.view_is) c.requires.listed)
    c.link.ensures.after c.link.ensures.before)
    c.link.ensures.slots
    ∙ ap (λ s. after_insert s c.args.slot c.args.before) c.self.view_is
