use Rattle.std.proofs.Common.{◌<◌, length, arith, subst, sym, ap, ◌∙◌}
use Rattle.index_lists.specs.Rounds.{lists_of}
use Rattle.index_lists.specs.SlotLists.{IsFree, after_push}
use Rattle.index_lists.proofs.Times.{pushed}
use Rattle.index_lists.proofs.SeenNodes.{before_list, after_pushing, sound, seen_as}
use Rattle.index_lists.proofs.slot_lists.Links.push_last.Goals as goal

pub link-requires-clause-before : goal.link-requires-clause-before
link-requires-clause-before c =
    let there : c.args.list < length (lists_of c.self.inside.nodes) = subst (λ s. c.args.list < length s.lists) (sym c.self.view_is) c.requires.list in
    before_list c.self.inside.nodes c.self.invariant c.args.list (omega (arith, there, c.self.invariant.counted))

pub invariant_of-self : goal.invariant_of-self
invariant_of-self c =
    let there : c.args.list < length (lists_of c.self.inside.nodes) = subst (λ s. c.args.list < length s.lists) (sym c.self.view_is) c.requires.list in
    sound c.link.new.self (pushed c.args.list c.args.slot (lists_of c.self.inside.nodes))
    (after_pushing c.self.inside.nodes c.link.new.self c.self.invariant c.link.ensures.slots c.link.ensures.lists c.args.list c.args.slot
    (omega (arith, there, c.self.invariant.counted))
    (subst (λ s. c.args.slot < s.slots) (sym c.self.view_is) c.requires.slot)
    (subst (λ s. IsFree s c.args.slot) (sym c.self.view_is) c.requires.free)
    c.link.ensures.after c.link.ensures.before)

pub returns : goal.returns
returns c =
    let there : c.args.list < length (lists_of c.self.inside.nodes) = subst (λ s. c.args.list < length s.lists) (sym c.self.view_is) c.requires.list in
    seen_as c.link.new.self (pushed c.args.list c.args.slot (lists_of c.self.inside.nodes)) _
    (after_pushing c.self.inside.nodes c.link.new.self c.self.invariant c.link.ensures.slots c.link.ensures.lists c.args.list c.args.slot
    (omega (arith, there, c.self.invariant.counted))
    (subst (λ s. c.args.slot < s.slots) (sym c.self.view_is) c.requires.slot)
    (subst (λ s. IsFree s c.args.slot) (sym c.self.view_is) c.requires.free)
    c.link.ensures.after c.link.ensures.before)
    c.link.ensures.slots
    ∙ ap (λ s. after_push s c.args.list c.args.slot) c.self.view_is
