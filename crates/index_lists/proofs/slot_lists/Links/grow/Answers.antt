use Rattle.std.proofs.Common.{◌≡◌, ◌≤◌, length, arith, subst, sym}
use Rattle.std.specs.Prelude.{OnOk, OnErr}
use Rattle.index_lists.specs.Rounds.{lists_of, seen}
use Rattle.index_lists.specs.SlotLists.{after_grow}
use Rattle.index_lists.proofs.SeenNodes.{growing_sound, growing_ok, growing_err}
use Rattle.index_lists.proofs.slot_lists.Links.grow.Goals as goal

pub invariant_of-self : goal.invariant_of-self
invariant_of-self c =
    let more_lists : length (lists_of c.self.inside.nodes) ≤ c.args.lists = subst (λ s. length s.lists ≤ c.args.lists) (sym c.self.view_is) c.requires.lists in
    growing_sound c.self.inside.nodes c.grow.new.self c.args.slots c.args.lists c.self.invariant
    (subst (λ s. s.slots ≤ c.args.slots) (sym c.self.view_is) c.requires.slots) (omega (arith, more_lists, c.self.invariant.counted))
    c.grow.ensures.links c.grow.result c.grow.ensures.ok c.grow.ensures.added c.grow.ensures.err

pub returns-clause-ok : goal.returns-clause-ok
returns-clause-ok c =
    let more_lists : length (lists_of c.self.inside.nodes) ≤ c.args.lists = subst (λ s. length s.lists ≤ c.args.lists) (sym c.self.view_is) c.requires.lists in
    subst (λ s. OnOk c.grow.result (seen c.grow.new.self ≡ after_grow s c.args.slots c.args.lists)) c.self.view_is
    (growing_ok c.self.inside.nodes c.grow.new.self c.args.slots c.args.lists c.self.invariant
    (subst (λ s. s.slots ≤ c.args.slots) (sym c.self.view_is) c.requires.slots) (omega (arith, more_lists, c.self.invariant.counted))
    c.grow.ensures.links c.grow.result c.grow.ensures.ok c.grow.ensures.added)

pub returns-clause-err : goal.returns-clause-err
returns-clause-err c =
    let more_lists : length (lists_of c.self.inside.nodes) ≤ c.args.lists = subst (λ s. length s.lists ≤ c.args.lists) (sym c.self.view_is) c.requires.lists in
    subst (λ s. OnErr c.grow.result (seen c.grow.new.self ≡ s)) c.self.view_is
    (growing_err c.self.inside.nodes c.grow.new.self c.args.slots c.args.lists c.self.invariant
    (subst (λ s. s.slots ≤ c.args.slots) (sym c.self.view_is) c.requires.slots) (omega (arith, more_lists, c.self.invariant.counted))
    c.grow.ensures.links c.grow.result c.grow.ensures.err)
