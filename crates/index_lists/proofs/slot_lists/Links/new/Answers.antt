use Rattle.std.proofs.Common.{[], ap, ◌∙◌}
use Rattle.std.specs.Prelude.{replicate}
use Rattle.index_lists.specs.Nodes.{list_count}
use Rattle.index_lists.proofs.SeenNodes.{after_starting, sound, seen_as}
use Rattle.index_lists.proofs.slot_lists.Links.new.Goals as goal

pub invariant_of-result : goal.invariant_of-result
invariant_of-result c =
    sound c.grow.new.self (replicate (list_count c.grow.new.self) [])
    (after_starting c.new-nodes.result c.grow.new.self c.new-nodes.ensures.slots c.new-nodes.ensures.lists c.grow.ensures.links c.in_ok-grow.ensures.added)

pub returns : goal.returns
returns c =
    seen_as c.grow.new.self (replicate (list_count c.grow.new.self) []) _
    (after_starting c.new-nodes.result c.grow.new.self c.new-nodes.ensures.slots c.new-nodes.ensures.lists c.grow.ensures.links c.in_ok-grow.ensures.added)
    c.in_ok-grow.ensures.ok.0
    ∙ ap (λ lists. record { slots = c.args.slots; lists = replicate lists [] }) c.in_ok-grow.ensures.ok.1
