use Rattle.std.proofs.Common.{length, None, sym, ap, ◌∙◌, subst, refl}
use Rattle.std.proofs.lemmas.List.{length-map}
use Rattle.index_lists.specs.SlotLists.{SlotLists, without}
use Rattle.index_lists.specs.Holds.{Holds}
use Rattle.index_lists.proofs.Holding.{holds_taken, holds_same, unmoved}
use Rattle.layer_buckets.proofs.Listings.{not_some}
use Rattle.layer_buckets.proofs.lists.take_out.Goals as goal

pub returns-in-Some-clause-alike : goal.returns-in-Some-clause-alike
returns-in-Some-clause-alike c = record {
  slots = ap (λ (s : SlotLists). s.slots) c.unlink.ensures.lists;
  lists = ap (λ (s : SlotLists). length s.lists) c.unlink.ensures.lists ∙ length-map c.args.links.now.lists (without c.args.slot);
}

pub returns-in-Some-clause-holds : goal.returns-in-Some-clause-holds
returns-in-Some-clause-holds c = λ h g k e m.
    let P : SlotLists → Type 0 = λ s. Holds s g in
    subst P (sym c.unlink.ensures.lists) (holds_taken c.args.links.now h g c.args.slot k m)

pub returns-in_default-clause-alike : goal.returns-in_default-clause-alike
returns-in_default-clause-alike c = record { slots = refl; lists = refl }

pub returns-in_default-clause-holds : goal.returns-in_default-clause-holds
returns-in_default-clause-holds c = λ h g k e m.
    holds_same c.args.links.now h g k (unmoved c.args.slot None h g (e ∙ not_some c.args.list c.in_default.not-Some) m)
