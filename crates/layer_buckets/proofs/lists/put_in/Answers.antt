use Rattle.std.proofs.Common.{◌<◌, ℕ, length, length-set, Option, None, sym, ap, ◌∙◌, subst, refl}
use Rattle.std.specs.Prelude.{IfSome}
use Rattle.index_lists.specs.SlotLists.{SlotLists}
use Rattle.index_lists.specs.Holds.{Holds, MovesSlot}
use Rattle.index_lists.proofs.Holding.{holds_pushed, holds_same, unmoved}
use Rattle.layer_buckets.proofs.Listings.{not_some}
use Rattle.layer_buckets.proofs.lists.put_in.Goals as goal

pub returns-in-Some-clause-alike : goal.returns-in-Some-clause-alike
returns-in-Some-clause-alike c = record {
  slots = ap (λ (s : SlotLists). s.slots) c.push_last.ensures;
  lists = ap (λ (s : SlotLists). length s.lists) c.push_last.ensures ∙ length-set c.args.links.now.lists c.in-Some.list _;
}

pub returns-in-Some-clause-holds : goal.returns-in-Some-clause-holds
returns-in-Some-clause-holds c = λ h g k e m.
    let old = c.args.links.now in
    let R : Option ℕ → Type 0 = λ o. IfSome o (λ l. l < length old.lists) in
    let w = subst R c.in-Some.is c.requires.list in
    let M : Option ℕ → Type 0 = λ o. MovesSlot c.args.slot o h g in
    let P : SlotLists → Type 0 = λ s. Holds s g in
    subst P (sym c.push_last.ensures) (holds_pushed old h g c.args.slot c.in-Some.list w k e (subst M c.in-Some.is m))

pub returns-in_default-clause-alike : goal.returns-in_default-clause-alike
returns-in_default-clause-alike c = record { slots = refl; lists = refl }

pub returns-in_default-clause-holds : goal.returns-in_default-clause-holds
returns-in_default-clause-holds c = λ h g k e m.
    holds_same c.args.links.now h g k (unmoved c.args.slot None h g e (subst (λ o. MovesSlot c.args.slot o h g) (not_some c.args.list c.in_default.not-Some) m))
