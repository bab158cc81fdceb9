use Rattle.std.proofs.Common.{arith, subst, sym}
use Rattle.index_lists.specs.SlotLists.{IsListed}
use Rattle.index_lists.proofs.Times.{times-without_other}
use Rattle.index_lists.proofs.slot_lists.Links.move_before.Goals as goal

pub insert_before-requires-clause-listed : goal.insert_before-requires-clause-listed
insert_before-requires-clause-listed c =
    let kept = times-without_other c.args.before c.args.slot c.args.self.now.lists (λ same. c.if-slot-before.true (sym same)) in
    subst (λ s. IsListed s c.args.before) (sym c.unlink.ensures.lists) (omega (arith, c.requires.before, kept))
