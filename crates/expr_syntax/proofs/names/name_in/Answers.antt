use Rattle.std.proofs.Common.{◌<◌, sym, subst}
use Rattle.expr_syntax.specs.Slots.{slots}
use Rattle.expr_syntax.proofs.NameLaws.{slot_place}
use Rattle.expr_syntax.proofs.names.name_in.Goals as goal

pub bounds-from : goal.bounds-from
unfolding slots
bounds-from c = subst (λ n. n < 84) (sym c.from.ensures) (slot_place c.args.slot c.requires)
