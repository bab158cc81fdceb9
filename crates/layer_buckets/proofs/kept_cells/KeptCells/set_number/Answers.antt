use Rattle.std.proofs.Common.{refl, ap}
use Rattle.layer_buckets.specs.KeptSlots.{kept_of, outcome_by}
use Rattle.layer_buckets.proofs.SlottedLaws.{keeping_slotted}
use Rattle.layer_buckets.proofs.kept_cells.KeptCells.set_number.Goals as goal

pub returns-clause-keeping : goal.returns-clause-keeping
returns-clause-keeping c =
    let r = c.set_number.ensures in
    keeping_slotted c.args.self.now c.set_number.new.columns.items c.args.column c.args.number r.seen r.slot_named
    (record c.args.self.now { columns = c.set_number.new.columns }) refl refl refl refl
    c.requires.keeping

pub returns-clause-kept_outcome : goal.returns-clause-kept_outcome
returns-clause-kept_outcome c = λ p. ap (outcome_by (kept_of c.args.self.now.slots.items) p) (c.set_number.ensures.slot_named p)
