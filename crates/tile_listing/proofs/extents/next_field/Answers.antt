use Rattle.std.proofs.Common.{ap}
use Rattle.tile_reader.specs.Message.{Message}
use Rattle.tile_reader.proofs.Messages.{front_end, front_field, front_fault}
use Rattle.tile_listing.proofs.extents.next_field.Goals as goal

pub returns-in-None-clause-takes : goal.returns-in-None-clause-takes
returns-in-None-clause-takes c = ap (λ (m : Message). m.fields) (front_end c.args.fields.now c.next.new.self c.requires c.in-None.ensures.next)

pub returns-in-Some-Ok-clause-takes : goal.returns-in-Some-Ok-clause-takes
returns-in-Some-Ok-clause-takes c =
    let gives = rw c.in-Some-Ok.field-0-is at c.in-Some-Ok.ensures.next in
    ap (λ (m : Message). m.fields) (front_field c.args.fields.now c.next.new.self c.in-Some-Ok.field gives)

pub returns-in-Some-Err-clause-takes : goal.returns-in-Some-Err-clause-takes
returns-in-Some-Err-clause-takes c =
    let gives = rw c.in-Some-Err.field-0-is at c.in-Some-Err.ensures.next in
    ap (λ (m : Message). m.fields) (front_fault c.args.fields.now c.next.new.self c.in-Some-Err.field-0-0 gives)
