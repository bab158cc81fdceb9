use Rattle.tile_reader.proofs.Messages.{front_end, front_field, front_fault}
use Rattle.tile_reader.proofs.wire_parts.next_field.Goals as goal

pub returns-in-None-clause-front : goal.returns-in-None-clause-front
returns-in-None-clause-front c = front_end c.args.fields.now c.next.new.self c.requires c.in-None.ensures.next

pub returns-in-Some-Ok-clause-front : goal.returns-in-Some-Ok-clause-front
returns-in-Some-Ok-clause-front c =
    let gives = rw c.in-Some-Ok.field-0-is at c.in-Some-Ok.ensures.next in
    front_field c.args.fields.now c.next.new.self c.in-Some-Ok.field gives

pub returns-in-Some-Err-clause-front : goal.returns-in-Some-Err-clause-front
returns-in-Some-Err-clause-front c =
    let gives = rw c.in-Some-Err.field-0-is at c.in-Some-Err.ensures.next in
    (c.in-Some-Err.fault, front_fault c.args.fields.now c.next.new.self c.in-Some-Err.fault gives, c.from.ensures)
