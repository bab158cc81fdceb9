use Rattle.std.proofs.Common.{◌-◌, ◌∙◌, Ok, Err, length, ap, subst}
use Rattle.halts.specs.declared.halt.Halt.TheVariants.{Fault}
use Rattle.decimal_json.specs.Reading.{GivesWhole}
use Rattle.decimal_json.proofs.Wholes.{parsed_fault}
use Rattle.decimal_json.proofs.reading.read_document.Goals as goal

pub returns-in-Ok : goal.returns-in-Ok
returns-in-Ok c = subst (λ b. GivesWhole b (Ok c.in-Ok.json) c.read_whole.new.cursor) c.new-cursor.ensures c.in-Ok.ensures.gives

pub returns-in-Err-Fault : goal.returns-in-Err-Fault
returns-in-Err-Fault c =
    parsed_fault c.in-Err-Fault.kind c.args.document.now c.read_whole.new.cursor _ (subst (λ b. GivesWhole b (Err (Fault c.in-Err-Fault.kind)) c.read_whole.new.cursor) c.new-cursor.ensures (subst (λ h. GivesWhole c.new-cursor.result (Err h) c.read_whole.new.cursor) c.in-Err-Fault.field-0-is c.in-Err-Fault.ensures.gives)) (ap (λ x. length x - length c.rest.result.now) c.as_slice.ensures.bytes ∙ ap (λ x. length c.args.document.now - length x) c.rest.ensures)
