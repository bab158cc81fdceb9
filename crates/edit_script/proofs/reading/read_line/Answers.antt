use Rattle.edit_script.proofs.LinesRead.{spelled, unspelled}
use Rattle.edit_script.proofs.reading.read_line.Goals as goal

pub returns-in-Err : goal.returns-in-Err
returns-in-Err c = unspelled c.args.line.now c.in-Err.field-0 c.in_ok-json.field-0 c.in-Err.is c.in_ok-json.ensures

pub returns-in-Ok : goal.returns-in-Ok
returns-in-Ok c = spelled c.args.line.now c.in-Ok.json c.in_ok-json.field-0 c.read_command.result c.in-Ok.is c.in_ok-json.ensures c.read_command.ensures
