use Rattle.decimal_json.specs.View.{tree_of}
use Rattle.view_desk.proofs.DeskLinesRead.{line_sorted, line_spelled}
use Rattle.view_desk.proofs.lines.read_desk_line.Goals as goal

pub returns-in-Ok-clause-answers : goal.returns-in-Ok-clause-answers
returns-in-Ok-clause-answers c =
    line_spelled c.args.line.now c.in-Ok.json c.in_ok-json.field-0 c.read_desk_command.result c.in-Ok.is c.in_ok-json.ensures c.read_desk_command.ensures

pub returns-in-Ok-clause-sorted : goal.returns-in-Ok-clause-sorted
returns-in-Ok-clause-sorted c = line_sorted (tree_of c.in-Ok.json) c.read_desk_command.result c.read_desk_command.ensures
