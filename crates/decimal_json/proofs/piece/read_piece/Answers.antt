use Rattle.std.proofs.Common.{sym}
use Rattle.decimal_json.proofs.TextTaken.{escape_taken, due_stops}
use Rattle.decimal_json.proofs.piece.read_piece.Goals as goal

pub returns-then-byte-eq92-clause-gives : goal.returns-then-byte-eq92-clause-gives
returns-then-byte-eq92-clause-gives c =
    escape_taken c.args.due c.args.cursor.now c.read_escape.new.cursor c.args.text.now.items c.push_unit.new.text.items c.in_ok-unit.unit c.in_ok-push_unit.field-0 c.requires.high c.in_ok-unit.ensures.takes c.in_ok-unit.ensures.small c.in_ok-push_unit.ensures

pub returns-then-is_some-clause-gives : goal.returns-then-is_some-clause-gives
returns-then-is_some-clause-gives c =
    due_stops c.args.due c.args.cursor.now c.args.byte c.due_kind.result c.requires.first (sym c.if-is_some.ensures) c.requires.other c.if-byte-eq92.false c.due_kind.ensures
