use Rattle.std.proofs.Common.{◌≤◌, length}
use Rattle.decimal_json.proofs.TextTaken.{DigitsTaken}
use Rattle.decimal_json.proofs.escape.read_unit.Given as goal

abbrev pub invariant-loop-place : goal.invariant-loop-place
invariant-loop-place l = record { taken : DigitsTaken l.due l.fn.cursor l.place l.unit l.cursor; shorter : length l.cursor ≤ length l.fn.cursor }
