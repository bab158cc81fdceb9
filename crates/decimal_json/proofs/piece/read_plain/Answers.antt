use Rattle.std.proofs.Common.{[], refl}
use Rattle.std.specs.Prelude.{None}
use Rattle.decimal_json.proofs.TextFaults.{stops_control}
use Rattle.decimal_json.proofs.TextTaken.{run_taken}
use Rattle.decimal_json.proofs.piece.read_plain.Goals as goal

pub returns-then-byte-lt32-clause-gives : goal.returns-then-byte-lt32-clause-gives
returns-then-byte-lt32-clause-gives c = ([], refl, stops_control None c.args.cursor.now c.args.byte c.requires.first c.if-byte-lt32.true)

pub returns-clause-gives : goal.returns-clause-gives
returns-clause-gives c =
    run_taken c.args.cursor.now c.rest.result.now c.take_front-run.result.now c.take_front-run.new.self c.args.text.now.items c.extend_from_slice.new.self.items c.run_length-count.result c.rest.ensures c.run_length-count.ensures.front c.take_front-run.ensures.split c.take_front-run.ensures.front c.in_ok-extend_from_slice.ensures.items
