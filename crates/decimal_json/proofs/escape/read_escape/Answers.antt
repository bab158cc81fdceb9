use Rattle.std.proofs.Common.{sym}
use Rattle.decimal_json.proofs.TextPlaces.{took_one, stops_end, stops_other}
use Rattle.decimal_json.proofs.TextTaken.{stops_due_letter, letter_taken}
use Rattle.decimal_json.proofs.escape.read_escape.Goals as goal

pub returns-in_default-clause-takes : goal.returns-in_default-clause-takes
returns-in_default-clause-takes c =
    let s = took_one c.args.cursor.now c.take_front.result.now c.take_front.new.self 92 c.requires c.take_front.ensures.split c.take_front.ensures.front in
    stops_end c.args.due c.args.cursor.now c.take_front.new.self s (sym c.in_default.ensures)

pub returns-then-is_some-clause-takes : goal.returns-then-is_some-clause-takes
returns-then-is_some-clause-takes c =
    let s = took_one c.args.cursor.now c.take_front.result.now c.take_front.new.self 92 c.requires c.take_front.ensures.split c.take_front.ensures.front in
    stops_due_letter c.args.due c.args.cursor.now c.take_front.new.self c.in-Some.byte c.in-Some-letter_value.unit (sym c.if-is_some.ensures) s (sym c.in-Some.ensures) (sym c.in-Some-letter_value.ensures)

pub returns-in-None-clause-takes : goal.returns-in-None-clause-takes
returns-in-None-clause-takes c =
    let s = took_one c.args.cursor.now c.take_front.result.now c.take_front.new.self 92 c.requires c.take_front.ensures.split c.take_front.ensures.front in
    stops_other c.args.due c.args.cursor.now c.take_front.new.self c.in-Some.byte s (sym c.in-Some.ensures) (sym c.in-None.ensures) c.if-byte-eq117.false

pub returns-else-is_some-clause-takes : goal.returns-else-is_some-clause-takes
returns-else-is_some-clause-takes c =
    let s = took_one c.args.cursor.now c.take_front.result.now c.take_front.new.self 92 c.requires c.take_front.ensures.split c.take_front.ensures.front in
    let e = took_one c.take_front.new.self c.take_front-in-Some-letter_value.result.now c.take_front-in-Some-letter_value.new.self c.in-Some.byte (sym c.in-Some.ensures) c.take_front-in-Some-letter_value.ensures.split c.take_front-in-Some-letter_value.ensures.front in
    letter_taken c.args.due c.args.cursor.now c.take_front.new.self c.take_front-in-Some-letter_value.new.self c.in-Some.byte c.in-Some-letter_value.unit (sym c.if-is_some.ensures) s e (sym c.in-Some-letter_value.ensures)
