use Rattle.std.proofs.Common.{arith, add-one, refl, Ok, Err}
use Rattle.decimal_json.proofs.TextTaken.{next_digit, digit_taken, digits_small, digits_stop}
use Rattle.decimal_json.proofs.escape.read_unit.Goals as goal

pub overflow_mul-unit : goal.overflow_mul-unit
overflow_mul-unit c = omega (arith, digits_small c.args.due c.loop-place.place c.loop-place.unit c.args.cursor.now c.loop-place.cursor c.loop-place-test.true c.loop-place.invariant.taken)

pub overflow_add-unit : goal.overflow_add-unit
overflow_add-unit c =
    omega (arith, c.in-Ok.ensures.small, digits_small c.args.due c.loop-place.place c.loop-place.unit c.args.cursor.now c.loop-place.cursor c.loop-place-test.true c.loop-place.invariant.taken)

pub returns-in-Err-clause-takes : goal.returns-in-Err-clause-takes
returns-in-Err-clause-takes c =
    let next = next_digit c.args.due c.is_some.result c.loop-place.place c.loop-place.unit _ _ c.loop-place.cursor c.take_digit.new.cursor (Err c.in-Err.kind) c.is_some.ensures c.digits_at-least.ensures.least c.digits_at-least.ensures.most c.in-Err.ensures.takes in
    digits_stop c.args.due c.loop-place.place c.loop-place.unit c.args.cursor.now c.loop-place.cursor c.take_digit.new.cursor c.in-Err.kind c.loop-place-test.true c.loop-place.invariant.taken next

pub loop-place-preserved : goal.loop-place-preserved
loop-place-preserved c =
    let next = next_digit c.args.due c.is_some.result c.loop-place.place c.loop-place.unit _ _ c.loop-place.cursor c.take_digit.new.cursor (Ok c.in-Ok.digit) c.is_some.ensures c.digits_at-least.ensures.least c.digits_at-least.ensures.most c.in-Ok.ensures.takes in
    record {
      taken = rw add-one (digit_taken c.args.due c.loop-place.place c.loop-place.unit c.in-Ok.digit _ c.args.cursor.now c.loop-place.cursor c.take_digit.new.cursor c.loop-place-test.true c.loop-place.invariant.taken next refl);
      shorter = omega arith;
    }
