use Rattle.std.proofs.Common.{arith}
use Rattle.proto_wire.proofs.Numbers.{read_end, read_last, read_more, next_weight, next_small, weight_within, fits, fails, tenth}
use Rattle.proto_wire.proofs.wire.digits.Goals as goal

-- the bytes end
pub returns-in_default-clause-number : goal.returns-in_default-clause-number
returns-in_default-clause-number c =
    fails _ _ (read_end _ _ c.loop-index.index c.loop-index.rest.now _ (omega arith) c.in_default.ensures.cases c.loop-index.invariant.read)

-- nine digits fit 63 bits
pub overflow_mul-result : goal.overflow_mul-result
overflow_mul-result c =
    omega (arith, c.from.ensures, weight_within _ _ c.loop-index.invariant.weight c.loop-index-test.true, next_small c.loop-index.value c.loop-index.weight c.from.result c.loop-index.invariant.small (omega arith))

pub overflow_add-result : goal.overflow_add-result
overflow_add-result c =
    omega (arith, c.from.ensures, weight_within _ _ c.loop-index.invariant.weight c.loop-index-test.true, next_small c.loop-index.value c.loop-index.weight c.from.result c.loop-index.invariant.small (omega arith))

pub overflow_mul-value : goal.overflow_mul-value
overflow_mul-value c =
    omega (arith, weight_within _ _ c.loop-index.invariant.weight c.loop-index-test.true, next_small c.loop-index.value c.loop-index.weight c.from-in-loop-index.result c.loop-index.invariant.small (omega arith))

pub overflow_add-value : goal.overflow_add-value
overflow_add-value c =
    omega (arith, weight_within _ _ c.loop-index.invariant.weight c.loop-index-test.true, next_small c.loop-index.value c.loop-index.weight c.from-in-loop-index.result c.loop-index.invariant.small (omega arith))

pub overflow_mul-weight : goal.overflow_mul-weight
overflow_mul-weight c = omega (arith, weight_within _ _ c.loop-index.invariant.weight c.loop-index-test.true)

-- the last byte
pub returns-then-first-lt128-clause-number : goal.returns-then-first-lt128-clause-number
returns-then-first-lt128-clause-number c =
    let read = rw c.in-Some.ensures.cases.0 at c.loop-index.invariant.read in
    let whole = read_last c.loop-index.value c.loop-index.weight c.loop-index.index c.in-Some.first.now c.in-Some.others.now _ (omega arith) c.if-first-lt128.true read in
    let small = next_small c.loop-index.value c.loop-index.weight c.in-Some.first.now c.loop-index.invariant.small c.if-first-lt128.true in
    rw c.from.ensures (fits _ _ _ whole (omega (arith, weight_within _ _ c.loop-index.invariant.weight c.loop-index-test.true)))

-- one more digit
pub loop-index-preserved : goal.loop-index-preserved
loop-index-preserved c =
    let read = rw c.in-Some.ensures.cases.0 at c.loop-index.invariant.read in
    let next = read_more c.loop-index.value c.loop-index.weight c.loop-index.index c.in-Some.first.now c.in-Some.others.now _ (omega arith) c.if-first-lt128.false read in
    record {
      weight = next_weight c.loop-index.weight c.loop-index.index c.loop-index.invariant.weight;
      whole = weight_within _ _ c.loop-index.invariant.weight c.loop-index-test.true;
      shorter = omega (arith, c.in-Some.ensures.cases.1);
      small = next_small c.loop-index.value c.loop-index.weight c.from-in-loop-index.result c.loop-index.invariant.small (omega arith);
      read = rw c.from-in-loop-index.ensures next;
    }

-- the tenth byte
pub returns-clause-number : goal.returns-clause-number
returns-clause-number c =
    tenth _ c.loop-index.value c.loop-index.weight c.loop-index.index c.loop-index.rest.now _ (omega arith) c.loop-index.invariant.weight c.loop-index.invariant.read c.tenth_digit.ensures.number
