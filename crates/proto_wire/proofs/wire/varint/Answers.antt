use Rattle.proto_wire.proofs.Numbers.{one_byte}
use Rattle.proto_wire.proofs.wire.varint.Goals as goal

-- a number of one byte
pub returns-then-first-lt128-clause-ok : goal.returns-then-first-lt128-clause-ok
returns-then-first-lt128-clause-ok c = rw c.in-Some.ensures.cases.0 (rw c.from.ensures (one_byte c.in-Some.first.now c.in-Some.rest.now c.if-first-lt128.true))
