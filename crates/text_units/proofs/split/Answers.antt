use Rattle.std.proofs.Common.{arith}
use Rattle.std.specs.Str.Iter.{chars_rest}
use Rattle.text_units.proofs.Bytes.{left_step, left_boundary, left_front}
use Rattle.text_units.proofs.split.Goals as goal

pub loop-index-preserved : goal.loop-index-preserved
loop-index-preserved c = left_step c.args.text.now c.loop-index.rest c.next.new.self c.next.result c.loop-index._index c.next.ensures.steps c.loop-index.invariant

pub split_at-requires : goal.split_at-requires
split_at-requires c = rw c.as_str.ensures (left_boundary c.args.text.now (chars_rest c.loop-index.rest) c.loop-index._index c.loop-index.invariant)

pub returns-clause-front : goal.returns-clause-front
returns-clause-front c =
    rw (c.split_at.ensures.front, c.as_str.ensures)
    (left_front c.args.text.now (chars_rest c.loop-index.rest) c.loop-index._index c.args.position c.utf8.text c.requires c.loop-index.invariant (omega arith))
