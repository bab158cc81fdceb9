use Rattle.std.specs.Str.Iter.{chars_rest}
use Rattle.text_units.proofs.Bytes.{IsLeft}
use Rattle.text_units.proofs.split.Given as goal

abbrev pub invariant-loop-index : goal.invariant-loop-index
invariant-loop-index l = IsLeft l.fn.text (chars_rest l.rest) l._index
