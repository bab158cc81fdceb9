use Rattle.std.proofs.Common.{◌≡◌, ◌+◌, ◌≤◌, drop}
use Rattle.text_places.specs.LineColumn.{after_bytes}
use Rattle.text_places.proofs.place.counted_over.Given as goal

abbrev pub invariant-loop-byte : goal.invariant-loop-byte
invariant-loop-byte l = record {
  line : l.place.line ≤ l.fn.place.line + l.byte-index;
  column : l.place.column ≤ l.fn.place.column + l.byte-index;
  value : after_bytes l.place (drop l.byte-index l.bytes) ≡ after_bytes l.fn.place l.bytes;
}
