use Rattle.std.proofs.Common.{◌≡◌, ◌+◌, drop}
use Rattle.format_text.specs.Reading.{place_of}
use Rattle.format_text.proofs.colors.place_of.Given as goal

abbrev pub invariant-loop-byte : goal.invariant-loop-byte
invariant-loop-byte l = record {
  found : l.place + place_of l.mark (drop l.byte-index l.bytes) ≡ place_of l.mark l.bytes;
  count : l.place ≡ l.byte-index;
}
