use Rattle.std.proofs.Common.{◌≡◌, ◌-◌, ◌*◌, ◌^◌, ◌<◌, ◌≤◌, length}
use Rattle.proto_wire.specs.Varint.{number_of}
use Rattle.proto_wire.specs.Reading.{onto}
use Rattle.proto_wire.proofs.wire.digits.Given as goal

abbrev pub invariant-loop-index : goal.invariant-loop-index
invariant-loop-index l = record {
  weight : l.weight ≡ 2 ^ (7 * l.index);
  whole : l.weight ≤ 2 ^ 63;
  shorter : length l.rest ≤ length l.fn.bytes;
  small : l.value < l.weight;
  read : onto l.value l.weight (number_of (10 - l.index) l.rest) ≡ number_of 10 l.fn.bytes;
}
