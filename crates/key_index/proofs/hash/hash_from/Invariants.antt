use Rattle.std.proofs.Common.{◌≡◌, drop}
use Rattle.key_index.specs.Hash.{hash_from}
use Rattle.key_index.proofs.hash.hash_from.Given as goal

abbrev pub invariant-loop-byte : goal.invariant-loop-byte
invariant-loop-byte l = hash_from l.hash (drop l.byte-index l.bytes) ≡ hash_from l.before l.bytes
