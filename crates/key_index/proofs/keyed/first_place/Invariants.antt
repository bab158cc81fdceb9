use Rattle.std.proofs.Common.{◌≡◌, drop}
use Rattle.std.specs.Prelude.{map}
use Rattle.key_index.specs.Keys.{place_from}
use Rattle.key_index.proofs.keyed.first_place.Given as goal

abbrev pub invariant-loop-i : goal.invariant-loop-i
invariant-loop-i g l = place_from l.i l.key (map g.T.Keyed.key (drop l.i l.entries)) ≡ place_from 0 l.key (map g.T.Keyed.key l.entries)
