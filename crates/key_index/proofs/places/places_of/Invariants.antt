use Rattle.std.proofs.Common.{take}
use Rattle.std.specs.Prelude.{map}
use Rattle.key_index.specs.Places.{ArePlacesOf}
use Rattle.key_index.proofs.places.places_of.Given as goal

abbrev pub invariant-loop-place : goal.invariant-loop-place
invariant-loop-place g l = ArePlacesOf l.places (take l.place (map g.T.Keyed.key l.entries))
