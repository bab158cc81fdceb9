use Rattle.std.proofs.Common.{◌≡◌, ◌++◌, drop, map}
use Rattle.text_places.specs.Counting.{IsCounted}
use Rattle.text_places.specs.TextPlace.{place_before}
use Rattle.text_places.proofs.place.places_before.Given as goal

abbrev pub invariant-loop-left : goal.invariant-loop-left
invariant-loop-left l = record {
  counted : IsCounted l.text l.counted;
  places : l.places.items ++ map (place_before l.text) (drop l.left-index l.lefts) ≡ map (place_before l.text) l.lefts;
}
