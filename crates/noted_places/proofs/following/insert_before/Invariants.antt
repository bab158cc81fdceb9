use Rattle.std.proofs.Common.{◌≡◌, drop, map}
use Rattle.noted_places.specs.Places.{AreBelow, after_insert}
use Rattle.noted_places.proofs.FollowLaws.{followed}
use Rattle.noted_places.proofs.following.insert_before.Given as goal

abbrev pub invariant-loop-noted : goal.invariant-loop-noted
invariant-loop-noted l = record {
  followed : followed (after_insert l.place) l.noted-index l.places ≡ map (after_insert l.place) l.fn.places;
  below : AreBelow 18446744073709551615 (drop l.noted-index l.places);
}
