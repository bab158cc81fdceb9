use Rattle.std.proofs.Common.{◌≡◌, map}
use Rattle.noted_places.specs.Places.{after_remove}
use Rattle.noted_places.proofs.FollowLaws.{followed}
use Rattle.noted_places.proofs.following.remove_one.Given as goal

abbrev pub invariant-loop-noted : goal.invariant-loop-noted
invariant-loop-noted l = followed (after_remove l.place) l.noted-index l.places ≡ map (after_remove l.place) l.fn.places
