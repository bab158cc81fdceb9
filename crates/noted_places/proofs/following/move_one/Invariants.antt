use Rattle.std.proofs.Common.{◌≡◌, map}
use Rattle.noted_places.specs.Places.{after_move}
use Rattle.noted_places.proofs.FollowLaws.{followed}
use Rattle.noted_places.proofs.following.move_one.Given as goal

abbrev pub invariant-loop-noted : goal.invariant-loop-noted
invariant-loop-noted l = followed (after_move l.from l.to) l.noted-index l.places ≡ map (after_move l.from l.to) l.fn.places
