use Rattle.std.proofs.Common.{sym, arith}
use Rattle.noted_places.specs.Places.{places_in}
use Rattle.noted_places.proofs.NotedLaws.{none_moves}
use Rattle.noted_places.proofs.places.NotedPlaces.follow_insert.Goals as goal

pub returns-else-place-count : goal.returns-else-place-count
returns-else-place-count c =
    sym (none_moves c.args.count c.args.place (places_in c.args.self.now) (omega (arith, c.if-place-count.false)) c.requires)
