use Rattle.std.proofs.Common.{sym, subst}
use Rattle.noted_places.specs.Places.{NotesIf, places_in}
use Rattle.noted_places.proofs.NotedLaws.{newly_noted}
use Rattle.noted_places.proofs.places.NotedPlaces.note_if.Goals as goal

pub returns-clause-ok : goal.returns-clause-ok
returns-clause-ok c =
    subst (NotesIf c.args.holds c.args.place (places_in c.args.self.now)) (sym c.in-Ok.ensures.items)
    (newly_noted c.args.holds c.args.place (places_in c.args.self.now) c.index_of-index.result c.if-not-holds.false)
