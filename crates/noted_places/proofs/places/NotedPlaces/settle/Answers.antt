use Rattle.std.proofs.Common.{◌∙◌, ap}
use Rattle.std.specs.Prelude.{insert}
use Rattle.noted_places.specs.Places.{is_noted, places_in}
use Rattle.noted_places.proofs.NotedLaws.{settled}
use Rattle.noted_places.proofs.places.NotedPlaces.settle.Goals as goal

pub returns : goal.returns
returns c = λ q.
    let place = c.remove-place.result in
    let ps = places_in c.args.self.now in
    ap (λ l. is_noted l q) (c.in-Ok.ensures.items ∙ ap (λ l. insert l c.index_of-other.result place) c.remove-place.ensures.items)
    ∙ settled ps c.args.index c.index_of-other.result place c.requires c.remove-place.ensures.value q
