use Rattle.std.proofs.Common.{◌∙◌, Option, subst, sym}
use Rattle.std.specs.Prelude.{MatchOption}
use Rattle.bare_listing.specs.Given.{KeepsOrder}
use Rattle.bare_listing.specs.SeenLayer.{Sorts, layer_in, property_in, scene_in, slots_in, sources_in}
use Rattle.bare_listing.specs.declared.feature_order.SortSource.{SortSource}
use Rattle.bare_listing.proofs.OrderLaws.{keeps_with_layer, keeps_without}
use Rattle.bare_listing.proofs.bare_layer.BareLayer.sort_source.Goals as goal

pub returns-then-not-sort : goal.returns-then-not-sort
returns-then-not-sort g c =
    let l = c.args.self.now in
    let sort = c.in_ok-sort.sort in
    keeps_with_layer (scene_in g.V.TextTests.tests l) (slots_in g.E.CountedEvaluator.slots l) (layer_in l) (sources_in l) sort.place
    (property_in l sort.property.now) c.requires.values c.in_ok-sort.ensures.place (sym c.in_ok-sort.ensures.property) c.if-not-sort.true

pub returns-in_err-source : goal.returns-in_err-source
returns-in_err-source g c =
    let l = c.args.self.now in
    let scene = scene_in g.V.TextTests.tests l in
    let sort = c.in_ok-sort.sort in
    subst (λ (o : Option SortSource). MatchOption o (KeepsOrder scene (layer_in l)) (λ sort. Sorts l sort))
    (sym c.from_residual-in_err-source.ensures)
    (keeps_without scene (slots_in g.E.CountedEvaluator.slots l) (layer_in l) (sources_in l) sort.place (property_in l sort.property.now)
    c.requires.values c.in_ok-sort.ensures.place (sym c.in_ok-sort.ensures.property) (sym c.source.ensures ∙ c.in_err-source.was))
