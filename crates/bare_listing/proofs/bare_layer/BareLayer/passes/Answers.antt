use Rattle.std.proofs.Common.{Bool, Option, subst, sym}
use Rattle.layer_buckets.specs.declared.cell.CellItem.TheVariants as items
use Rattle.style_layout.specs.CodeView.{feature_seen}
use Rattle.bare_listing.specs.Given.{IsCommonAnswer}
use Rattle.bare_listing.specs.SeenLayer.{layer_in, scene_in, sources_in}
use Rattle.bare_listing.proofs.bare_layer.BareLayer.passes.Goals as goal

pub returns-in-Some-clause-answer : goal.returns-in-Some-clause-answer
returns-in-Some-clause-answer g c =
    let l = c.args.self.now in
    let common = subst (λ (o : Option Bool). IsCommonAnswer (scene_in g.V.TextTests.tests l) (sources_in l items.Filter) (layer_in l) o)
    c.in-Some.is c.requires.common in
    sym (common.1 c.requires.typed (feature_seen c.args.feature.now))
