use Rattle.std.proofs.Common.{◌∙◌, sym}
use Rattle.layer_buckets.specs.Outcomes.{outcome_owned}
use Rattle.layer_buckets.specs.declared.cell.CellItem.TheVariants as items
use Rattle.style_layout.specs.CodeView.{feature_seen}
use Rattle.bare_listing.specs.SeenLayer.{layer_in, scene_in, slots_in, sources_in}
use Rattle.bare_listing.proofs.GivenLaws.{own_shown}
use Rattle.bare_listing.proofs.bare_layer.BareLayer.own_answer.Goals as goal

pub returns-clause-answer : goal.returns-clause-answer
returns-clause-answer g c =
    let l = c.args.self.now in
    c.passes.ensures ∙ sym (own_shown (scene_in g.V.TextTests.tests l) (slots_in g.E.CountedEvaluator.slots l) (layer_in l)
    (sources_in l items.Filter) c.in-Some.source (sym c.source.ensures ∙ c.in-Some.is) c.requires.filter c.requires.typed c.requires.own
    (feature_seen c.args.feature.now) (outcome_owned c.in_ok-value-in-Some.value) c.in_ok-value-in-Some.ensures.given)
