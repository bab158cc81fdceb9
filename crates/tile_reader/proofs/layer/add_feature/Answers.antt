use Rattle.std.proofs.Common.{List, [], ◌∷◌, ◌++◌, ap, sym, ◌∙◌, subst}
use Rattle.std.specs.Prelude.{Result, Ok}
use Rattle.tile_reader.specs.declared.fault.TileFault.{TileFault}
use Rattle.tile_reader.specs.declared.feature.TaggedFeature.{TaggedFeature}
use Rattle.tile_reader.specs.Read.{◌then◌}
use Rattle.tile_reader.specs.Feature.{Tagged}
use Rattle.tile_reader.specs.View.{HasAllTags, tagged_all}
use Rattle.tile_reader.proofs.Tags.{tagged_more, has_more}
use Rattle.tile_reader.proofs.layer.add_feature.Goals as goal

pub returns-clause-feature : goal.returns-clause-feature
returns-clause-feature c =
    ap (λ (r : Result Tagged TileFault). r then λ feature. Ok (tagged_all c.args.features.now.items c.args.tags.now.items ++ feature ∷ [])) c.in_ok-feature.ensures.feature
    ∙ ap Ok (sym (tagged_more c.args.features.now.items c.in_ok-feature.feature c.args.tags.now.items c.read_feature.new.tags.items c.requires.tags c.in_ok-feature.ensures.before c.in_ok-feature.ensures.count))
    ∙ ap (λ (fs : List TaggedFeature). Ok (tagged_all fs c.read_feature.new.tags.items)) (sym c.in_ok-push.ensures.items)

pub returns-clause-tags : goal.returns-clause-tags
returns-clause-tags c =
    subst (λ (fs : List TaggedFeature). HasAllTags fs c.read_feature.new.tags.items) (sym c.in_ok-push.ensures.items)
    (has_more c.args.features.now.items c.in_ok-feature.feature c.args.tags.now.items c.read_feature.new.tags.items c.requires.tags c.in_ok-feature.ensures.count)
