use Rattle.std.proofs.Common.{◌≡◌, true, false, sym, refl, ◌∙◌}
use Rattle.std.specs.Prelude.{map}
use Rattle.prop_values.specs.View.{data_of}
use Rattle.tile_reader.proofs.PairKeys.{place_within, at_place, there_at_place, lacks_without_place, nothing_at}
use Rattle.tile_reader.proofs.feature_properties.value_at.Goals as goal

pub returns-in-Some-clause-value : goal.returns-in-Some-clause-value
returns-in-Some-clause-value c =
    let place = sym c.place_of.ensures ∙ c.in-Some.is in
    let below = place_within c.args.keys.now c.args.pairs.now c.args.key.now c.in-Some.place place in
    sym (at_place c.args.keys.now c.args.values.now c.args.pairs.now c.args.key.now c.in-Some.place c.index-values-pair.result place
    (c.requires.inside c.in-Some.place below).1 c.index-values-pair.is)

pub returns-in-Some-clause-none : goal.returns-in-Some-clause-none
returns-in-Some-clause-none c =
    let place = sym c.place_of.ensures ∙ c.in-Some.is in
    (λ (e : true ≡ false). absurd (cc), λ lacks. absurd (there_at_place c.args.keys.now (map data_of c.args.values.now) c.args.pairs.now c.args.key.now c.in-Some.place place lacks))

pub returns-in-None-clause-none : goal.returns-in-None-clause-none
returns-in-None-clause-none c =
    (λ _. lacks_without_place c.args.keys.now (map data_of c.args.values.now) c.args.pairs.now c.args.key.now (sym c.place_of.ensures ∙ c.in-None.is), λ _. refl)

pub returns-in-None-clause-value : goal.returns-in-None-clause-value
returns-in-None-clause-value c =
    sym (nothing_at c.args.keys.now (map data_of c.args.values.now) c.args.pairs.now c.args.key.now (sym c.place_of.ensures ∙ c.in-None.is))
