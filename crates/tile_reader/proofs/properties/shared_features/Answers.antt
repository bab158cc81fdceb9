use Rattle.std.proofs.Common.{◌≡◌, ◌∙◌, ◌+◌, ◌++◌, List, ℕ, false, sym, ap, subst, arith, drop, get_or}
use Rattle.std.specs.Prelude.{map}
use Rattle.std.proofs.lemmas.List.{get_or_default}
use Rattle.prop_values.specs.View.{data_of}
use Rattle.tile_reader.specs.Ranges.{IsRange, feature_in, features_in}
use Rattle.tile_reader.specs.declared.properties.ChosenFeature.{ChosenFeature}
use Rattle.tile_reader.specs.declared.tile.Feature.{Feature}
use Rattle.tile_reader.specs.declared.tile.Shape.TheVariants.{Unknown}
use Rattle.tile_reader.proofs.Ranges.{ranges_from, features_next, features_done}
use Rattle.tile_reader.proofs.properties.shared_features.Goals as goal

pub of_range-requires : goal.of_range-requires
of_range-requires c =
    let i : ℕ = c.loop-feature.feature-index in
    let none : ChosenFeature = record { count = 0; has_id = false; shape = Unknown } in
    let chosen : ChosenFeature = get_or c.args.chosen.now i none in
    let from = ranges_from c.args.table.now.value.keys.items (map data_of c.args.table.now.value.values.items) c.args.table.now.value.pairs.items c.loop-feature.first c.args.chosen.now i chosen c.loop-feature-test.true
    (get_or_default c.args.chosen.now i none chosen c.loop-feature-test.true) c.loop-feature.invariant.ranges in
    subst (λ (n : ℕ). IsRange c.args.table.now.value.keys.items (map data_of c.args.table.now.value.values.items) c.args.table.now.value.pairs.items n chosen.count) (sym c.in_ok-from.ensures) from.0

pub loop-feature-preserved : goal.loop-feature-preserved
loop-feature-preserved c =
    let i : ℕ = c.loop-feature.feature-index in
    let none : ChosenFeature = record { count = 0; has_id = false; shape = Unknown } in
    let chosen : ChosenFeature = get_or c.args.chosen.now i none in
    let from = ranges_from c.args.table.now.value.keys.items (map data_of c.args.table.now.value.values.items) c.args.table.now.value.pairs.items c.loop-feature.first c.args.chosen.now i chosen c.loop-feature-test.true
    (get_or_default c.args.chosen.now i none chosen c.loop-feature-test.true) c.loop-feature.invariant.ranges in
    let left : List ℕ = c.loop-feature.rest.now in
    let made : Feature = record { id = c.of.result; shape = chosen.shape; properties = c.in_ok-properties.properties } in
    let id_is = c.of.ensures ∙ c.front_id-id.ensures.id in
    let is : made ≡ feature_in c.args.table.now.value.keys.items (map data_of c.args.table.now.value.values.items) c.args.table.now.value.pairs.items left c.in_ok-from.from chosen = λ j. record { id = id_is j; shape = chosen.shape; properties = c.in_ok-properties.ensures j } in
    let whole : List Feature = features_in c.args.table.now.value.keys.items (map data_of c.args.table.now.value.values.items) c.args.table.now.value.pairs.items c.args.ids.now 0 c.args.chosen.now in
    record {
      ranges = from.1;
      features =
          subst (λ (ids : List ℕ). c.push.new.self ++ features_in c.args.table.now.value.keys.items (map data_of c.args.table.now.value.values.items) c.args.table.now.value.pairs.items ids (c.loop-feature.first + chosen.count) (drop (i + 1) c.args.chosen.now) ≡ whole) (sym c.front_id-id.ensures.others)
          (features_next c.args.table.now.value.keys.items (map data_of c.args.table.now.value.values.items) c.args.table.now.value.pairs.items left c.loop-feature.first c.args.chosen.now i chosen c.loop-feature.features c.push.new.self whole made
          c.loop-feature-test.true (get_or_default c.args.chosen.now i none chosen c.loop-feature-test.true) c.in_ok-push.ensures.ok
          (is ∙ ap (λ (n : ℕ). feature_in c.args.table.now.value.keys.items (map data_of c.args.table.now.value.values.items) c.args.table.now.value.pairs.items left n chosen) c.in_ok-from.ensures) c.loop-feature.invariant.features);
    }

pub returns : goal.returns
returns c =
    features_done c.args.table.now.value.keys.items (map data_of c.args.table.now.value.values.items) c.args.table.now.value.pairs.items c.loop-feature.rest.now c.loop-feature.first c.args.chosen.now c.loop-feature.feature-index c.loop-feature.features
    (features_in c.args.table.now.value.keys.items (map data_of c.args.table.now.value.values.items) c.args.table.now.value.pairs.items c.args.ids.now 0 c.args.chosen.now) (omega arith) c.loop-feature.invariant.features
