use Rattle.std.proofs.Common.{◌≡◌, ◌+◌, ◌∙◌, false, Bool, List, ℕ, length, ap, sym, subst, arith, [], drop, get_or}
use Rattle.std.specs.Prelude.{map}
use Rattle.std.proofs.lemmas.List.{get_or_default, length-append}
use Rattle.prop_values.specs.View.{data_of}
use Rattle.tile_reader.specs.Ids.{own_ids, count_of_id}
use Rattle.tile_reader.specs.Properties.{features_of}
use Rattle.tile_reader.specs.Ranges.{IsRange, AreRanges, features_in, count_of_pairs, count_of_ids}
use Rattle.tile_reader.specs.View.{tagged_all}
use Rattle.tile_reader.specs.declared.feature.TaggedFeature.{TaggedFeature}
use Rattle.tile_reader.specs.declared.properties.ChosenFeature.{ChosenFeature}
use Rattle.tile_reader.specs.declared.tile.Shape.TheVariants.{Unknown}
use Rattle.tile_reader.proofs.Ranges.{one_more, are_ranges_still, pairs_more, ids_more, own_long, read_more}
use Rattle.tile_reader.proofs.Tags.{has_left}
use Rattle.tile_reader.proofs.properties.chosen_features.Goals as goal

pub loop-feature-preserved : goal.loop-feature-preserved
loop-feature-preserved c =
    let i : ℕ = c.loop-feature.feature-index in
    let tagged : TaggedFeature = get_or c.args.tagged.now i (record { at = 0; id = 0; count = 0; has_id = false; shape = Unknown }) in
    let is : tagged ≡ get_or c.args.tagged.now i tagged = get_or_default c.args.tagged.now i (record { at = 0; id = 0; count = 0; has_id = false; shape = Unknown }) tagged c.loop-feature-test.true in
    let at : length c.loop-feature.pairs.items ≡ 0 + count_of_pairs c.loop-feature.chosen.items = let long = c.loop-feature.invariant.long in omega arith in
    let both = pairs_more c.loop-feature.chosen.items c.in_ok-chosen_feature.field-0 in
    let own : List ℕ = own_ids tagged.id tagged.has_id in
    record {
      many =
          ap count_of_ids c.in_ok-push.ensures.items
          ∙ ids_more c.loop-feature.chosen.items c.in_ok-chosen_feature.field-0
          ∙ ap (λ (n : ℕ). n + count_of_id c.in_ok-chosen_feature.field-0.has_id) c.loop-feature.invariant.many
          ∙ ap (λ (h : Bool). length c.loop-feature.ids.items + count_of_id h) c.in_ok-chosen_feature.ensures.kept
          ∙ ap (λ (n : ℕ). length c.loop-feature.ids.items + n) (sym (own_long tagged.id tagged.has_id))
          ∙ sym (length-append c.loop-feature.ids.items own)
          ∙ sym (ap length c.in_ok-chosen_feature.ensures.ids);
      long = ap count_of_pairs c.in_ok-push.ensures.items ∙ both ∙ ap (λ (n : ℕ). n + c.in_ok-chosen_feature.field-0.count) c.loop-feature.invariant.long ∙ c.in_ok-chosen_feature.ensures.long;
      places = c.in_ok-chosen_feature.ensures.places;
      tags = has_left c.args.tagged.now i tagged c.loop-feature.rest.now c.split_at.result.1.now c.loop-feature-test.true is c.loop-feature.invariant.tags c.split_at.ensures.back;
      ranges =
          subst (AreRanges c.args.table.now.keys.now (map data_of c.args.table.now.values.now) c.chosen_feature.new.pairs.items 0) (sym c.in_ok-push.ensures.items)
          (one_more c.args.table.now.keys.now (map data_of c.args.table.now.values.now) c.chosen_feature.new.pairs.items 0 c.loop-feature.chosen.items c.in_ok-chosen_feature.field-0
          (are_ranges_still c.args.table.now.keys.now (map data_of c.args.table.now.values.now) c.loop-feature.pairs.items c.chosen_feature.new.pairs.items 0 c.loop-feature.chosen.items c.in_ok-chosen_feature.ensures.before c.loop-feature.invariant.ranges)
          (subst (λ (n : ℕ). IsRange c.args.table.now.keys.now (map data_of c.args.table.now.values.now) c.chosen_feature.new.pairs.items n c.in_ok-chosen_feature.field-0.count) at c.in_ok-chosen_feature.ensures.range));
      read =
          subst (λ (cs : List ChosenFeature). features_of c.args.table.now.keys.now (map data_of c.args.table.now.values.now)
          (features_in c.args.table.now.keys.now (map data_of c.args.table.now.values.now) c.chosen_feature.new.pairs.items c.chosen_feature.new.ids.items 0 cs) (tagged_all (drop (i + 1) c.args.tagged.now) c.split_at.result.1.now)
          ≡ features_of c.args.table.now.keys.now (map data_of c.args.table.now.values.now) [] (tagged_all c.args.tagged.now c.args.tags.now)) (sym c.in_ok-push.ensures.items)
          (read_more c.args.table.now.keys.now (map data_of c.args.table.now.values.now) c.loop-feature.pairs.items c.chosen_feature.new.pairs.items c.loop-feature.ids.items c.chosen_feature.new.ids.items own c.loop-feature.chosen.items c.in_ok-chosen_feature.field-0 c.args.tagged.now i tagged c.loop-feature.rest.now
          c.split_at.result.0.now c.split_at.result.1.now _
          c.in_ok-chosen_feature.ensures.before c.loop-feature.invariant.long c.loop-feature.invariant.many c.in_ok-chosen_feature.ensures.ids c.loop-feature.invariant.ranges c.loop-feature-test.true is c.split_at.ensures.front c.split_at.ensures.back c.in_ok-chosen_feature.ensures.feature c.loop-feature.invariant.read);
    }
