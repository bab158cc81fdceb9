use Rattle.std.proofs.Common.{◌≡◌, ℕ, ◌++◌, List, length, refl, ap, sym, ◌∙◌, arith}
use Rattle.std.specs.Prelude.{Some, Option, Result, Ok, map}
use Rattle.std.proofs.lemmas.List.{length-map, length-append}
use Rattle.prop_values.specs.View.{data_of}
use Rattle.tile_reader.specs.Lookup.{pairs_seen}
use Rattle.tile_reader.specs.View.{tagged_seen}
use Rattle.tile_reader.specs.Ranges.{range}
use Rattle.tile_reader.specs.declared.fault.TileFault.{TileFault}
use Rattle.tile_reader.specs.declared.tile.Feature.{Feature}
use Rattle.tile_reader.proofs.FeatureMade.{within_each, distinct_chosen, feature_made, feature_no_index, if_known, if_not_known}
use Rattle.tile_reader.proofs.Ranges.{last_range, is_last_range, is_front, own_front}
use Rattle.tile_reader.proofs.properties.chosen_feature.Goals as goal

pub returns-then-not-branch-clause-feature : goal.returns-then-not-branch-clause-feature
returns-then-not-branch-clause-feature c =
    feature_no_index c.args.table.now.keys.now (map data_of c.args.table.now.values.now) (tagged_seen c.args.tagged.now c.args.tags.now) c.if-tags-eq1.false (if_not_known _ _ _ c.in_ok-choose.ensures.pairs c.if-not-branch.true)

pub returns-clause-feature : goal.returns-clause-feature
returns-clause-feature c =
    let more : List (ℕ × ℕ) = c.choose.new.choice.pairs.items in
    let is : c.add_pairs.new.pairs.items ≡ c.args.pairs.now.items ++ more = c.in_ok-add_pairs.ensures ∙ ap (λ (ps : List (ℕ × ℕ)). c.args.pairs.now.items ++ ps) c.as_slice.ensures.value in
    let same = last_range c.args.pairs.now.items c.add_pairs.new.pairs.items more (length c.args.pairs.now.items) c.in_ok-count.count is refl (omega (arith, c.in_ok-count.ensures, c.len.ensures)) in
    let with_id : Option ℕ → Result Feature TileFault = λ id. Ok (record { id = id; shape = c.args.tagged.now.shape; properties = pairs_seen c.args.table.now.keys.now (map data_of c.args.table.now.values.now) (range c.add_pairs.new.pairs.items (length c.args.pairs.now.items) c.in_ok-count.count) }) in
    feature_made c.args.table.now.keys.now (map data_of c.args.table.now.values.now) (tagged_seen c.args.tagged.now c.args.tags.now) _ c.if-tags-eq1.false
    (if_known _ _ _ c.in_ok-choose.ensures.pairs c.if-not-branch.false
    ∙ ap (λ (ps : List (ℕ × ℕ)). Some (pairs_seen c.args.table.now.keys.now (map data_of c.args.table.now.values.now) ps)) (sym same))
    ∙ ap with_id (sym (own_front c.args.tagged.now.id c.args.tagged.now.has_id))

pub returns-clause-range : goal.returns-clause-range
returns-clause-range c =
    let more : List (ℕ × ℕ) = c.choose.new.choice.pairs.items in
    let is : c.add_pairs.new.pairs.items ≡ c.args.pairs.now.items ++ more = c.in_ok-add_pairs.ensures ∙ ap (λ (ps : List (ℕ × ℕ)). c.args.pairs.now.items ++ ps) c.as_slice.ensures.value in
    is_last_range c.args.table.now.keys.now (map data_of c.args.table.now.values.now) c.args.pairs.now.items c.add_pairs.new.pairs.items more (length c.args.pairs.now.items) c.in_ok-count.count (length c.args.table.now.values.now) is
    refl (omega (arith, c.in_ok-count.ensures, c.len.ensures)) (length-map c.args.table.now.values.now data_of)
    (within_each c.args.table.now.firsts.now (length c.args.table.now.keys.now) (length c.args.table.now.values.now) more c.requires.firsts.0 c.in_ok-choose.ensures.inside)
    (distinct_chosen c.args.table.now.keys.now (map data_of c.args.table.now.values.now) c.args.tags.now (pairs_seen c.args.table.now.keys.now (map data_of c.args.table.now.values.now) more) (if_known _ _ _ c.in_ok-choose.ensures.pairs c.if-not-branch.false))

pub returns-clause-before : goal.returns-clause-before
returns-clause-before c = is_front c.args.pairs.now.items c.add_pairs.new.pairs.items c.as_slice.result.now c.in_ok-add_pairs.ensures

pub returns-clause-long : goal.returns-clause-long
returns-clause-long c =
    let more : List (ℕ × ℕ) = c.choose.new.choice.pairs.items in
    let is : c.add_pairs.new.pairs.items ≡ c.args.pairs.now.items ++ more = c.in_ok-add_pairs.ensures ∙ ap (λ (ps : List (ℕ × ℕ)). c.args.pairs.now.items ++ ps) c.as_slice.ensures.value in
    let long = ap length is in
    let both = length-append c.args.pairs.now.items more in
    omega (arith, long, both, c.in_ok-count.ensures, c.len.ensures)
