use Rattle.std.proofs.Common.{◌≡◌, ℕ, ◌<◌, List, [], ◌∷◌, length, arith, ap, sym, ◌∙◌, subst}
use Rattle.std.specs.Prelude.{map, slice_index}
use Rattle.std.proofs.lemmas.List.{length-map}
use Rattle.tile_reader.specs.Lookup.{AreInside, pairs_seen}
use Rattle.prop_values.specs.View.{data_of}
use Rattle.tile_reader.proofs.TextPlaces.{first_again}
use Rattle.tile_reader.proofs.Pairs.{put_inside}
use Rattle.tile_reader.proofs.Chosen.{after_pairs, chosen_more}
use Rattle.tile_reader.proofs.properties.choose.Goals as goal

pub loop-key-preserved : goal.loop-key-preserved
loop-key-preserved c =
    let found = c.in-Some-indices.ensures.found in
    let values_long : length (map data_of c.args.values.now) ≡ length c.args.values.now = length-map c.args.values.now data_of in
    let firsts_long : length c.args.firsts.now ≡ length c.args.keys.now = c.requires.firsts.0 in
    let key_below : c.in-Some-indices.key < length c.args.keys.now = omega (arith, found.0, found.2) in
    let value_below : c.in-Some-indices.value < length (map data_of c.args.values.now) = omega (arith, found.1, found.3) in
    let again = first_again c.args.firsts.now c.args.keys.now c.in-Some-indices.key c.requires.firsts key_below in
    let first_below : slice_index c.args.firsts.now c.in-Some-indices.key < length c.args.firsts.now = omega (arith, again.0) in
    let value_inside : c.in-Some-indices.value < length c.args.values.now = omega arith in
    let inside = put_inside c.args.firsts.now (length c.args.values.now) (slice_index c.args.firsts.now c.in-Some-indices.key, c.in-Some-indices.value) c.loop-key.choice.pairs.items (first_below, again.2, value_inside, tt) c.loop-key.invariant.inside in
    let front : c.loop-key.rest.now ≡ c.in-Some-indices.key ∷ (c.in-Some-indices.value ∷ c.in-Some.others.now) =
    c.in-Some.ensures.pair ∙ ap (λ (n : ℕ). n ∷ (c.in-Some.value ∷ c.in-Some.others.now)) (sym found.0) ∙ ap (λ (n : ℕ). c.in-Some-indices.key ∷ (n ∷ c.in-Some.others.now)) (sym found.1) in
    let left = chosen_more c.args.firsts.now c.args.keys.now (map data_of c.args.values.now) c.loop-key.choice.pairs.items (length c.args.values.now) c.in-Some-indices.key c.in-Some-indices.value c.loop-key.rest.now c.in-Some.others.now
    (after_pairs c.args.keys.now (map data_of c.args.values.now) [] c.args.tags.now) c.requires.firsts key_below value_below c.loop-key.invariant.inside front c.loop-key.invariant.left in
    record {
      long = c.in_ok-put-in-Some-indices.ensures.long ∙ c.loop-key.invariant.long;
      places = c.in_ok-put-in-Some-indices.ensures.places;
      inside = subst (λ (pairs : List (ℕ × ℕ)). AreInside c.args.firsts.now (length c.args.values.now) pairs) (sym c.in_ok-put-in-Some-indices.ensures.pairs) inside;
      left = subst (λ (pairs : List (ℕ × ℕ)). after_pairs c.args.keys.now (map data_of c.args.values.now) (pairs_seen c.args.keys.now (map data_of c.args.values.now) pairs) c.in-Some.others.now ≡ after_pairs c.args.keys.now (map data_of c.args.values.now) [] c.args.tags.now) (sym c.in_ok-put-in-Some-indices.ensures.pairs) left;
    }

pub put-requires-clause-key : goal.put-requires-clause-key
put-requires-clause-key c =
    let found = c.in-Some-indices.ensures.found in
    let key_below : c.in-Some-indices.key < length c.args.keys.now = omega (arith, found.0, found.2) in
    let again = first_again c.args.firsts.now c.args.keys.now c.in-Some-indices.key c.requires.firsts key_below in
    let long = c.loop-key.invariant.long in
    omega (arith, again.0)
