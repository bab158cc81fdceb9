use Rattle.std.proofs.Common.{◌≡◌, ℕ, List, length, arith, ap, sym, ◌∙◌, subst, rules}
use Rattle.std.proofs.lemmas.Grind.{common_steps}
use Rattle.std.specs.Prelude.{Some, None, slice_set}
use Rattle.tile_reader.specs.Lookup.{pair_place, ArePlaces}
use Rattle.tile_reader.proofs.Places.{put_there, put_new, place_below, places_same, places_more}
use Rattle.tile_reader.proofs.properties.put.Goals as goal

pub index_mut-requires : goal.index_mut-requires
index_mut-requires c =
    let there : pair_place c.args.pair.0 c.args.chosen.now.items ≡ Some c.in-Some.place = ap (pair_place c.args.pair.0) (sym c.as_slice-2.ensures.value) ∙ sym c.place_of.ensures ∙ c.in-Some.is in
    let below = place_below c.args.pair.0 c.args.chosen.now.items c.in-Some.place there in
    first_of (omega arith, omega (arith, c.as_slice-2.ensures.len, ap length c.as_slice-2.ensures.value))

pub returns-in-Some-clause-pairs : goal.returns-in-Some-clause-pairs
returns-in-Some-clause-pairs c =
    let there : pair_place c.args.pair.0 c.args.chosen.now.items ≡ Some c.in-Some.place = ap (pair_place c.args.pair.0) (sym c.as_slice-2.ensures.value) ∙ sym c.place_of.ensures ∙ c.in-Some.is in
    sym (put_there c.args.pair c.args.chosen.now.items c.in-Some.place there)

pub returns-in-Some-clause-places : goal.returns-in-Some-clause-places
returns-in-Some-clause-places c =
    let there : pair_place c.args.pair.0 c.args.chosen.now.items ≡ Some c.in-Some.place = ap (pair_place c.args.pair.0) (sym c.as_slice-2.ensures.value) ∙ sym c.place_of.ensures ∙ c.in-Some.is in
    subst (λ (pairs : List (ℕ × ℕ)). ArePlaces c.args.places.now.items pairs) (put_there c.args.pair c.args.chosen.now.items c.in-Some.place there)
    (places_same c.args.places.now.items c.args.chosen.now.items c.args.pair c.in-Some.place c.requires.places there)

pub returns-in_ok-push-in-None-clause-pairs : goal.returns-in_ok-push-in-None-clause-pairs
returns-in_ok-push-in-None-clause-pairs c =
    let none : pair_place c.args.pair.0 c.args.chosen.now.items ≡ None = ap (pair_place c.args.pair.0) (sym c.as_slice-2.ensures.value) ∙ sym c.place_of.ensures ∙ c.in-None.is in
    c.in_ok-push-in-None.ensures.items ∙ sym (put_new c.args.pair c.args.chosen.now.items none)

pub returns-in_ok-push-in-None-clause-places : goal.returns-in_ok-push-in-None-clause-places
returns-in_ok-push-in-None-clause-places c =
    let none : pair_place c.args.pair.0 c.args.chosen.now.items ≡ None = ap (pair_place c.args.pair.0) (sym c.as_slice-2.ensures.value) ∙ sym c.place_of.ensures ∙ c.in-None.is in
    subst (λ (pairs : List (ℕ × ℕ)). ArePlaces (slice_set c.args.places.now.items c.args.pair.0 c.len-place.result) pairs) (sym c.in_ok-push-in-None.ensures.items)
    (places_more c.args.places.now.items c.args.chosen.now.items c.args.pair c.len-place.result c.requires.places none c.requires.key (first_of (omega arith, grind (arith, common_steps), search rules)))
