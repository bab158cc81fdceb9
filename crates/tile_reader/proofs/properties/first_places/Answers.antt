use Rattle.std.proofs.Common.{◌≡◌, Bor, ℕ, ◌<◌, List, [], length, arith, ap, sym, ◌∙◌}
use Rattle.std.specs.Prelude.{Some, slice_index, slice_index_or}
use Rattle.std.proofs.lemmas.List.{length-take-le, length-map}
use Rattle.std.proofs.lemmas.Grind.{common_steps}
use Rattle.tile_reader.specs.Lookup.{NotesFirst}
use Rattle.tile_reader.specs.View.{texts_seen}
use Rattle.tile_reader.proofs.Firsts.{firsts_more, numbers_more, noted_at}
use Rattle.tile_reader.proofs.properties.first_places.Goals as goal

pub loop-index-preserved : goal.loop-index-preserved
loop-index-preserved c =
    let texts : List (List ℕ) = texts_seen c.args.keys.now in
    let i : ℕ = c.loop-index.index in
    let long : length (texts_seen c.args.keys.now) ≡ length c.args.keys.now = length-map c.args.keys.now (λ (s : Bor (List ℕ)). s.now) in
    let below : c.loop-index.index < length (texts_seen c.args.keys.now) = omega arith in
    let noted : NotesFirst c.loop-index.places c.first_place.new.places (slice_index_or (texts_seen c.args.keys.now) c.loop-index.index []) c.loop-index.index c.in_ok-first.first =
    noted_at c.loop-index.places c.first_place.new.places c.args.keys.now c.loop-index.index c.in_ok-first.first _ (omega arith) c.in_ok-first.ensures in
    let (places, here) = firsts_more c.loop-index.places c.first_place.new.places (texts_seen c.args.keys.now) c.loop-index.index c.in_ok-first.first below (length-take-le c.loop-index.index (texts_seen c.args.keys.now) (omega arith)) c.loop-index.invariant.places noted in
    let numbers = numbers_more c.loop-index.firsts.items (texts_seen c.args.keys.now) c.loop-index.index c.in_ok-first.first c.loop-index.invariant.long c.loop-index.invariant.firsts here in
    record {
      long = first_of (omega arith, grind (arith, common_steps));
      places = places;
      firsts = λ j h. numbers j h ∙ ap (λ (ns : List ℕ). Some (slice_index ns j)) (sym c.in_ok-push.ensures.items);
    }
