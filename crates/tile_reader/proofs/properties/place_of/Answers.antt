use Rattle.std.proofs.Common.{sym, refl, arith}
use Rattle.tile_reader.proofs.Places.{place_found, place_missed}
use Rattle.tile_reader.proofs.properties.place_of.Goals.{else-place-chosen-via-then-place-chosen+else-chosen-place, else-place-chosen-via-else-place-chosen}
use Rattle.tile_reader.proofs.properties.place_of.Goals as goal

pub returns-then-chosen-place : goal.returns-then-chosen-place
returns-then-chosen-place c = sym (place_found c.args.places.now c.args.chosen.now c.args.key _ c.requires.places refl c.if-place-chosen.true c.if-chosen-place.true)

pub returns-else-place-chosen : goal.returns-else-place-chosen
returns-else-place-chosen c =
    sym (place_missed c.args.places.now c.args.chosen.now c.args.key _ c.requires.places refl (elim c.else-place-chosen.branch [
      | else-place-chosen-via-then-place-chosen+else-chosen-place w ↦ λ below there. w.if-chosen-place.false there
      | else-place-chosen-via-else-place-chosen w ↦ λ below there. absurd (omega arith)
    ]))
