use Rattle.std.proofs.Common.{◌≡◌, inl, inr, refl}
use Rattle.std.specs.Prelude.{Some, None}
use Rattle.std.proofs.lemmas.Map.Text.{btree_map_updates_str}
use Rattle.tile_reader.specs.Lookup.{find_text}
use Rattle.tile_reader.proofs.properties.first_place.Goals as goal

pub returns-in-Some : goal.returns-in-Some
returns-in-Some c =
    let found : find_text c.args.places.now c.args.key.now ≡ Some c.in-Some.first = cc in
    inl (found, λ q. refl)

pub returns-in_ok-insert-in-None : goal.returns-in_ok-insert-in-None
returns-in_ok-insert-in-None c =
    let none : find_text c.args.places.now c.args.key.now ≡ None = cc in
    inr (none, refl, btree_map_updates_str c.args.key.now c.args.places.now c.insert.new.self (Some c.args.index) c.in_ok-insert-in-None.ensures.updates)
