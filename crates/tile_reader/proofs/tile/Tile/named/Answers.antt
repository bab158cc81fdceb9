use Rattle.std.proofs.Common.{◌≡◌, sym, ap, ◌∙◌, Some, None, arith}
use Rattle.key_index.specs.Keys.{place_from}
use Rattle.tile_reader.specs.Names.{names, layer_named}
use Rattle.tile_reader.proofs.Names.{place_within, named_at, none_named}
use Rattle.tile_reader.proofs.tile.Tile.named.Goals as goal

pub index-requires : goal.index-requires
index-requires c =
    let found : place_from 0 c.args.name.now (names c.self.inside.layers.items) ≡ Some c.in-Some.place = cc in
    omega (arith, place_within c.args.name.now c.self.inside.layers.items c.in-Some.place found)

pub returns-in-None : goal.returns-in-None
returns-in-None c =
    let none : place_from 0 c.args.name.now (names c.self.inside.layers.items) ≡ None = cc in
    sym (none_named 0 c.args.name.now c.self.inside.layers.items none) ∙ ap (layer_named c.args.name.now) c.self.view_is

pub returns-in-Some : goal.returns-in-Some
returns-in-Some c =
    let found : place_from 0 c.args.name.now (names c.self.inside.layers.items) ≡ Some c.in-Some.place = cc in
    sym (named_at c.args.name.now c.self.inside.layers.items c.in-Some.place c.index.result.now found c.index.ensures) ∙ ap (layer_named c.args.name.now) c.self.view_is
