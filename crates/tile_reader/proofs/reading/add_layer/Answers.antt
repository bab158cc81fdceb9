use Rattle.std.proofs.Common.{◌≡◌, sym, subst}
use Rattle.std.specs.Prelude.{Ok}
use Rattle.key_index.specs.Keys.{LacksKey}
use Rattle.tile_reader.specs.Layer.{new_name}
use Rattle.tile_reader.specs.Names.{names}
use Rattle.tile_reader.proofs.Names.{new_names_lack}
use Rattle.tile_reader.proofs.reading.add_layer.Goals as goal

pub push-requires : goal.push-requires
push-requires c =
    let earlier = names c.args.tile.now in
    let new : new_name c.args.at earlier c.in_ok-name.name.now ≡ Ok c.in_ok-name-2.name.now = c.in_ok-name-2.ensures in
    subst (λ name. LacksKey name earlier) (sym c.in_ok-text.ensures) (new_names_lack c.args.at c.in_ok-name.name.now c.in_ok-name-2.name.now earlier new)
