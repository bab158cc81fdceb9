use Rattle.std.proofs.Common.{◌≡◌, ◌∙◌, ap, Bool, true, false}
use Rattle.std.specs.Prelude.{Ok, is_some, if◌then◌else◌}
use Rattle.tile_reader.specs.declared.fault.TileKind.TheVariants.{RepeatedName}
use Rattle.tile_reader.specs.Read.{refused}
use Rattle.tile_reader.proofs.Names.{any_found}
use Rattle.tile_reader.proofs.reading.new_name.Goals as goal

pub returns-then-is_some : goal.returns-then-is_some
returns-then-is_some c =
    let found : is_some c.named.result ≡ true = cc in
    ap (λ (known : Bool). if known then refused RepeatedName c.args.at else Ok c.args.name.now) (any_found c.args.name.now c.args.tile.now c.named.result c.named.ensures ∙ found)

pub returns : goal.returns
returns c =
    let found : is_some c.named.result ≡ false = cc in
    ap (λ (known : Bool). if known then refused RepeatedName c.args.at else Ok c.args.name.now) (any_found c.args.name.now c.args.tile.now c.named.result c.named.ensures ∙ found)
