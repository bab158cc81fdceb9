use Rattle.std.proofs.Common.{◌-◌, length, refl, arith}
use Rattle.std.proofs.lemmas.Option.{slice_get_read}
use Rattle.node_pool.proofs.block.last_of.Goals as goal

pub returns : goal.returns
returns c =
    let ps = c.args.nodes.now in
    slice_get_read ps (length ps) (length ps - 1) c.index-nodes-number.result refl (omega (arith, c.requires)) c.index-nodes-number.is
