use Rattle.std.proofs.Common.{sym}
use Rattle.std.specs.Prelude.{map}
use Rattle.key_index.proofs.Keys.{lacking_has_no_place}
use Rattle.key_index.proofs.AscendingKeys.{ascending_lacks}
use Rattle.key_index.proofs.index.find_ascending.Goals as goal

pub returns-then-is_above : goal.returns-then-is_above
returns-then-is_above g c =
    let ks = map g.T.Keyed.key c.args.entries.now in
    sym (lacking_has_no_place 0 c.args.key.now ks (ascending_lacks ks c.args.key.now (c.is_above.ensures c.if-is_above.true c.requires)))
