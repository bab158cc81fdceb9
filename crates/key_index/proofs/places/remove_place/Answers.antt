use Rattle.std.proofs.Common.{None}
use Rattle.std.proofs.lemmas.Map.Text.{btree_map_updates_text}
use Rattle.key_index.proofs.places.remove_place.Goals as goal

pub returns : goal.returns
returns c = λ q. btree_map_updates_text c.args.key.now c.args.places.now c.remove.new.self None c.remove.ensures.updates q
