use Rattle.std.proofs.Common.{length, refl}
use Rattle.std.proofs.lemmas.Option.{slice_get_read}
use Rattle.layer_buckets.specs.LaidOut.{item_number}
use Rattle.layer_buckets.proofs.ItemLaws.{name_set, items_within}
use Rattle.layer_buckets.proofs.layers.name_column.Goals as goal

pub returns-clause-columns : goal.returns-clause-columns
returns-clause-columns c =
    let layers = c.args.layers.now.items in
    name_set layers c.args.layer c.name.new.self c.index_mut.result.now c.args.item c.args.column
    (slice_get_read layers (length layers) c.args.layer c.index_mut.result.now refl (items_within layers c.args.layer (item_number c.args.item) c.requires) c.index_mut.ensures.value)
    c.name.ensures.columns
