use Rattle.std.proofs.Common.{◌∙◌, sym, arith}
use Rattle.layer_buckets.specs.Cells.{is_item}
use Rattle.layer_buckets.specs.LaidOut.{item_of}
use Rattle.layer_buckets.specs.declared.lists.ListName.TheVariants.{Item}
use Rattle.layer_buckets.proofs.Listings.{not_some}
use Rattle.layer_buckets.proofs.TableLaws.{drops_one}
use Rattle.layer_buckets.proofs.ItemLaws.{item_listed, item_missing}
use Rattle.layer_buckets.proofs.table.CellTable.drop_numbered.Goals as goal

pub drop_list-requires-clause-there : goal.drop_list-requires-clause-there
drop_list-requires-clause-there c =
    let below = c.requires.laid.below c.args.layer (item_of c.args.number) c.in-Some.column (sym c.numbered.ensures ∙ c.in-Some.is) in
    omega (arith, below, c.requires.cells.counted.items.lists)

pub returns-in-Some-clause-dropped : goal.returns-in-Some-clause-dropped
returns-in-Some-clause-dropped c =
    let t = c.args.self.now in
    drops_one (Item c.in-Some.column) t c.drop_list.new.self (λ cell. is_item c.args.layer (item_of c.args.number) cell.layer cell.item) c.drop_list.ensures.dropped
    (item_listed t c.requires c.args.layer (item_of c.args.number) c.in-Some.column (sym c.numbered.ensures ∙ c.in-Some.is))

pub returns-in_default-clause-dropped : goal.returns-in_default-clause-dropped
returns-in_default-clause-dropped c =
    item_missing c.args.self.now c.args.layer (item_of c.args.number) (sym c.numbered.ensures ∙ not_some c.numbered.result c.in_default.not-Some)
