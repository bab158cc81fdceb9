use Rattle.std.proofs.Common.{arith}
use Rattle.layer_buckets.specs.Cells.{reads_images}
use Rattle.layer_buckets.specs.LaidOut.{column_of, row_of, source_in_table}
use Rattle.layer_buckets.specs.declared.lists.ListName.TheVariants.{Image}
use Rattle.layer_buckets.proofs.TableLaws.{images_named, drops_two, kept_then}
use Rattle.layer_buckets.proofs.table.CellTable.drop_images.Goals as goal

pub drop_list-requires-clause-there : goal.drop_list-requires-clause-there
drop_list-requires-clause-there c = omega (arith, c.requires.cells.counted.images.lists)

pub drop_list-requires-2-clause-there : goal.drop_list-requires-2-clause-there
drop_list-requires-2-clause-there c = omega (arith, c.drop_list.ensures.table.cells.counted.images.lists)

pub returns-clause-kept : goal.returns-clause-kept
returns-clause-kept c = kept_then c.args.self.now c.drop_list.new.self c.drop_list-2.new.self c.drop_list.ensures.kept c.drop_list-2.ensures.kept

pub returns-clause-dropped : goal.returns-clause-dropped
returns-clause-dropped c =
    let t = c.args.self.now in
    drops_two (Image 0) (Image 1) t c.drop_list.new.self c.drop_list-2.new.self (λ cell. reads_images (source_in_table t cell.layer cell.item)) c.drop_list.ensures.kept c.drop_list.ensures.dropped c.drop_list-2.ensures.dropped
    (λ cell. images_named t.cells.columns.items (column_of t.layers.items cell.layer cell.item) (row_of cell.feature))
