use Rattle.std.proofs.Common.{ap, length}
use Rattle.layer_buckets.specs.KeptSlots.{column_at}
use Rattle.layer_buckets.specs.LaidOut.{column_of, row_of}
use Rattle.layer_buckets.proofs.TableLaws.{table_kept, held_dropped}
use Rattle.layer_buckets.proofs.table.CellTable.drop_list.Goals as goal

pub returns-clause-table : goal.returns-clause-table
returns-clause-table c =
    table_kept c.args.self.now c.drop_list.new.self c.requires.table c.drop_list.ensures.sound (λ n. ap (λ cs. column_at cs n) c.drop_list.ensures.columns) (ap length c.drop_list.ensures.columns) c.drop_list.ensures.alike.item_lists c.drop_list.ensures.alike.state_lists

pub returns-clause-dropped : goal.returns-clause-dropped
returns-clause-dropped c = λ cell.
    let t = c.args.self.now in
    held_dropped t.cells c.drop_list.new.self c.args.name c.drop_list.ensures.kept_outcome (column_of t.layers.items cell.layer cell.item) (row_of cell.feature)
