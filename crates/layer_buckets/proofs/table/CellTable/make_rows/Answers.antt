use Rattle.std.proofs.Common.{arith}
use Rattle.layer_buckets.proofs.CellLaws.{row_there, rows_table, rows_same}
use Rattle.layer_buckets.proofs.table.CellTable.make_rows.Goals as goal

pub make_rows-requires-clause-column : goal.make_rows-requires-clause-column
make_rows-requires-clause-column c =
    let below = c.requires.table.laid.below c.args.cell.now.layer c.args.cell.now.item c.args.column c.requires.column in
    omega (arith, c.requires.table.listed)

pub make_rows-requires-clause-there : goal.make_rows-requires-clause-there
make_rows-requires-clause-there c = λ row h. row_there c.args.self.now c.requires.table c.args.cell.now.layer c.args.cell.now.item c.args.column row c.requires.column (omega (arith, c.requires.rows))

pub returns-clause-table : goal.returns-clause-table
returns-clause-table c = rows_table c.args.self.now c.make_rows.new.self c.args.cell.now.layer c.args.cell.now.item c.args.column c.args.rows c.requires.table c.requires.column c.requires.rows c.make_rows.ensures.keeping c.make_rows.ensures.others c.make_rows.ensures.rows c.make_rows.ensures.count c.make_rows.ensures.lists

pub returns-clause-same : goal.returns-clause-same
returns-clause-same c = rows_same c.args.self.now c.make_rows.new.self c.args.cell.now.layer c.args.cell.now.item c.args.column c.args.rows c.requires.table c.requires.column c.requires.rows c.make_rows.ensures.kept_outcome c.make_rows.ensures.others c.make_rows.ensures.rows c.make_rows.ensures.count
