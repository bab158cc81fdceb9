use Rattle.std.proofs.Common.{◌∙◌, sym, arith}
use Rattle.layer_buckets.specs.LaidOut.{column_of, row_of}
use Rattle.layer_buckets.proofs.Listings.{not_some}
use Rattle.layer_buckets.proofs.CellLaws.{held_same}
use Rattle.layer_buckets.proofs.SlottedLaws.{table_slotted, sources_slotted, sources_missing}
use Rattle.layer_buckets.proofs.table.CellTable.set_number.Goals as goal

pub set_number-requires-clause-column : goal.set_number-requires-clause-column
set_number-requires-clause-column c =
    let t = c.args.self.now in
    let below = c.requires.laid.below c.args.layer c.args.item c.in-Some.column (sym c.column.ensures ∙ c.in-Some.is) in
    omega (arith, c.requires.listed)

pub returns-in-Some-clause-table : goal.returns-in-Some-clause-table
returns-in-Some-clause-table c =
    let r = c.set_number.ensures in
    table_slotted c.args.self.now c.set_number.new.self c.args.layer c.args.item c.in-Some.column c.args.number (sym c.column.ensures ∙ c.in-Some.is) c.requires
    r.columns r.keeping r.count r.lists

pub returns-in-Some-clause-sources : goal.returns-in-Some-clause-sources
returns-in-Some-clause-sources c =
    sources_slotted c.args.self.now c.set_number.new.self c.args.layer c.args.item c.in-Some.column c.args.number (sym c.column.ensures ∙ c.in-Some.is)
    c.requires c.set_number.ensures.columns

pub returns-in-Some-clause-kept : goal.returns-in-Some-clause-kept
returns-in-Some-clause-kept c = λ cell.
    let t = c.args.self.now in
    held_same t.cells c.set_number.new.self c.set_number.ensures.kept_outcome (column_of t.layers.items cell.layer cell.item) (row_of cell.feature)

pub returns-in_default-clause-sources : goal.returns-in_default-clause-sources
returns-in_default-clause-sources c =
    sources_missing c.args.self.now c.args.layer c.args.item c.args.number (sym c.column.ensures ∙ not_some c.column.result c.in_default.not-Some)
