use Rattle.std.proofs.Common.{◌∙◌, sym, arith}
use Rattle.layer_buckets.specs.LaidOut.{column_of, row_of}
use Rattle.layer_buckets.proofs.Listings.{not_some}
use Rattle.layer_buckets.proofs.CellLaws.{held_same}
use Rattle.layer_buckets.proofs.SourceLaws.{item_unkept, table_changed, sources_changed, source_missing}
use Rattle.layer_buckets.proofs.table.CellTable.remove_source.Goals as goal

pub set_source-requires-clause-column : goal.set_source-requires-clause-column
set_source-requires-clause-column c =
    let t = c.drop_item.new.self in
    let below = c.drop_item.ensures.table.laid.below c.args.layer c.args.item c.in-Some.column (sym c.column.ensures ∙ c.in-Some.is) in
    omega (arith, c.drop_item.ensures.table.listed)

pub set_source-requires-clause-unkept : goal.set_source-requires-clause-unkept
set_source-requires-clause-unkept c = item_unkept c.args.self.now c.drop_item.new.self c.args.layer c.args.item c.in-Some.column (sym c.column.ensures ∙ c.in-Some.is) c.drop_item.ensures.dropped

pub returns-in-Some-clause-table : goal.returns-in-Some-clause-table
returns-in-Some-clause-table c = table_changed c.drop_item.new.self c.set_source.new.self c.args.layer c.args.item c.in-Some.column (sym c.column.ensures ∙ c.in-Some.is) c.drop_item.ensures.table c.set_source.ensures.keeping c.set_source.ensures.columns c.set_source.ensures.count c.set_source.ensures.lists

pub returns-in-Some-clause-layers : goal.returns-in-Some-clause-layers
returns-in-Some-clause-layers c = c.drop_item.ensures.kept.layers

pub returns-in-Some-clause-sources : goal.returns-in-Some-clause-sources
returns-in-Some-clause-sources c = sources_changed c.args.self.now c.drop_item.new.self c.set_source.new.self c.args.layer c.args.item c.in-Some.column (sym c.column.ensures ∙ c.in-Some.is) c.drop_item.ensures.table c.drop_item.ensures.kept c.set_source.ensures.columns

pub returns-in-Some-clause-kept : goal.returns-in-Some-clause-kept
returns-in-Some-clause-kept c = λ cell.
    let t = c.drop_item.new.self in
    held_same t.cells c.set_source.new.self c.set_source.ensures.kept_outcome (column_of t.layers.items cell.layer cell.item) (row_of cell.feature) ∙ c.drop_item.ensures.dropped cell

pub returns-in_default-clause-sources : goal.returns-in_default-clause-sources
returns-in_default-clause-sources c = source_missing c.args.self.now c.drop_item.new.self c.args.layer c.args.item (sym c.column.ensures ∙ not_some c.column.result c.in_default.not-Some) c.drop_item.ensures.kept
