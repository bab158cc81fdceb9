use Rattle.std.proofs.Common.{◌∙◌, sym, arith}
use Rattle.layer_buckets.specs.LaidOut.{column_of, item_of, row_of}
use Rattle.layer_buckets.proofs.Listings.{not_some}
use Rattle.layer_buckets.proofs.CellLaws.{held_same}
use Rattle.layer_buckets.proofs.SourceLaws.{item_unkept, table_changed, sources_changed, source_missing, columns_changed, columns_missing}
use Rattle.layer_buckets.proofs.table.CellTable.clear_numbered.Goals as goal

pub set_source-requires-clause-column : goal.set_source-requires-clause-column
set_source-requires-clause-column c =
    let t = c.drop_numbered.new.self in
    let below = c.drop_numbered.ensures.table.laid.below c.args.layer (item_of c.args.number) c.in-Some.column (sym c.numbered.ensures ∙ c.in-Some.is) in
    omega (arith, c.drop_numbered.ensures.table.listed)

pub set_source-requires-clause-unkept : goal.set_source-requires-clause-unkept
set_source-requires-clause-unkept c = item_unkept c.args.self.now c.drop_numbered.new.self c.args.layer (item_of c.args.number) c.in-Some.column (sym c.numbered.ensures ∙ c.in-Some.is) c.drop_numbered.ensures.dropped

pub returns-in-Some-clause-table : goal.returns-in-Some-clause-table
returns-in-Some-clause-table c = table_changed c.drop_numbered.new.self c.set_source.new.self c.args.layer (item_of c.args.number) c.in-Some.column (sym c.numbered.ensures ∙ c.in-Some.is) c.drop_numbered.ensures.table c.set_source.ensures.keeping c.set_source.ensures.columns c.set_source.ensures.count c.set_source.ensures.lists

pub returns-in-Some-clause-layers : goal.returns-in-Some-clause-layers
returns-in-Some-clause-layers c = c.drop_numbered.ensures.kept.layers

pub returns-in-Some-clause-sources : goal.returns-in-Some-clause-sources
returns-in-Some-clause-sources c = sources_changed c.args.self.now c.drop_numbered.new.self c.set_source.new.self c.args.layer (item_of c.args.number) c.in-Some.column (sym c.numbered.ensures ∙ c.in-Some.is) c.drop_numbered.ensures.table c.drop_numbered.ensures.kept c.set_source.ensures.columns

pub returns-in-Some-clause-kept : goal.returns-in-Some-clause-kept
returns-in-Some-clause-kept c = λ cell.
    let t = c.drop_numbered.new.self in
    held_same t.cells c.set_source.new.self c.set_source.ensures.kept_outcome (column_of t.layers.items cell.layer cell.item) (row_of cell.feature) ∙ c.drop_numbered.ensures.dropped cell

pub returns-in_default-clause-sources : goal.returns-in_default-clause-sources
returns-in_default-clause-sources c = source_missing c.args.self.now c.drop_numbered.new.self c.args.layer (item_of c.args.number) (sym c.numbered.ensures ∙ not_some c.numbered.result c.in_default.not-Some) c.drop_numbered.ensures.kept

pub returns-in-Some-clause-columns : goal.returns-in-Some-clause-columns
returns-in-Some-clause-columns c = columns_changed c.args.self.now c.drop_numbered.new.self c.set_source.new.self c.args.layer (item_of c.args.number) c.in-Some.column (sym c.numbered.ensures ∙ c.in-Some.is) c.drop_numbered.ensures.kept c.set_source.ensures.columns

pub returns-in_default-clause-columns : goal.returns-in_default-clause-columns
returns-in_default-clause-columns c = columns_missing c.args.self.now c.drop_numbered.new.self c.args.layer (item_of c.args.number) (sym c.numbered.ensures ∙ not_some c.numbered.result c.in_default.not-Some) c.drop_numbered.ensures.kept
