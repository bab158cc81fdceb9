use Rattle.std.proofs.Common.{ap}
use Rattle.layer_buckets.specs.KeptSlots.{column_at}
use Rattle.layer_buckets.specs.LaidOut.{column_of, source_seen}
use Rattle.layer_buckets.specs.Outcomes.{outcome_owned}
use Rattle.layer_buckets.proofs.TableLaws.{table_kept}
use Rattle.layer_buckets.proofs.CellLaws.{cell_kept, source_same, kept_none}
use Rattle.layer_buckets.proofs.table.CellTable.keep.Goals as goal

pub keep-requires-clause-new : goal.keep-requires-clause-new
keep-requires-clause-new c = kept_none c.args.self.now c.args.cell.now c.args.place c.requires.place.column c.requires.place.row c.requires.new

pub returns-clause-table : goal.returns-clause-table
returns-clause-table c = table_kept c.args.self.now c.keep.new.self c.requires.table c.keep.ensures.sound c.keep.ensures.columns c.keep.ensures.count c.keep.ensures.alike.item_lists c.keep.ensures.alike.state_lists

pub returns-clause-sources : goal.returns-clause-sources
returns-clause-sources c = λ l i. source_same (column_at c.args.self.now.cells.columns.items) (column_at c.keep.new.self.columns.items) (λ n. ap source_seen (c.keep.ensures.columns n)) (column_of c.args.self.now.layers.items l i)

pub returns-clause-kept : goal.returns-clause-kept
returns-clause-kept c = cell_kept c.args.self.now c.keep.new.self c.args.cell.now c.args.place (outcome_owned c.args.outcome) c.requires.table c.requires.place.column c.requires.place.row c.keep.ensures.kept_outcome
