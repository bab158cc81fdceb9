use Rattle.std.proofs.Common.{ap, arith}
use Rattle.layer_buckets.specs.KeptSlots.{column_at}
use Rattle.layer_buckets.specs.LaidOut.{held_by, row_of, source_by}
use Rattle.layer_buckets.proofs.Places.{get_past}
use Rattle.layer_buckets.proofs.ClearLaws.{laid_forgotten, no_place}
use Rattle.layer_buckets.proofs.table.CellTable.forget.Goals as goal

pub returns-then-layer-len-clause-table : goal.returns-then-layer-len-clause-table
returns-then-layer-len-clause-table c =
    let t = c.args.self.now in
    let k = c.requires.table in
    let s = c.set_features.ensures in
    record {
      cells = k.cells;
      listed = k.listed;
      laid = laid_forgotten t.layers.items c.set_features.new.layers.items (column_at t.cells.columns.items) t.cells.lists.item_lists t.cells.lists.state_lists c.args.layer c.requires.sources c.requires.rows s.columns s.features s.first s.states k.laid;
    }

pub returns-then-layer-len-clause-kept : goal.returns-then-layer-len-clause-kept
returns-then-layer-len-clause-kept c = λ cell. ap (λ o. held_by c.args.self.now.cells o (row_of cell.feature)) (c.set_features.ensures.columns cell.layer cell.item)

pub returns-then-layer-len-clause-sources : goal.returns-then-layer-len-clause-sources
returns-then-layer-len-clause-sources c = λ l i. ap (source_by (column_at c.args.self.now.cells.columns.items)) (c.set_features.ensures.columns l i)

pub returns-else-layer-len-clause-features : goal.returns-else-layer-len-clause-features
returns-else-layer-len-clause-features c = no_place c.args.self.now.layers.items c.args.layer (get_past c.args.self.now.layers.items c.args.layer (omega (arith, c.if-layer-len.false, c.len.ensures)))
