use Rattle.std.proofs.Common.{◌∙◌, Some, nat_eq, ap, if◌then◌else◌}
use Rattle.layer_buckets.specs.KeptSlots.{column_at}
use Rattle.layer_buckets.specs.LaidOut.{held_by, row_of, source_by}
use Rattle.layer_buckets.proofs.AddLaws.{laid_views, laid_features, table_views}
use Rattle.layer_buckets.proofs.table.CellTable.add.Goals as goal

pub returns-clause-table : goal.returns-clause-table
returns-clause-table c =
    let t = c.args.self.now in
    let k = c.requires.table in
    let g = c.grow_layers.new.layers in
    let s = c.set_features.ensures in
    record {
      cells = k.cells;
      listed = k.listed;
      laid = laid_features g.items c.set_features.new.layers.items (column_at t.cells.columns.items) t.cells.lists.item_lists t.cells.lists.state_lists c.args.layer c.args.features (c.grow_layers.ensures.stay.features c.args.layer ∙ c.requires.absent) c.requires.few s.columns s.features s.first s.states
          (laid_views t.layers.items g.items (column_at t.cells.columns.items) t.cells.lists.item_lists t.cells.lists.state_lists c.grow_layers.ensures.columns c.grow_layers.ensures.stay k.laid);
    }

pub returns-clause-kept : goal.returns-clause-kept
returns-clause-kept c = λ cell. ap (λ o. held_by c.args.self.now.cells o (row_of cell.feature)) (c.set_features.ensures.columns cell.layer cell.item ∙ c.grow_layers.ensures.columns cell.layer cell.item)

pub returns-clause-sources : goal.returns-clause-sources
returns-clause-sources c = λ l i. ap (source_by (column_at c.args.self.now.cells.columns.items)) (c.set_features.ensures.columns l i ∙ c.grow_layers.ensures.columns l i)

pub returns-clause-ok : goal.returns-clause-ok
returns-clause-ok c = λ l. c.set_features.ensures.features l ∙ ap (λ o. if nat_eq l c.args.layer then Some c.args.features else o) (c.grow_layers.ensures.stay.features l)

pub returns-in_err-grow_layers-clause-table : goal.returns-in_err-grow_layers-clause-table
returns-in_err-grow_layers-clause-table c = table_views c.args.self.now c.grow_layers.new.layers c.grow_layers.ensures.columns c.grow_layers.ensures.stay c.requires.table
