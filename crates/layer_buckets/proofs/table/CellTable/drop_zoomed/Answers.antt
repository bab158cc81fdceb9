use Rattle.std.proofs.Common.{Bool, true, false, arith, subst, sym}
use Rattle.layer_buckets.specs.Cells.{is_zoomed}
use Rattle.layer_buckets.specs.Drops.{Drops}
use Rattle.layer_buckets.specs.LaidOut.{column_of, row_of, source_in_table}
use Rattle.layer_buckets.specs.declared.cell.Stale.TheVariants as stale
use Rattle.layer_buckets.specs.declared.lists.ListName.TheVariants.{Zoom}
use Rattle.layer_buckets.proofs.TableLaws.{zoom_named, floor_named, drops_one, drops_two, kept_then}
use Rattle.layer_buckets.proofs.table.CellTable.drop_zoomed.Goals as goal

pub drop_list-requires-clause-there : goal.drop_list-requires-clause-there
drop_list-requires-clause-there c = omega (arith, c.requires.cells.counted.zooms.lists)

pub drop_list-requires-then-floor-clause-there : goal.drop_list-requires-then-floor-clause-there
drop_list-requires-then-floor-clause-there c = omega (arith, c.drop_list.ensures.table.cells.counted.zooms.lists)

pub returns-then-floor-clause-kept : goal.returns-then-floor-clause-kept
returns-then-floor-clause-kept c = kept_then c.args.self.now c.drop_list.new.self c.drop_list-then-floor.new.self c.drop_list.ensures.kept c.drop_list-then-floor.ensures.kept

pub returns-then-floor-clause-dropped : goal.returns-then-floor-clause-dropped
returns-then-floor-clause-dropped c =
    let t = c.args.self.now in
    let P : Bool → Type 0 = λ b. Drops (stale.Zoom b) t c.drop_list-then-floor.new.self in
    subst P (sym c.if-floor.true) (drops_two (Zoom 0) (Zoom 1) t c.drop_list.new.self c.drop_list-then-floor.new.self (λ cell. is_zoomed true (source_in_table t cell.layer cell.item)) c.drop_list.ensures.kept c.drop_list.ensures.dropped c.drop_list-then-floor.ensures.dropped
    (λ cell. floor_named t.cells.columns.items (column_of t.layers.items cell.layer cell.item) (row_of cell.feature)))

pub returns-else-floor-clause-dropped : goal.returns-else-floor-clause-dropped
returns-else-floor-clause-dropped c =
    let t = c.args.self.now in
    let P : Bool → Type 0 = λ b. Drops (stale.Zoom b) t c.drop_list.new.self in
    subst P (sym c.if-floor.false) (drops_one (Zoom 0) t c.drop_list.new.self (λ cell. is_zoomed false (source_in_table t cell.layer cell.item)) c.drop_list.ensures.dropped
    (λ cell. zoom_named t.cells.columns.items (column_of t.layers.items cell.layer cell.item) (row_of cell.feature)))
