use Rattle.std.proofs.Common.{◌≡◌, ◌∙◌, ◌&&◌, None, nat_eq, nat_lt, sym, ap, arith, if◌then◌else◌}
use Rattle.std.specs.List.{slice_get}
use Rattle.layer_buckets.specs.LaidOut.{item_number, items_in, kept_in_table}
use Rattle.layer_buckets.proofs.TableLaws.{kept_then}
use Rattle.layer_buckets.proofs.ItemLaws.{layer_dropped, layer_done}
use Rattle.layer_buckets.proofs.table.CellTable.drop_layer.Goals as goal

pub loop-number-preserved : goal.loop-number-preserved
loop-number-preserved c =
    let old = c.args.self.now in
    let b = c.loop-number.self in
    let i = c.loop-number.invariant in
    record {
      table = c.drop_numbered.ensures.table;
      kept = kept_then old b c.drop_numbered.new.self i.kept c.drop_numbered.ensures.kept;
      dropped = λ cell. layer_dropped c.args.layer c.loop-number.number cell (kept_in_table old cell) (kept_in_table b cell) (kept_in_table c.drop_numbered.new.self cell) (c.drop_numbered.ensures.dropped cell) (i.dropped cell);
    }

pub returns-clause-dropped : goal.returns-clause-dropped
returns-clause-dropped c = λ cell.
    let old = c.args.self.now in
    let b = c.loop-number.self in
    let l = c.args.layer in
    let last : c.loop-number.number ≡ c.item_count-number-end.result = omega (arith, c.loop-number.auto.number-end, c.loop-number-test.false) in
    let count : c.loop-number.number ≡ items_in (slice_get b.layers.items l) = last ∙ (c.item_count-number-end.ensures ∙ ap (λ ls. items_in (slice_get ls l)) (sym c.loop-number.invariant.kept.layers)) in
    layer_done b l cell (kept_in_table old cell) (c.loop-number.invariant.dropped cell ∙ ap (λ n. if nat_eq l cell.layer && nat_lt (item_number cell.item) n then None else kept_in_table old cell) count)
