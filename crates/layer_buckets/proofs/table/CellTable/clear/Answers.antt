use Rattle.std.proofs.Common.{◌≡◌, ◌∙◌, ◌&&◌, None, nat_eq, nat_lt, sym, ap, subst, arith, if◌then◌else◌}
use Rattle.std.specs.List.{slice_get}
use Rattle.layer_buckets.specs.LaidOut.{item_number, items_in, kept_in_table, source_in_table}
use Rattle.layer_buckets.specs.Sources.{IsCleared}
use Rattle.layer_buckets.proofs.ItemLaws.{layer_dropped, layer_done, source_dropped, source_done}
use Rattle.layer_buckets.proofs.ClearLaws.{next_cleared}
use Rattle.layer_buckets.proofs.table.CellTable.clear.Goals as goal

pub loop-number-preserved : goal.loop-number-preserved
loop-number-preserved c =
    let old = c.args.self.now in
    let b = c.loop-number.self in
    let i = c.loop-number.invariant in
    let r = c.clear_numbered.ensures in
    let d = c.clear_numbered.new.self in
    record {
      table = r.table;
      layers = r.layers ∙ i.layers;
      kept = λ cell. layer_dropped c.args.layer c.loop-number.number cell (kept_in_table old cell) (kept_in_table b cell) (kept_in_table d cell) (r.kept cell) (i.kept cell);
      sources = λ m j. source_dropped c.args.layer c.loop-number.number m j (source_in_table old m j) (source_in_table b m j) (source_in_table d m j) (r.sources m j) (i.sources m j);
      cleared = next_cleared b d c.args.layer c.loop-number.number i.table r.layers r.columns i.cleared;
    }

pub returns-clause-kept : goal.returns-clause-kept
returns-clause-kept c = λ cell.
    let old = c.args.self.now in
    let b = c.loop-number.self in
    let l = c.args.layer in
    let last : c.loop-number.number ≡ c.item_count-number-end.result = omega (arith, c.loop-number.auto.number-end, c.loop-number-test.false) in
    let count : c.loop-number.number ≡ items_in (slice_get b.layers.items l) = last ∙ (c.item_count-number-end.ensures ∙ ap (λ ls. items_in (slice_get ls l)) (sym c.loop-number.invariant.layers)) in
    layer_done b l cell (kept_in_table old cell) (c.loop-number.invariant.kept cell ∙ ap (λ n. if nat_eq l cell.layer && nat_lt (item_number cell.item) n then None else kept_in_table old cell) count)

pub returns-clause-sources : goal.returns-clause-sources
returns-clause-sources c = λ m j.
    let old = c.args.self.now in
    let b = c.loop-number.self in
    let l = c.args.layer in
    let last : c.loop-number.number ≡ c.item_count-number-end.result = omega (arith, c.loop-number.auto.number-end, c.loop-number-test.false) in
    let count : c.loop-number.number ≡ items_in (slice_get b.layers.items l) = last ∙ (c.item_count-number-end.ensures ∙ ap (λ ls. items_in (slice_get ls l)) (sym c.loop-number.invariant.layers)) in
    source_done b l m j (source_in_table old m j) (c.loop-number.invariant.sources m j ∙ ap (λ n. if nat_eq l m && nat_lt (item_number j) n then None else source_in_table old m j) count)

pub returns-clause-rows : goal.returns-clause-rows
returns-clause-rows c =
    let b = c.loop-number.self in
    let l = c.args.layer in
    let last : c.loop-number.number ≡ c.item_count-number-end.result = omega (arith, c.loop-number.auto.number-end, c.loop-number-test.false) in
    let count : c.loop-number.number ≡ items_in (slice_get b.layers.items l) = last ∙ (c.item_count-number-end.ensures ∙ ap (λ ls. items_in (slice_get ls l)) (sym c.loop-number.invariant.layers)) in
    subst (λ n. IsCleared b l n) count c.loop-number.invariant.cleared
