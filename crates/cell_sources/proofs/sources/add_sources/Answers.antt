use Rattle.std.proofs.Common.{ap, subst, arith}
use Rattle.std.specs.Prelude.{option_and_then}
use Rattle.std.proofs.lemmas.Option.{slice_get_past}
use Rattle.std.proofs.lemmas.Result.{on_ok_weaker}
use Rattle.decimal_json.specs.Tree.{object, fields_of}
use Rattle.property_tables.specs.Rows.{rows_of}
use Rattle.form_pool.specs.PoolSlots.{pool_slots}
use Rattle.layer_buckets.specs.declared.cell.CellItem.TheVariants as items
use Rattle.cell_sources.specs.CellExpressions.{item_expression, row_expression}
use Rattle.cell_sources.specs.Sourced.{SetsItem}
use Rattle.cell_sources.proofs.SourcedLaws.{all_sourced, first_more, keeps_more, others_again}
use Rattle.cell_sources.proofs.sources.add_sources.Goals as goal

pub loop-row-preserved : goal.loop-row-preserved
loop-row-preserved c =
    let layer = c.args.layer.now in
    let expressions = item_expression layer.globals.now layer.layer_type (object (fields_of layer.members.now)) in
    let (sound, others, first, keeps) = c.loop-row.invariant in (
      c.in_ok-add_property.ensures.sound,
      others_again pool_slots c.args.number c.args.buckets.now c.loop-row.buckets c.add_property.new.buckets others c.in_ok-add_property.ensures.others,
      first_more pool_slots c.args.number expressions c.loop-row.row c.loop-row.buckets c.add_property.new.buckets first c.in_ok-add_property.ensures.others c.in_ok-add_property.ensures.source,
      keeps_more c.args.buckets.now c.loop-row.buckets c.add_property.new.buckets keeps c.in_ok-add_property.ensures.kept,
    )

pub returns-clause-sources : goal.returns-clause-sources
returns-clause-sources c =
    let layer = c.args.layer.now in
    let expressions = item_expression layer.globals.now layer.layer_type (object (fields_of layer.members.now)) in
    let read = row_expression layer.globals.now layer.layer_type (object (fields_of layer.members.now)) in
    let (sound, others, first, keeps) = c.loop-row.invariant in
    on_ok_weaker c.add_item.result
    (λ set. all_sourced pool_slots c.args.number expressions c.loop-row.row c.loop-row.buckets c.add_item.new.buckets first c.add_item.ensures.others
    (subst (λ e. SetsItem pool_slots c.args.number items.Filter e c.loop-row.buckets c.add_item.new.buckets) c.in_ok-expression.ensures.seen set)
    (λ n h. ap (option_and_then read) (slice_get_past (rows_of layer.layer_type) n (omega (arith, h, c.row_count-row-end.ensures, c.loop-row-test.false)))))
    c.add_item.ensures.source

pub returns-clause-kept : goal.returns-clause-kept
returns-clause-kept c =
    let (sound, others, first, keeps) = c.loop-row.invariant in
    keeps_more c.args.buckets.now c.loop-row.buckets c.add_item.new.buckets keeps c.add_item.ensures.kept.own

pub returns-in_err-add_property-clause-kept : goal.returns-in_err-add_property-clause-kept
returns-in_err-add_property-clause-kept c =
    let (sound, others, first, keeps) = c.loop-row.invariant in
    keeps_more c.args.buckets.now c.loop-row.buckets c.add_property.new.buckets keeps c.add_property.ensures.kept

pub returns-in_err-add_property-clause-others : goal.returns-in_err-add_property-clause-others
returns-in_err-add_property-clause-others c =
    let (sound, others, first, keeps) = c.loop-row.invariant in
    others_again pool_slots c.args.number c.args.buckets.now c.loop-row.buckets c.add_property.new.buckets others c.add_property.ensures.others

pub returns-clause-others : goal.returns-clause-others
returns-clause-others c =
    let (sound, others, first, keeps) = c.loop-row.invariant in
    others_again pool_slots c.args.number c.args.buckets.now c.loop-row.buckets c.add_item.new.buckets others c.add_item.ensures.others
