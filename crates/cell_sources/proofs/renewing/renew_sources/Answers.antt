use Rattle.std.proofs.Common.{ap, subst, arith}
use Rattle.std.specs.Prelude.{option_and_then}
use Rattle.std.proofs.lemmas.Option.{slice_get_past}
use Rattle.std.proofs.lemmas.Result.{on_ok_weaker}
use Rattle.decimal_json.specs.Tree.{object, fields_of}
use Rattle.property_tables.specs.Rows.{rows_of}
use Rattle.form_pool.specs.PoolSlots.{pool_slots}
use Rattle.layer_buckets.specs.declared.cell.CellItem.TheVariants as items
use Rattle.cell_sources.specs.CellExpressions.{item_expression, row_expression}
use Rattle.cell_sources.specs.Sourced.{RenewsItem}
use Rattle.cell_sources.proofs.RenewLaws.{all_renewed, first_renewed, none_first, numbers_again, numbers_themselves, sources_again, sources_themselves}
use Rattle.cell_sources.proofs.renewing.renew_sources.Goals as goal

pub loop-row-init : goal.loop-row-init
loop-row-init c =
    let layer = c.args.layer.now in
    let expressions = item_expression layer.globals.now layer.layer_type (object (fields_of layer.members.now)) in
    let b = c.args.buckets.now in
    record {
      sound = c.requires;
      sources = sources_themselves b;
      others = numbers_themselves pool_slots c.args.number b;
      first = none_first pool_slots c.args.number expressions b;
    }

pub loop-row-preserved : goal.loop-row-preserved
loop-row-preserved c =
    let layer = c.args.layer.now in
    let expressions = item_expression layer.globals.now layer.layer_type (object (fields_of layer.members.now)) in
    let old = c.args.buckets.now in
    let now = c.loop-row.buckets in
    let new = c.renew_property.new.buckets in
    let i = c.loop-row.invariant in
    let e = c.in_ok-renew_property.ensures in
    record {
      sound = e.sound;
      sources = sources_again old now new i.sources e.sources;
      others = numbers_again pool_slots c.args.number old now new i.others e.others;
      first = first_renewed pool_slots c.args.number expressions old c.loop-row.row now new i.first i.sources e.others e.renewed;
    }

pub returns-in_err-renew_property-clause-sources : goal.returns-in_err-renew_property-clause-sources
returns-in_err-renew_property-clause-sources c =
    sources_again c.args.buckets.now c.loop-row.buckets c.renew_property.new.buckets c.loop-row.invariant.sources c.renew_property.ensures.sources

pub returns-in_err-renew_property-clause-others : goal.returns-in_err-renew_property-clause-others
returns-in_err-renew_property-clause-others c =
    numbers_again pool_slots c.args.number c.args.buckets.now c.loop-row.buckets c.renew_property.new.buckets c.loop-row.invariant.others
    c.renew_property.ensures.others

pub returns-clause-sources : goal.returns-clause-sources
returns-clause-sources c =
    sources_again c.args.buckets.now c.loop-row.buckets c.renew_item.new.buckets c.loop-row.invariant.sources c.renew_item.ensures.sources

pub returns-clause-others : goal.returns-clause-others
returns-clause-others c =
    numbers_again pool_slots c.args.number c.args.buckets.now c.loop-row.buckets c.renew_item.new.buckets c.loop-row.invariant.others
    c.renew_item.ensures.others

pub returns-clause-renewed : goal.returns-clause-renewed
returns-clause-renewed c =
    let layer = c.args.layer.now in
    let expressions = item_expression layer.globals.now layer.layer_type (object (fields_of layer.members.now)) in
    let read = row_expression layer.globals.now layer.layer_type (object (fields_of layer.members.now)) in
    let now = c.loop-row.buckets in
    let new = c.renew_item.new.buckets in
    let i = c.loop-row.invariant in
    on_ok_weaker c.renew_item.result
    (λ renewed. all_renewed pool_slots c.args.number expressions c.args.buckets.now c.loop-row.row now new i.first i.sources c.renew_item.ensures.others
    (subst (λ e. RenewsItem pool_slots c.args.number items.Filter e now new) c.in_ok-expression.ensures.seen renewed) c.renew_item.ensures.sources
    (λ n h. ap (option_and_then read) (slice_get_past (rows_of layer.layer_type) n (omega (arith, h, c.row_count-row-end.ensures, c.loop-row-test.false)))))
    c.renew_item.ensures.renewed
