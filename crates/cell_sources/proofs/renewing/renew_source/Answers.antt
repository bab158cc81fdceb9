use Rattle.std.proofs.Common.{refl}
use Rattle.form_pool.specs.PoolSlots.{pool_slots}
use Rattle.cell_sources.specs.Views.{expression_seen}
use Rattle.cell_sources.proofs.RenewLaws.{put_keeps, put_numbers, put_renews}
use Rattle.cell_sources.proofs.renewing.renew_source.Goals as goal

pub returns-clause-sources : goal.returns-clause-sources
returns-clause-sources c =
    let put = c.in_ok-slot.ensures in
    let set = c.set_number.ensures in
    put_keeps pool_slots c.args.number c.args.item c.in_ok-slot.slot c.args.buckets.now c.put_item.new.buckets c.set_number.new.self put.source set.sources
    put.features put.kept set.features set.kept

pub returns-clause-others : goal.returns-clause-others
returns-clause-others c =
    let put = c.in_ok-slot.ensures in
    let set = c.set_number.ensures in
    put_numbers pool_slots c.args.number c.args.item c.in_ok-slot.slot c.args.buckets.now c.put_item.new.buckets c.set_number.new.self put.source set.sources
    _ put.ok set.evaluator

pub returns-clause-renewed : goal.returns-clause-renewed
returns-clause-renewed c =
    let put = c.in_ok-slot.ensures in
    let set = c.set_number.ensures in
    put_renews pool_slots c.args.number c.args.item c.in_ok-slot.slot c.args.buckets.now c.put_item.new.buckets c.set_number.new.self put.source set.sources
    (expression_seen c.args.expression) _ put.slot put.ok refl set.evaluator
