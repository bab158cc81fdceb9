use Rattle.std.proofs.Common.{refl}
use Rattle.std.proofs.lemmas.Result.{on_ok_weaker}
use Rattle.form_pool.specs.PoolSlots.{pool_slots}
use Rattle.cell_sources.specs.Views.{expression_seen}
use Rattle.cell_sources.proofs.SourcedLaws.{others_put, set_item}
use Rattle.cell_sources.proofs.sources.add_source.Goals as goal

pub returns-clause-source : goal.returns-clause-source
returns-clause-source c = on_ok_weaker c.set_source.result
    (set_item _ c.args.number c.args.item (expression_seen c.args.expression) c.args.buckets.now c.put_item.new.buckets c.set_source.new.self c.in_ok-slot.slot _ _
    c.requires.formed.mentioned c.in_ok-slot.ensures.slot c.in_ok-slot.ensures.ok refl
    c.set_source.ensures.evaluator c.in_ok-slot.ensures.source)
    c.set_source.ensures.sources

pub returns-clause-others : goal.returns-clause-others
returns-clause-others c = others_put pool_slots c.args.number c.set_source.result c.args.item _ c.put_item.new.buckets c.set_source.new.self
    c.args.buckets.now _ c.in_ok-slot.ensures.features c.in_ok-slot.ensures.source c.in_ok-slot.ensures.kept c.in_ok-slot.ensures.ok
    c.set_source.ensures.evaluator c.set_source.ensures.features c.set_source.ensures.sources c.set_source.ensures.err_sources
    c.set_source.ensures.kept c.set_source.ensures.err_kept
