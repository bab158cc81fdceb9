use Rattle.std.proofs.Common.{◌∙◌, sym}
use Rattle.legacy_filters.proofs.PartLists.{scalar_kept}
use Rattle.legacy_filters.proofs.reading.read_scalars.Goals as goal

pub loop-element-preserved : goal.loop-element-preserved
loop-element-preserved c =
    scalar_kept c.args.key.now c.args.elements.now c.loop-element.element-index c.element-item.result c.loop-element.scalars.items c.push.new.self.items c.in-Some.scalar _
    c.loop-element-test.true c.element-item.is c.in_ok-push-in-Some.ensures.items (sym c.in-Some.is ∙ c.in_ok-scalar.ensures) c.loop-element.invariant
