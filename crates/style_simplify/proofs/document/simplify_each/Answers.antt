use Rattle.decimal_json.specs.View.{tree_of}
use Rattle.style_simplify.specs.SimplifiedStyle.{simplified_layer}
use Rattle.style_migrate.proofs.MappedLaws.{items_step}
use Rattle.style_simplify.proofs.document.simplify_each.Goals as goal

pub loop-layer-preserved : goal.loop-layer-preserved
loop-layer-preserved c =
    items_step simplified_layer c.as_slice-layer-items.result.now c.loop-layer.layer-index c.layer-item.result c.loop-layer.made c.push.new.self
    (tree_of c.in_ok-simplify_layer.field-0) c.loop-layer-test.true c.layer-item.is c.loop-layer.invariant c.in_ok-simplify_layer.ensures c.in_ok-push.ensures.ok
