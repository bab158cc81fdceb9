use Rattle.decimal_json.specs.View.{tree_of}
use Rattle.style_migrate.specs.Migrated.{migrated_layer}
use Rattle.style_migrate.proofs.MappedLaws.{items_step}
use Rattle.style_migrate.proofs.document.migrate_each.Goals as goal

pub loop-layer-preserved : goal.loop-layer-preserved
loop-layer-preserved c =
    items_step migrated_layer c.as_slice-layer-items.result.now c.loop-layer.layer-index c.layer-item.result c.loop-layer.made c.push.new.self
    (tree_of c.in_ok-migrate_layer.field-0) c.loop-layer-test.true c.layer-item.is c.loop-layer.invariant c.in_ok-migrate_layer.ensures c.in_ok-push.ensures.ok
