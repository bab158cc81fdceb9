use Rattle.edit_findings.proofs.KeyedLaws.{keyed_next, keyed_all}
use Rattle.edit_findings.proofs.after.layers_have_distinct_members.Goals as goal

pub loop-layer-preserved : goal.loop-layer-preserved
loop-layer-preserved c =
    keyed_next c.args.layers.now c.loop-layer.layer-index c.layer-item.result c.loop-layer-test.true c.layer-item.is c.loop-layer.invariant
    c.documents_have_distinct_members.ensures

pub returns : goal.returns
returns c = keyed_all c.args.layers.now c.loop-layer.layer-index c.loop-layer-test.false c.loop-layer.invariant
