use Rattle.std.proofs.Common.{arith, map}
use Rattle.decimal_json.specs.View.{tree_of}
use Rattle.style_rules.specs.CodeView.{finding_seen}
use Rattle.edit_findings.specs.FoundAfter.{id_of}
use Rattle.edit_findings.proofs.KeyedLaws.{later_next}
use Rattle.edit_findings.proofs.layers.push_later.Goals as goal

pub loop-one-preserved : goal.loop-one-preserved
loop-one-preserved c = record {
  found = later_next (id_of (tree_of c.args.layer.now)) c.loop-one.number c.args.later.now c.loop-one.one-index c.one-item.result
      (map finding_seen c.loop-one.found) (map finding_seen c.push_if_same.new.found) _ c.loop-one-test.true c.one-item.is
      c.in_ok-push_if_same.ensures c.loop-one.invariant.found;
  number = omega arith;
}
