use Rattle.std.proofs.Common.{refl}
use Rattle.decimal_json.specs.View.{path_of, trees}
use Rattle.style_rules.specs.CodeView.{fields_at}
use Rattle.style_rules.proofs.DocumentLaws.{IsNext, none_used, used_next, layers_next}
use Rattle.style_rules.proofs.document.report_each_layer.Goals as goal

pub loop-i-init : goal.loop-i-init
loop-i-init c = record { used = λ id. none_used c.new-used.result (trees c.args.layers.now) id c.new-used.ensures; reports = refl }

pub loop-i-preserved : goal.loop-i-preserved
loop-i-preserved c =
    let next : IsNext c.args.layers.now c.loop-i.i c.index-layers-i.result = (c.loop-i-test.true, c.index-layers-i.is) in
    record {
      used = used_next c.args.layers.now c.loop-i.i c.index-layers-i.result next c.loop-i.used c.note_id.new.used c.loop-i.invariant.used c.in_ok-note_id.ensures;
      reports = layers_next c.args.layers.now c.loop-i.i c.index-layers-i.result next (fields_at c.args.sources) (path_of c.args.here.now) c.loop-i.used c.loop-i.reports c.report_layer.new.reports _
          c.loop-i.invariant.used c.in_ok-report_layer.ensures c.loop-i.invariant.reports;
    }
