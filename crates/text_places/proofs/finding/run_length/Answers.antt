use Rattle.std.proofs.Common.{◌∙◌, sym, arith}
use Rattle.text_places.specs.Starts.{first_part, paths_seen}
use Rattle.text_places.proofs.PathLaws.{alike_more, first_is}
use Rattle.text_places.proofs.finding.run_length.Goals as goal

pub loop-count-preserved : goal.loop-count-preserved
loop-count-preserved c = record {
  some = omega (arith, c.loop-count.invariant.some);
  within = omega (arith, c.loop-count-test.true);
  alike = alike_more c.args.depth (first_part c.args.depth (paths_seen c.args.paths.now)) c.args.paths.now c.loop-count.count c.index-paths-count.result
      (omega (arith, c.loop-count-test.true)) c.index-paths-count.is c.loop-count.invariant.alike
      (c.has_same_part.ensures c.if-has_same_part.true ∙ sym (first_is c.args.depth c.args.paths.now c.index-paths-0.result c.requires c.index-paths-0.is));
}
