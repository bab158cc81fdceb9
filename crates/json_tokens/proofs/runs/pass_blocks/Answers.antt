use Rattle.std.proofs.Common.{sym, ap, ◌∙◌, arith}
use lib.Count.{count_trailing_zeros}
use Rattle.json_tokens.proofs.Blocks.{run_through, run_stops}
use Rattle.json_tokens.proofs.runs.pass_blocks.Goals as goal

pub returns-then-others-ne0 : goal.returns-then-others-ne0
returns-then-others-ne0 g c =
    let found = c.others-others in
    let run = run_stops g.C.ByteClass.has c.args.bytes.now c.loop-at.at 16 (omega arith) (omega arith) (omega (arith, found.ensures)) ∙ ap (count_trailing_zeros 64) (sym found.ensures) in
    omega (arith, run, c.loop-at.invariant.0)

pub loop-at-preserved : goal.loop-at-preserved
loop-at-preserved g c =
    let run = run_through g.C.ByteClass.has c.args.bytes.now c.loop-at.at 16 (omega arith) (omega (arith, c.others-others.ensures)) in
    (omega (arith, run, c.loop-at.invariant.0), omega arith)
