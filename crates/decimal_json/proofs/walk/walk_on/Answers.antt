use Rattle.std.proofs.Common.{sym, arith}
use Rattle.decimal_json.proofs.Fronts.{leads_more}
use Rattle.decimal_json.proofs.walk.walk_on.Goals as goal

pub pass_digits-count-requires-clause-leads : goal.pass_digits-count-requires-clause-leads
pass_digits-count-requires-clause-leads c =
    leads_more c.args.bytes.now c.loop-count.count c.loop-count.phase c.in-Some.next c.loop-count-test.true c.loop-count.invariant.1 (sym c.in-Some.ensures) (omega arith)
