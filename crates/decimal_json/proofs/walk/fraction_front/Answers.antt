use Rattle.std.proofs.Common.{arith}
use Rattle.decimal_json.proofs.Repeats.{leads_to_fraction}
use Rattle.decimal_json.proofs.walk.fraction_front.Goals as goal

pub pass_digits-count-requires-clause-leads : goal.pass_digits-count-requires-clause-leads
pass_digits-count-requires-clause-leads c =
    leads_to_fraction c.args.bytes.now c.args.from c.args.phase (omega arith) c.requires.leads c.requires.opens (cc) (cc) (omega arith)
