use Rattle.std.proofs.Common.{arith}
use Rattle.decimal_json.proofs.Repeats.{leads_to_zero, leads_to_digits}
use Rattle.decimal_json.proofs.walk.integer_front.Goals as goal

pub fraction_front-requires-clause-leads : goal.fraction_front-requires-clause-leads
fraction_front-requires-clause-leads c =
    leads_to_zero c.args.bytes.now c.args.from c.args.phase (omega arith) c.requires.leads c.requires.opens (cc) c.requires.early

pub pass_digits-count-requires-clause-leads : goal.pass_digits-count-requires-clause-leads
pass_digits-count-requires-clause-leads c =
    leads_to_digits c.args.bytes.now c.args.from c.args.phase (omega arith) c.requires.leads c.requires.opens (omega arith) (omega arith) c.requires.early
