use Rattle.std.proofs.Common.{arith}
use Rattle.std.proofs.lemmas.Grind.{common_steps}
use Rattle.script_runs.proofs.Cuts.{cut_at, all_is_one}
use Rattle.script_runs.proofs.lines.next_line.Goals as goal

pub returns-in-Some-clause-some : goal.returns-in-Some-clause-some
returns-in-Some-clause-some c =
    let found = c.in-Some.ensures in
    cut_at c.args.script.now c.in-Some.place found.0.high found.1 found.0.before

pub returns-in-None-clause-some : goal.returns-in-None-clause-some
returns-in-None-clause-some c = all_is_one c.args.script.now (grind (arith, common_steps)) c.in-None.ensures
