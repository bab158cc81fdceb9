use Rattle.std.proofs.Common.{take, drop, sym, subst, arith}
use Rattle.std.specs.Prelude.{IsTrue}
use Rattle.std.specs.List.{list_all}
use Rattle.std.proofs.lemmas.List.Sums.{prefix_len-le-length}
use Rattle.json_tokens.specs.Runs.{Stops}
use Rattle.json_tokens.proofs.Blocks.{run_front, run_end}
use Rattle.json_tokens.proofs.runs.run_length.Goals as goal

pub returns-clause-within : goal.returns-clause-within
returns-clause-within g c = omega (arith, c.pass_blocks.ensures, prefix_len-le-length g.C.ByteClass.has c.args.bytes.now)

pub returns-clause-front : goal.returns-clause-front
returns-clause-front g c =
    subst (λ k. IsTrue (list_all g.C.ByteClass.has (take k c.args.bytes.now))) (sym c.pass_blocks.ensures) (run_front g.C.ByteClass.has c.args.bytes.now)

pub returns-clause-stops : goal.returns-clause-stops
returns-clause-stops g c = subst (λ k. Stops g.C.ByteClass.has (drop k c.args.bytes.now)) (sym c.pass_blocks.ensures) (run_end g.C.ByteClass.has c.args.bytes.now)
