use Rattle.std.proofs.Common.{◌≡◌, replicate}
use Rattle.std.specs.Prelude.{codes}
use Rattle.decimal_json.specs.Tree.{number}
use Rattle.legacy_functions.proofs.expression.zeros_json.Given as goal

abbrev pub invariant-loop : goal.invariant-loop
invariant-loop l = l.items ≡ replicate l.counter (number (codes "0"))
