use Rattle.std.proofs.Common.{◌≡◌, pos, replicate}
use Rattle.prop_values.specs.Data.{number}
use Rattle.property_tables.proofs.defaults.zeros.Given as goal

abbrev pub invariant-loop : goal.invariant-loop
invariant-loop l = l.made ≡ replicate l.counter (number (pos 0))
