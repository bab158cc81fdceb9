use Rattle.std.proofs.Common.{◌≡◌, ◌*◌, ◌^◌}
use Rattle.fixed_num.specs.Saturation.{saturated}
use Rattle.fixed_num.proofs.digits.with_zeros.Given as goal

abbrev pub invariant-loop-count : goal.invariant-loop-count
invariant-loop-count l = l.number ≡ saturated (l.fn.front * 10 ^ l._count)
