-- Parts of a way. The contracts of private functions alone cite these. Source: own.
use Rattle.std.specs.Prelude.{ℕ, ◌*◌, ℤ, pos, ◌*ℤ◌, unsigned_abs, nat_le, Result, Ok, Err, if◌then◌else◌}
use Rattle.fixed_num.specs.Rounding.{rounded}
use Rattle.fixed_num.specs.declared.fixed.Arith.{Arith}
use Rattle.fixed_num.specs.declared.fixed.Arith.TheVariants.{Overflow}
use Rattle.interpolate_fixed.specs.Linear.{farthest}

-- way * part / whole, rounded
unfoldable pub share_of : ℤ → ℕ → ℕ → Result ℤ Arith
share_of way part whole =
    if nat_le (unsigned_abs way * part) farthest then Ok (rounded (way *ℤ pos part) whole) else Err Overflow
