-- The input of an interpolation, moved: no other fault than Overflow comes of it.
use Rattle.std.proofs.Common.{◌≡◌, ℕ, ◌+◌, ◌-◌, ◌*◌, ◌/◌, ◌%◌, zero, suc, ℤ, List, Bool, true, false, Result, Ok, Err, if◌then◌else◌, refl}
use Rattle.std.specs.Prelude.{nat_eq, nat_le, unsigned_abs, ◌-ℤ◌}
use Rattle.fixed_num.specs.Number.{sum, difference, product, quotient}
use Rattle.fixed_num.specs.declared.fixed.Arith.{Arith}
use Rattle.power_fixed.specs.Power.{one, times, whole_within, whole_of, rest_after, root_after, part_after, part_of, power_of}
use Rattle.prop_values.specs.declared.outcome.Curve.{Curve}
use Rattle.prop_values.specs.declared.outcome.Curve.TheVariants.{Linear, Exponential}
use Rattle.interpolate_fixed.specs.Places.{input_at, place_of}
use Rattle.interpolate_fixed.specs.Warp.{and_then, growth_of, moved_by, moved_between, moved_at, warp_of}
use Rattle.interpolate_fixed.specs.declared.place.StopPlace.{StopPlace}
use Rattle.interpolate_fixed.specs.declared.place.StopPlace.TheVariants.{First, Last, Between}
use Rattle.typing_laws.proofs.NumberLaws.{OnlyOverflows, sum_overflows, difference_overflows, product_overflows, quotient_overflows}

then_overflows : (r : Result ℤ Arith) (next : ℤ → Result ℤ Arith) → OnlyOverflows r →
    ((z : ℤ) → OnlyOverflows (next z)) → OnlyOverflows (and_then r next)
then_overflows (Ok z) next h all = all z
then_overflows (Err f) next h all = h

if_overflows : (b : Bool) (r s : Result ℤ Arith) → (b ≡ true → OnlyOverflows r) →
    (b ≡ false → OnlyOverflows s) → OnlyOverflows (if b then r else s)
if_overflows true r s h g = h refl
if_overflows false r s h g = g refl

times_overflows : (r s : Result ℤ Arith) → OnlyOverflows r → OnlyOverflows s → OnlyOverflows (times r s)
times_overflows (Ok x) (Ok y) h g = product_overflows x y
times_overflows (Ok x) (Err f) h g = g
times_overflows (Err f) s h g = h

whole_overflows : (steps : ℕ) (b : ℤ) (n : ℕ) → OnlyOverflows (whole_within steps b n)
unfolding whole_within
whole_overflows zero b n = tt
whole_overflows (suc steps) b n =
    if_overflows (nat_eq n 0) (Ok one) (if nat_eq (n % 2) 0 then times (whole_within steps b (n / 2))
    (whole_within steps b (n / 2)) else times (Ok b) (whole_within steps b (n - 1))) (λ q. tt)
    (λ q. if_overflows (nat_eq (n % 2) 0)
    (times (whole_within steps b (n / 2)) (whole_within steps b (n / 2)))
    (times (Ok b) (whole_within steps b (n - 1)))
    (λ r. times_overflows (whole_within steps b (n / 2)) (whole_within steps b (n / 2))
    (whole_overflows steps b (n / 2)) (whole_overflows steps b (n / 2)))
    (λ r. times_overflows (Ok b) (whole_within steps b (n - 1)) tt (whole_overflows steps b (n - 1))))

part_overflows : (b : ℤ) (f k : ℕ) → OnlyOverflows (part_after b f k)
unfolding part_after
part_overflows b f zero = tt
part_overflows b f (suc k) =
    if_overflows (nat_le 1000000 (2 * rest_after f k)) (times (part_after b f k) (Ok (root_after b (suc k))))
    (part_after b f k)
    (λ q. times_overflows (part_after b f k) (Ok (root_after b (suc k))) (part_overflows b f k) tt)
    (λ q. part_overflows b f k)

power_overflows : (b y : ℤ) → OnlyOverflows (power_of b y)
unfolding power_of whole_of part_of
power_overflows b y = times_overflows _ _
    (whole_overflows (unsigned_abs y / 1000000) b (unsigned_abs y / 1000000))
    (part_overflows b (unsigned_abs y % 1000000) 20)

growth_overflows : (base x0 x : ℤ) → OnlyOverflows (growth_of base x0 x)
growth_overflows base x0 x =
    then_overflows (difference x x0) _ (difference_overflows x x0) (λ way.
    then_overflows (power_of base way) _ (power_overflows base way) (λ grown. difference_overflows grown one))

moved_overflows : (x0 x1 n m : ℤ) → nat_eq (unsigned_abs m) 0 ≡ false → OnlyOverflows (moved_by x0 x1 n m)
moved_overflows x0 x1 n m h =
    then_overflows (quotient n m) _ (quotient_overflows n m h) (λ share.
    then_overflows (difference x1 x0) _ (difference_overflows x1 x0) (λ width.
    then_overflows (product width share) _ (product_overflows width share) (λ step.
    then_overflows (sum x0 step) _ (sum_overflows x0 step) (λ z. tt))))

between_overflows : (base x0 x1 x : ℤ) → OnlyOverflows (moved_between base x0 x1 x)
unfolding moved_between
between_overflows base x0 x1 x =
    if_overflows (nat_eq (unsigned_abs (x -ℤ x0)) 0) (Ok x) _ (λ q. tt) (λ q.
    then_overflows (growth_of base x0 x) _ (growth_overflows base x0 x) (λ n.
    then_overflows (growth_of base x0 x1) _ (growth_overflows base x0 x1) (λ m.
    if_overflows (nat_eq (unsigned_abs m) 0) (Ok x) (moved_by x0 x1 n m) (λ r. tt)
    (λ r. moved_overflows x0 x1 n m r))))

at_overflows : (base : ℤ) (inputs : List ℤ) (x : ℤ) (place : StopPlace) →
    OnlyOverflows (moved_at base inputs x place)
at_overflows base inputs x First = tt
at_overflows base inputs x Last = tt
at_overflows base inputs x (Between i) = between_overflows base (input_at inputs i) (input_at inputs (i + 1))
    x

pub warp_overflows : (curve : Curve) (inputs : List ℤ) (x : ℤ) → OnlyOverflows (warp_of curve inputs x)
warp_overflows Linear inputs x = tt
warp_overflows (Exponential base) inputs x = at_overflows base inputs x (place_of inputs x)
