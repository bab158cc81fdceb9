-- Tests of numbers, and functions with one value changed.
use Rattle.std.proofs.Common.{◌≡◌, ◌≢◌, ◌<◌, ◌≤◌, ℕ, Bool, true, false, nat_eq, nat_lt, refl, arith}
use Rattle.std.proofs.lemmas.Bool.Decides.{nat_tests}
use Rattle.index_lists.specs.Nodes.{put}

pub same_value : (f : ℕ → ℕ) (a v : ℕ) → put f a v a ≡ v
same_value f a v = grind (arith, nat_tests)

pub other_value : (f : ℕ → ℕ) (a v k : ℕ) → k ≢ a → put f a v k ≡ f k
other_value f a v k differs = grind (arith, nat_tests)

pub test_true : (x y : ℕ) → nat_eq x y ≡ true → x ≡ y
test_true x y t = grind (arith, nat_tests)

pub test_false : (x y : ℕ) → nat_eq x y ≡ false → x ≢ y
test_false x y t e = grind (arith, nat_tests)

pub is_true : (x y : ℕ) → x ≡ y → nat_eq x y ≡ true
is_true x y e = grind (arith, nat_tests)

pub is_false : (x y : ℕ) → x ≢ y → nat_eq x y ≡ false
is_false x y d = grind (arith, nat_tests)

by_bool : {Q : Type 0} (b : Bool) → (b ≡ true → Q) → (b ≡ false → Q) → Q
by_bool true f g = f refl
by_bool false f g = g refl

-- by cases on whether two numbers are the same
pub by_test : {Q : Type 0} (x y : ℕ) → (x ≡ y → Q) → (x ≢ y → Q) → Q
by_test x y f g = by_bool (nat_eq x y) (λ t. f (test_true x y t)) (λ t. g (test_false x y t))

-- by cases on whether a number is below another
pub by_order : {Q : Type 0} (x y : ℕ) → (x < y → Q) → (y ≤ x → Q) → Q
by_order x y f g = by_bool (nat_lt x y) (λ t. f (below x y t)) (λ t. g (not_below x y t))
  where
    below : (x y : ℕ) → nat_lt x y ≡ true → x < y
    below x y t = grind (arith, nat_tests)

    not_below : (x y : ℕ) → nat_lt x y ≡ false → y ≤ x
    not_below x y t = grind (arith, nat_tests)
