-- What holds of two tests that are borrowed holds of the tests.
use Rattle.std.proofs.Common.{◌≡◌, subst}

pub moved : {A B : Type 0} (P : A → B → Type 0) {a b : A} {x y : B} → a ≡ b → x ≡ y → P a x → P b y
moved P {b = b} {x = x} p q h = subst (λ v. P b v) q (subst (λ u. P u x) p h)
