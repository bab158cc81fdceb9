-- Vectors that are computed lane by lane, and the masks of their lanes.
use Rattle.std.proofs.Common.{◌≡◌, ℕ, ◌%◌, ◌^◌, ◌≤◌, Bool, true, List, [], ◌∷◌, map, length, replicate, Fits, w8, refl, ap, ap₂, ◌∙◌, arith}
use Rattle.std.proofs.lemmas.Bool.{agree_below, agree_below_at}
use Rattle.std.proofs.lemmas.Simd.{map-map, mask_l-mod, zip2_splat_left}
use Rattle.std.proofs.lemmas.List.{length-map}
use lib.Lanes.{zip2, mask_l, top, Each1}

zip2-map : (h : ℕ → ℕ → ℕ) (f g : ℕ → ℕ) (xs : List ℕ) → zip2 h (map f xs) (map g xs) ≡ map (λ x. h (f x) (g x)) xs
zip2-map h f g [] = refl
zip2-map h f g (x ∷ xs) = ap (λ r. h (f x) (g x) ∷ r) (zip2-map h f g xs)

-- An operation on two vectors that were computed from the lanes v.
pub joined : (h : ℕ → ℕ → ℕ) (f g : ℕ → ℕ) (v : List ℕ) {a b : List ℕ} → a ≡ map f v → b ≡ map g v → zip2 h a b ≡ map (λ x. h (f x) (g x)) v
joined h f g v p q = ap₂ (zip2 h) p q ∙ zip2-map h f g v

-- A comparison whose left side is one byte in each lane.
pub splat_before : (h : ℕ → ℕ → ℕ) (f : ℕ → ℕ) (y n : ℕ) (v : List ℕ) {a : List ℕ} → length v ≡ n → a ≡ map f v → zip2 h (replicate n y) a ≡ map (λ x. h y (f x)) v
splat_before h f y n v long p = ap (zip2 h (replicate n y)) p ∙ zip2_splat_left h y n (map f v) (length-map v f ∙ long) ∙ map-map (h y) f v

each_lane : (f : ℕ → ℕ) (p : ℕ → Bool) → agree_below (λ x. top 7 (f x)) p 256 ≡ true → (v : List ℕ) → Each1 (Fits w8) v → map (top 7) (map f v) ≡ map p v
each_lane f p all [] fits = refl
each_lane f p all (x ∷ xs) fits = ap₂ (λ a b. a ∷ b) (agree_below_at (λ y. top 7 (f y)) p 256 x all fits.0.fits) (each_lane f p all xs fits.1)

-- The mask of lanes that are computed from v by f, where that agrees with the test p at each of the 256
-- bytes.
pub mask_of : (f : ℕ → ℕ) (p : ℕ → Bool) → agree_below (λ x. top 7 (f x)) p 256 ≡ true → (v z : List ℕ) → length v ≤ 64 → Each1 (Fits w8) v → z ≡ map f v
    → mask_l (map (top 7) z) % 2 ^ 64 ≡ mask_l (map p v)
mask_of f p all v z few fits e =
    ap (λ l. mask_l l % 2 ^ 64) (ap (map (top 7)) e ∙ each_lane f p all v fits) ∙ mask_l-mod (map p v) 64 (omega (arith, length-map v p))
