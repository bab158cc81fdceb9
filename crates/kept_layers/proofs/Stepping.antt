-- What is made of lists of layers, one layer after another.
use Rattle.std.proofs.Common.{◌≡◌, ℕ, zero, suc, ◌+◌, ◌<◌, ◌≤◌, List, [], ◌∷◌, ◌++◌, length, get_or, take, drop, refl, ap, arith}
use Rattle.std.specs.Prelude.{slice_set}
use Rattle.decimal_json.specs.Tree.{Tree}
use Rattle.kept_layers.specs.KeptLayers.{LayerKept, StyleKept, of_each, sum_of_each}

module _ (f : Tree → LayerKept → LayerKept) (t0 : Tree) (k0 : LayerKept) where
  pub of_next : (k : ℕ) (ts : List Tree) (ks : StyleKept) → k < length ks → length ks ≡ length ts
      → take (suc k) (slice_set ks k (f (get_or ts k t0) (get_or ks k k0)))
      ++ of_each f (drop (suc k) ts) (drop (suc k) (slice_set ks k (f (get_or ts k t0) (get_or ks k k0))))
      ≡ take k ks ++ of_each f (drop k ts) (drop k ks)
  of_next k ts [] within same = absurd (omega (arith, within))
  of_next k [] (x ∷ ks) within same = absurd (omega (arith, same))
  of_next zero (t ∷ ts) (x ∷ ks) within same = refl
  of_next (suc k) (t ∷ ts) (x ∷ ks) within same = ap (λ l. x ∷ l) (of_next k ts ks (omega (arith, within)) (omega (arith, same)))

  pub of_end : (k : ℕ) (ts : List Tree) (ks : StyleKept) → length ks ≤ k → length ks ≡ length ts
      → take k ks ++ of_each f (drop k ts) (drop k ks) ≡ ks
  of_end zero [] [] e same = refl
  of_end (suc k) [] [] e same = refl
  of_end k (t ∷ ts) [] e same = absurd (omega (arith, same))
  of_end k [] (x ∷ ks) e same = absurd (omega (arith, same))
  of_end zero (t ∷ ts) (x ∷ ks) e same = absurd (omega (arith, e))
  of_end (suc k) (t ∷ ts) (x ∷ ks) e same = ap (λ l. x ∷ l) (of_end k ts ks (omega (arith, e)) (omega (arith, same)))

module _ (amount : Tree → LayerKept → ℕ) (t0 : Tree) (k0 : LayerKept) where
  pub sum_next : (k : ℕ) (ts : List Tree) (ks : StyleKept) (new : LayerKept) → k < length ks → length ks ≡ length ts
      → amount (get_or ts k t0) (get_or ks k k0) + sum_of_each amount (drop (suc k) ts) (drop (suc k) (slice_set ks k new))
      ≡ sum_of_each amount (drop k ts) (drop k ks)
  sum_next k ts [] new within same = absurd (omega (arith, within))
  sum_next k [] (x ∷ ks) new within same = absurd (omega (arith, same))
  sum_next zero (t ∷ ts) (x ∷ ks) new within same = refl
  sum_next (suc k) (t ∷ ts) (x ∷ ks) new within same = sum_next k ts ks new (omega (arith, within)) (omega (arith, same))

  nothing_left : (ts : List Tree) → sum_of_each amount ts [] ≡ 0
  nothing_left [] = refl
  nothing_left (t ∷ ts) = refl

  pub sum_end : (k : ℕ) (ts : List Tree) (ks : StyleKept) → length ks ≤ k → sum_of_each amount (drop k ts) (drop k ks) ≡ 0
  sum_end zero ts [] e = nothing_left ts
  sum_end (suc k) ts [] e = nothing_left (drop (suc k) ts)
  sum_end zero ts (x ∷ ks) e = absurd (omega (arith, e))
  sum_end (suc k) [] (x ∷ ks) e = refl
  sum_end (suc k) (t ∷ ts) (x ∷ ks) e = sum_end k ts ks (omega (arith, e))
