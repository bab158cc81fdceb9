-- Elements of a `format` that are changed in place.
use Rattle.std.proofs.Common.{◌≡◌, ◌<◌, ℕ, zero, suc, List, [], ◌∷◌, length, get_or, set, refl, ap, arith}
use Rattle.decimal_json.specs.Tree.{Tree, fields_of, members_of}

-- the last of two that were put is there
pub set_twice : (ts : List Tree) (i : ℕ) (a b : Tree) → set (set ts i a) i b ≡ set ts i b
set_twice [] i a b = refl
set_twice (t ∷ ts) zero a b = refl
set_twice (t ∷ ts) (suc i) a b = ap (λ us. t ∷ us) (set_twice ts i a b)

-- what is there does not depend on what would be there without it
pub got_there : (ts : List Tree) (i : ℕ) (t d : Tree) → i < length ts → t ≡ get_or ts i t → t ≡ get_or ts i d
got_there [] i t d h p = absurd (omega arith)
got_there (u ∷ ts) zero t d h p = p
got_there (u ∷ ts) (suc i) t d h p = got_there ts i t d (omega arith) p

pub members_again : (ms : List (List ℕ × Tree)) → members_of (fields_of ms) ≡ ms
members_again [] = refl
members_again (m ∷ ms) = ap (λ ns. m ∷ ns) (members_again ms)
