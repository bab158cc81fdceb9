-- For callers: the last place of a name, one name after the other.
use Rattle.std.specs.Prelude.{◌≡◌, ◌≤◌, ◌⊎◌, ℕ, ◌+◌, List, [], ◌∷◌, Bool, true, false, Option, Some, None, if◌then◌else◌}
use Rattle.std.proofs.Common.{refl, inl, inr, arith}
use Rattle.std.specs.Str.{bytes_eq}
use Rattle.expr_syntax.specs.NameIndex.{or_last, last_place}

-- the first is not the last of them, or it is
pub none_first : (later : Option ℕ) (b : Bool) (i : ℕ) → or_last later (if b then Some i else None) ≡ None → (later ≡ None) × (b ≡ false)
none_first None false i h = (refl, refl)
none_first None true i h = absurd (cc)
none_first (Some j) b i h = absurd (cc)

pub some_cases : (later : Option ℕ) (b : Bool) (i j : ℕ) → or_last later (if b then Some i else None) ≡ Some j → (later ≡ Some j) ⊎ ((later ≡ None) × (b ≡ true) × (i ≡ j))
some_cases (Some a) b i j h = inl h
some_cases None true i j h = inr (refl, refl, cc)
some_cases None false i j h = absurd (cc)

-- a place is not before those that are counted
pub last_above : (names : List (List ℕ)) (asked : List ℕ) (i j : ℕ) → last_place i names asked ≡ Some j → i ≤ j
last_above [] asked i j h = absurd (cc)
last_above (n ∷ names) asked i j h =
    elim (some_cases (last_place (i + 1) names asked) (bytes_eq n asked) i j h) [ inl r ↦ (let q = last_above names asked (i + 1) j r in omega arith) | inr r ↦ omega (arith, r.2) ]
