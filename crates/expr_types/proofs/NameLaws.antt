-- The kind of the last of equal names, by its place.
use Rattle.std.specs.Prelude.{List, [], ◌∷◌, true, false, Some, None, slice_index_or}
use Rattle.std.proofs.Common.{◌≡◌, ℕ, ◌+◌, length, refl, zero, suc, arith, inl, inr}
use Rattle.prop_values.specs.declared.kinds.Kind.{Kind}
use Rattle.prop_values.specs.Equality.{same_text}
use Rattle.expr_syntax.specs.NameIndex.{last_place}
use Rattle.expr_syntax.proofs.LastPlaces.{none_first, some_cases, last_above}
use Rattle.expr_types.specs.Typing.{frame, last_kind}

none_from : (i : ℕ) (names : List (List ℕ)) (kinds : List Kind) (asked : List ℕ) → last_place i names asked ≡ None → last_kind (frame names kinds) asked ≡ None
none_from i [] kinds asked h = refl
none_from i (n ∷ names) [] asked h = refl
none_from i (n ∷ names) (k ∷ kinds) asked h =
    let q = none_first (last_place (i + 1) names asked) (same_text n asked) i h in
    rw (none_from (i + 1) names kinds asked q.0, q.1) refl

some_from : (names : List (List ℕ)) (kinds : List Kind) (asked : List ℕ) (i j m : ℕ) (other : Kind) → length names ≡ length kinds → last_place i names asked ≡ Some j → j ≡ i + m → last_kind (frame names kinds) asked ≡ Some (slice_index_or kinds m other)
some_from [] kinds asked i j m other l h q = absurd (cc)
some_from (n ∷ names) [] asked i j m other l h q = absurd (omega arith)
some_from (n ∷ names) (k ∷ kinds) asked i j zero other l h q =
    elim (some_cases (last_place (i + 1) names asked) (same_text n asked) i j h) [ inl r ↦ absurd (let w = last_above names asked (i + 1) j r in omega arith) | inr r ↦ rw (none_from (i + 1) names kinds asked r.0, r.1) refl ]
some_from (n ∷ names) (k ∷ kinds) asked i j (suc m) other l h q =
    elim (some_cases (last_place (i + 1) names asked) (same_text n asked) i j h) [ inl r ↦ rw (some_from names kinds asked (i + 1) j m other (omega arith) r (omega arith)) refl | inr r ↦ absurd (omega (arith, r.2)) ]

-- a name that has no place has no kind
pub no_kind : (names : List (List ℕ)) (kinds : List Kind) (asked : List ℕ) → last_place 0 names asked ≡ None → last_kind (frame names kinds) asked ≡ None
no_kind names kinds asked h = none_from 0 names kinds asked h

-- and the kind of a name that has a place is there
pub kind_there : (names : List (List ℕ)) (kinds : List Kind) (asked : List ℕ) (place : ℕ) (other : Kind) → length names ≡ length kinds → last_place 0 names asked ≡ Some place → last_kind (frame names kinds) asked ≡ Some (slice_index_or kinds place other)
kind_there names kinds asked place other l h = some_from names kinds asked 0 place place other l h (omega arith)
