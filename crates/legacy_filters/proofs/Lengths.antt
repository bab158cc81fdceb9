-- What is too short or too long after a name or a key.
use Rattle.std.proofs.Common.{◌≡◌, ◌<◌, ◌≤◌, List, [], ◌∷◌, refl, length, arith, true, false}
use Rattle.decimal_json.specs.View.{trees}
use Rattle.decimal_json.specs.declared.tree.Json.{Json}
use Rattle.std.specs.Prelude.{None}
use Rattle.legacy_filters.specs.declared.filter.Key.{Key}
use Rattle.legacy_filters.specs.declared.filter.Test.{Test}
use Rattle.legacy_filters.specs.Form.{alone, one_scalar}
use Rattle.legacy_filters.specs.Split.{in_is_legacy, comparison_is_legacy}

pub in_of_few : (others : List Json) → length others < 2 → true ≡ in_is_legacy (trees others)
in_of_few [] h = refl
in_of_few (needle ∷ []) h = refl
in_of_few (needle ∷ place ∷ others) h = absurd (omega arith)

pub comparison_of_few : (others : List Json) → length others < 2 → false ≡ comparison_is_legacy (trees others)
comparison_of_few [] h = refl
comparison_of_few (a ∷ []) h = refl
comparison_of_few (a ∷ b ∷ others) h = absurd (omega arith)

pub comparison_of_many : (others : List Json) → 3 ≤ length others → false ≡ comparison_is_legacy (trees others)
comparison_of_many [] h = absurd (omega arith)
comparison_of_many (a ∷ []) h = absurd (omega arith)
comparison_of_many (a ∷ b ∷ []) h = absurd (omega arith)
comparison_of_many (a ∷ b ∷ c ∷ others) h = refl

pub alone_of_some : (t : Test) (others : List Json) → 1 ≤ length others → None ≡ alone t (trees others)
alone_of_some t [] h = absurd (omega arith)
alone_of_some t (a ∷ others) h = refl

pub one_of_none : (key : Key) (others : List Json) → length others < 1 → None ≡ one_scalar key (trees others)
one_of_none key [] h = refl
one_of_none key (a ∷ others) h = absurd (omega arith)

pub one_of_many : (key : Key) (others : List Json) → 2 ≤ length others → None ≡ one_scalar key (trees others)
one_of_many key [] h = absurd (omega arith)
one_of_many key (a ∷ []) h = absurd (omega arith)
one_of_many key (a ∷ b ∷ others) h = refl
