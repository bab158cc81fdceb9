-- The first cause for which something is refused.
use Rattle.std.specs.Prelude.{List, [], ◌∷◌, Option, None}
use Rattle.std.specs.Option.{option_or}

-- The first cause that holds, of causes in their order; one that does not hold is none. Source: own.
abbrev pub first_cause : {A : Type 0} → List (Option A) → Option A
first_cause [] = None
first_cause (cause ∷ causes) = option_or cause (first_cause causes)
