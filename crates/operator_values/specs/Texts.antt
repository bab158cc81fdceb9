-- `concat`. Source: MapLibre style specification, version 8, expressions.
use Rattle.std.specs.Prelude.{ℕ, List, [], ◌∷◌, ◌++◌, Ok}
use Rattle.prop_values.specs.Data.{Data, text}
use Rattle.prop_values.specs.ValueText.{shown_text}
use Rattle.operator_values.specs.Evaluated.{Evaluated}

-- the texts of values in order
abbrev pub joined : List Data → List ℕ
joined [] = []
joined (d ∷ ds) = shown_text d ++ joined ds

abbrev pub concat_of : List Data → Evaluated
concat_of ds = Ok (text (joined ds))
