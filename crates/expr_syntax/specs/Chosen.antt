-- Which output of a `match` a value chooses.
use Rattle.std.specs.Prelude.{ℕ, List, [], ◌∷◌, Bool, false, if◌then◌else◌}
use Rattle.std.specs.Ordering.{int_eq}
use Rattle.prop_values.specs.Data.{Data, number, text}
use Rattle.prop_values.specs.Equality.{same_text}
use Rattle.expr_syntax.specs.declared.parts.Label.{Label}
use Rattle.expr_syntax.specs.declared.parts.Label.TheVariants.{Text, Number}
use Rattle.expr_syntax.specs.declared.parts.Labelled.{Labelled}

-- A label is equal to a value: to a text that is the same, or to a number that is the same.
-- Source: MapLibre style specification, version 8, expressions, `match`.
abbrev pub is_equal_to : Label → Data → Bool
is_equal_to (Text s) (text t) = same_text s t
is_equal_to (Number y) (number z) = int_eq y z
is_equal_to _ _ = false

-- The number of the output of the label that is equal to a value, and of the last where none is. Source: the
-- same.
abbrev pub output_of : List Labelled → Data → ℕ → ℕ
output_of [] d last = last
output_of (l ∷ ls) d last = if is_equal_to l.label d then l.output else output_of ls d last
