-- The text of a color is the texts of its parts in order.
use Rattle.std.proofs.Common.{◌≡◌, ℕ, List, [], ◌∷◌, ◌++◌, append_assoc}
use Rattle.std.specs.Prelude.{codes}
use Rattle.fixed_num.specs.NumberText.{number_text}
use Rattle.fixed_num.specs.declared.color.Color.{Color}
use Rattle.prop_values.specs.ColorText.{color_text}

pub color_joined : (old : List ℕ) (c : Color) → (((((old ++ codes "rgba(") ++ (number_text c.r ++ 44 ∷ [])) ++ (number_text c.g ++ 44 ∷ [])) ++ (number_text c.b ++ 44 ∷ [])) ++ number_text c.a) ++ 41 ∷ [] ≡ old ++ color_text c
unfolding color_text
color_joined old c = simp append_assoc
