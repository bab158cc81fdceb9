-- The text of a color.
use Rattle.std.specs.Prelude.{ℕ, List, [], ◌∷◌, ◌++◌, codes}
use Rattle.fixed_num.specs.NumberText.{number_text}
use Rattle.fixed_num.specs.declared.color.Color.{Color}

-- A color is written as its four numbers: rgba(r,g,b,a). ',' is 44 and ')' is 41. Source: own.
unfoldable pub color_text : Color → List ℕ
color_text c = codes "rgba("
    ++ (number_text c.r ++ (44 ∷ (number_text c.g ++ (44 ∷ (number_text c.b ++ (44 ∷ (number_text c.a ++ 41 ∷ [])))))))
