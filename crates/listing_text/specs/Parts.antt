-- Parts of a text in order: the words of the private contracts.
use Rattle.std.specs.Prelude.{ℕ, ℤ, List, [], ◌∷◌, ◌++◌, flat_map, codes}
use Rattle.std.specs.Borrow.{Bor}
use Rattle.fixed_num.specs.NumberText.{number_text}
use Rattle.listing_text.specs.Listing.{line}

abbrev pub parts_text : List (Bor (List ℕ)) → List ℕ
parts_text = flat_map (λ (part : Bor (List ℕ)). part.now)

-- what is before the value of a property on its line
abbrev pub line_front : (margin name : List ℕ) → List ℕ
line_front margin name = margin ++ (name ++ codes " ")

-- the line of a property whose value is a number
abbrev pub number_line : (margin name : List ℕ) → ℤ → List ℕ
number_line margin name number = line (margin ∷ name ∷ codes " " ∷ number_text number ∷ [])
