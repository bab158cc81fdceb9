-- The elements of an array are those of which it was made.
use Rattle.std.proofs.Common.{◌≡◌, List, [], ◌∷◌, refl, ap}
use Rattle.decimal_json.specs.Tree.{Tree, trees_of}
use Rattle.edit_script.specs.Form.{elements_of}

pub elements_made : (ts : List Tree) → elements_of (trees_of ts) ≡ ts
elements_made [] = refl
elements_made (t ∷ ts) = ap (λ xs. t ∷ xs) (elements_made ts)
