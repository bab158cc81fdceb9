-- A value that is looked for among the items of a list.
use Rattle.std.proofs.Common.{◌≡◌, ◌∙◌, ℕ, ◌+◌, suc, Option, Some, None, List, [], ◌∷◌, length, Bool, true, false, refl, ap, sym}
use Rattle.std.proofs.Math.Dec.{leb-zero}
use Rattle.std.specs.Prelude.{◌||◌, is_some, option_map, if◌then◌else◌}
use Rattle.std.specs.List.{list_any}
use Rattle.prop_values.specs.Data.{Data, items_of, list_of}
use Rattle.prop_values.specs.Equality.{equal}
use Rattle.prop_values.proofs.ViewLaws.{list_of-items_of}
use Rattle.operator_values.specs.Sequences.{equal_from, first_equal}

mapped : (f : ℕ → ℕ) (found : Option ℕ) → is_some (option_map f found) ≡ is_some found
mapped f (Some place) = refl
mapped f None = refl

chosen : (b : Bool) (found : Option ℕ) → is_some (if b then Some 0 else option_map suc found) ≡ (b || is_some found)
chosen true found = refl
chosen false found = mapped suc found

first_found : (d : Data) (ds : List Data) → is_some (first_equal d ds) ≡ list_any (equal d) ds
first_found d [] = refl
first_found d (x ∷ xs) = chosen (equal d x) (first_equal d xs) ∙ ap (λ b. equal d x || b) (first_found d xs)

from_start : (d : Data) (ds : List Data) → is_some (equal_from d ds 0) ≡ list_any (equal d) ds
from_start d ds =
    ap (λ b. is_some (if b then option_map (λ place. 0 + place) (first_equal d ds) else None)) (leb-zero (length ds))
    ∙ (mapped (λ place. 0 + place) (first_equal d ds) ∙ first_found d ds)

pub found_among : (d : Data) (ds : List Data) → list_any (equal d) ds ≡ is_some (equal_from d (list_of (items_of ds)) 0)
found_among d ds = sym (ap (λ xs. is_some (equal_from d xs 0)) (list_of-items_of ds) ∙ from_start d ds)
