-- Lists interpolated along a line.
use Rattle.std.specs.Prelude.{ℤ, List, [], ◌∷◌, Result, Ok, Err}
use Rattle.fixed_num.specs.declared.fixed.Arith.{Arith}
use Rattle.interpolate_fixed.specs.Linear.{linear_of}

-- an item before further ones, or the first fault
abbrev pub with_first : Result ℤ Arith → Result (List ℤ) Arith → Result (List ℤ) Arith
with_first (Err fault) rest = Err fault
with_first (Ok item) (Err fault) = Err fault
with_first (Ok item) (Ok items) = Ok (item ∷ items)

-- a list, item by item, with the fault of the first item that has one; the lists are equally long
unfoldable pub list_of : ℤ → ℤ → List ℤ → ℤ → List ℤ → Result (List ℤ) Arith
list_of x x0 [] x1 bs = Ok []
list_of x x0 (a ∷ as_) x1 [] = Ok []
list_of x x0 (a ∷ as_) x1 (b ∷ bs) = with_first (linear_of x x0 a x1 b) (list_of x x0 as_ x1 bs)
