-- The names around an expression with their numbers, as the program has them.
use Rattle.std.specs.Prelude.{◌≡◌, ℕ, List, [], ◌∷◌, length}
use Rattle.expr_nodes.specs.Resolving.{NumberedNames}
use Rattle.expr_resolving.specs.declared.number_scope.NumberScope.{NumberScope, Empty, Frame'}

abbrev pub numbered : List (List ℕ) → List ℕ → NumberedNames
numbered [] numbers = []
numbered (name ∷ names) [] = []
numbered (name ∷ names) (number ∷ numbers) = (name, number) ∷ numbered names numbers

abbrev pub numbered_scope : NumberScope → List NumberedNames
numbered_scope Empty = []
numbered_scope (Frame' names numbers p outer) = numbered names.now numbers.now ∷ numbered_scope outer

-- each name has a number
abbrev pub HasNumbers : NumberScope → Type 0
HasNumbers Empty = Unit {0}
HasNumbers (Frame' names numbers p outer) = (length names.now ≡ length numbers.now) × HasNumbers outer
