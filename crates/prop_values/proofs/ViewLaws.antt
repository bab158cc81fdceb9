-- The data of a value gives the value back.
use Rattle.std.specs.Prelude.{◌≡◌, ℕ, List, [], ◌∷◌, refl}
use Rattle.std.proofs.Common.{ap}
use Rattle.prop_values.specs.Data.{Data, items_of, pairs_of, list_of, entries_of}
use Rattle.prop_values.specs.View.{data_of, value_of}
use Rattle.prop_values.specs.declared.value.Value.{Value}
use Rattle.prop_values.specs.declared.value.Value.TheVariants.{Null, Bool as Flag, Num, Text, Color, List as ListOf, Map}

pub list_of-items_of : (ds : List Data) → list_of (items_of ds) ≡ ds
list_of-items_of [] = refl
list_of-items_of (d ∷ ds) = ap (λ xs. d ∷ xs) (list_of-items_of ds)

pub entries_of-pairs_of : (ps : List (List ℕ × Data)) → entries_of (pairs_of ps) ≡ ps
entries_of-pairs_of [] = refl
entries_of-pairs_of (p ∷ ps) = ap (λ xs. p ∷ xs) (entries_of-pairs_of ps)

-- For callers: the data gives the value back.
pub value_again : (v : Value) → value_of (data_of v) ≡ v
value_again Null = refl
value_again (Flag b) = refl
value_again (Num n) = refl
value_again (Text s) = refl
value_again (Color c) = refl
value_again (ListOf ds) = ap ListOf (list_of-items_of ds)
value_again (Map ps) = ap Map (entries_of-pairs_of ps)
