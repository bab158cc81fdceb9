-- Lists of different lengths are not equal.
use Rattle.std.proofs.Common.{◌≡◌, ◌≢◌, List, [], ◌∷◌, length, false, refl, ap, suc}
use Rattle.std.proofs.lemmas.Bool.{and_right}
use Rattle.prop_values.specs.declared.value.Value.{Value}
use Rattle.prop_values.specs.View.{data_of}
use Rattle.prop_values.specs.ViewParts.{items}
use Rattle.prop_values.specs.Equality.{items_equal, equal}

pub other_length : (a b : List Value) → length a ≢ length b → items_equal (items a) (items b) ≡ false
other_length [] [] h = absurd (h refl)
other_length [] (y ∷ b) h = refl
other_length (x ∷ a) [] h = refl
other_length (x ∷ a) (y ∷ b) h = and_right (equal (data_of x) (data_of y)) _ (other_length a b (λ e. h (ap suc e)))
