-- How the texts of several writes join, for callers that write a text piece by piece.
use Rattle.std.specs.Prelude.{◌≡◌, ℕ, ◌+◌, List, [], ◌++◌, take, length, min, Option, Some, None, Result, Ok, Err}
use Rattle.std.specs.Prelude.{OnErr}
use Rattle.std.specs.Option.{option_map}
use Rattle.std.proofs.Common.{refl, sym, ap, subst, ◌∙◌, append-nil, append_assoc, arith}
use Rattle.std.proofs.Math.Seq.{take-append-add}
use Rattle.std.proofs.lemmas.List.{take-append-le, take_min}
use Rattle.outside_io.specs.Writing.{Gains, GainsPrefix}

-- where nothing is written
pub gains_nothing : (held : Option (List ℕ)) → Gains held held []
gains_nothing None = refl
gains_nothing (Some bytes) = ap Some (sym (append-nil bytes))

-- one text, and then another
pub gains_both : (a b c : Option (List ℕ)) (x y : List ℕ) → Gains a b x → Gains b c y → Gains a c (x ++ y)
gains_both None b c x y first second = second ∙ ap (option_map (λ bytes. bytes ++ y)) first
gains_both (Some bytes) b c x y first second =
    second ∙ ap (option_map (λ held. held ++ y)) first ∙ ap Some (append_assoc bytes x y)

-- nothing written is a prefix of any text
pub front_of_nothing : (held : Option (List ℕ)) (text : List ℕ) → GainsPrefix held held text
front_of_nothing held text = (0, gains_nothing held)

-- x and n bytes of y, where z was to come
front_cut : (x y z : List ℕ) (n : ℕ) → take (length x + min n (length y)) (x ++ (y ++ z)) ≡ x ++ take n y
front_cut x y z n =
    take-append-add x (y ++ z) (min n (length y))
    ∙ ap (λ rest. x ++ rest) (take-append-le (min n (length y)) y z (omega arith) ∙ take_min n y)

-- a text, and then a prefix of the next, where more was to come
pub front_of_more : (a b c : Option (List ℕ)) (x y z : List ℕ) → Gains a b x → GainsPrefix b c y →
    GainsPrefix a c (x ++ (y ++ z))
front_of_more a b c x y z first (n, second) =
    let P : List ℕ → Type 0 = λ text. Gains a c text in
    (length x + min n (length y), subst P (sym (front_cut x y z n)) (gains_both a b c x (take n y) first second))

-- a fact that holds in every case holds at an error
pub at_error : {T E P : Type 0} (r : Result T E) → P → OnErr r P
at_error (Ok value) holds = tt
at_error (Err fault) holds = holds
