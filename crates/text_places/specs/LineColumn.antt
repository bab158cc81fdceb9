-- The line and the column of a place in a text, both from 1. A line is ended by a LF, which is 10. A column is a
-- character: of the bytes of a character in UTF-8 all but the first are from 128 to 191. Source: own; RFC 3629 §3.
use Rattle.std.specs.Prelude.{ℕ, ◌+◌, List, [], ◌∷◌, Bool, ◌==◌, ◌&&◌, nat_le, if◌then◌else◌}
use Rattle.text_places.specs.declared.place.TextPlace.{TextPlace}

-- the byte goes on a character
abbrev pub goes_on : ℕ → Bool
goes_on c = nat_le 128 c && nat_le c 191

-- the place after a byte
abbrev pub after_byte : TextPlace → ℕ → TextPlace
after_byte p c =
    if c == 10 then record { line = p.line + 1; column = 1 }
    else if goes_on c then p
    else record { line = p.line; column = p.column + 1 }

-- the place after bytes
abbrev pub after_bytes : TextPlace → List ℕ → TextPlace
after_bytes p [] = p
after_bytes p (c ∷ b) = after_bytes (after_byte p c) b

abbrev pub first_place : TextPlace
first_place = record { line = 1; column = 1 }
