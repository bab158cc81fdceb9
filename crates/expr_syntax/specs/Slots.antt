-- Where a text is looked for among the names of operators.
use Rattle.std.specs.Prelude.{ℕ, ◌+◌, ◌-◌, ◌*◌, ◌/◌, ◌%◌, List, [], ◌∷◌, length, slice_index, slice_index_or}
use Rattle.expr_syntax.specs.declared.names.Name.{Name}
use Rattle.expr_syntax.specs.declared.names.Name.TheVariants.{Literal}
use Rattle.expr_syntax.specs.Names.{names}

-- a number below 256, which differs for any two names: of the first byte, the last, the middle one and the
-- length
abbrev pub slot_of : List ℕ → ℕ
slot_of [] = 0
slot_of (b ∷ bs) =
    (3 * b + 82 * slice_index (b ∷ bs) (length (b ∷ bs) - 1) + 48 * slice_index (b ∷ bs) (length (b ∷ bs) / 2)
    + 38 * (length (b ∷ bs) % 256)) % 256

-- the place among the names of the one that has a slot; where none has it, any place
unfoldable pub slots : List ℕ
slots =
    28 ∷ 0 ∷ 13 ∷ 1 ∷ 0 ∷ 63 ∷ 0 ∷ 0 ∷ 0 ∷ 49 ∷ 0 ∷ 0 ∷ 51 ∷ 60 ∷ 0 ∷ 0 ∷ 0 ∷ 0 ∷ 3 ∷ 0 ∷ 0 ∷ 32 ∷ 0 ∷ 0 ∷
    0 ∷ 66 ∷ 0 ∷ 0 ∷ 0 ∷ 0 ∷ 0 ∷ 0 ∷ 0 ∷ 21 ∷ 0 ∷ 0 ∷ 0 ∷ 0 ∷ 8 ∷ 77 ∷ 0 ∷ 0 ∷ 0 ∷ 0 ∷ 0 ∷ 0 ∷ 0 ∷ 0 ∷ 71 ∷
    0 ∷ 0 ∷ 0 ∷ 0 ∷ 0 ∷ 0 ∷ 35 ∷ 0 ∷ 0 ∷ 74 ∷ 0 ∷ 0 ∷ 0 ∷ 0 ∷ 0 ∷ 0 ∷ 73 ∷ 0 ∷ 0 ∷ 50 ∷ 0 ∷ 59 ∷ 0 ∷ 0 ∷ 5 ∷
    0 ∷ 22 ∷ 0 ∷ 65 ∷ 0 ∷ 14 ∷ 0 ∷ 0 ∷ 25 ∷ 0 ∷ 0 ∷ 0 ∷ 0 ∷ 17 ∷ 0 ∷ 53 ∷ 80 ∷ 0 ∷ 27 ∷ 0 ∷ 0 ∷ 47 ∷ 41 ∷
    76 ∷ 0 ∷ 18 ∷ 0 ∷ 0 ∷ 0 ∷ 0 ∷ 82 ∷ 0 ∷ 16 ∷ 0 ∷ 69 ∷ 29 ∷ 0 ∷ 0 ∷ 9 ∷ 0 ∷ 0 ∷ 0 ∷ 0 ∷ 0 ∷ 0 ∷ 0 ∷ 0 ∷
    68 ∷ 0 ∷ 0 ∷ 40 ∷ 43 ∷ 0 ∷ 0 ∷ 0 ∷ 0 ∷ 0 ∷ 54 ∷ 0 ∷ 0 ∷ 0 ∷ 45 ∷ 37 ∷ 0 ∷ 0 ∷ 0 ∷ 0 ∷ 0 ∷ 0 ∷ 0 ∷ 0 ∷
    46 ∷ 0 ∷ 0 ∷ 0 ∷ 0 ∷ 0 ∷ 19 ∷ 0 ∷ 0 ∷ 0 ∷ 0 ∷ 0 ∷ 0 ∷ 0 ∷ 78 ∷ 0 ∷ 0 ∷ 0 ∷ 33 ∷ 81 ∷ 52 ∷ 0 ∷ 75 ∷ 0 ∷
    24 ∷ 61 ∷ 31 ∷ 2 ∷ 0 ∷ 57 ∷ 0 ∷ 12 ∷ 0 ∷ 70 ∷ 0 ∷ 0 ∷ 0 ∷ 0 ∷ 72 ∷ 0 ∷ 0 ∷ 0 ∷ 0 ∷ 0 ∷ 83 ∷ 0 ∷ 11 ∷ 38 ∷
    34 ∷ 0 ∷ 0 ∷ 0 ∷ 39 ∷ 0 ∷ 56 ∷ 20 ∷ 0 ∷ 0 ∷ 48 ∷ 0 ∷ 58 ∷ 36 ∷ 0 ∷ 62 ∷ 0 ∷ 0 ∷ 0 ∷ 0 ∷ 0 ∷ 0 ∷ 0 ∷ 42 ∷
    0 ∷ 0 ∷ 0 ∷ 10 ∷ 15 ∷ 0 ∷ 0 ∷ 7 ∷ 0 ∷ 0 ∷ 0 ∷ 6 ∷ 0 ∷ 64 ∷ 0 ∷ 0 ∷ 0 ∷ 0 ∷ 4 ∷ 0 ∷ 0 ∷ 79 ∷ 0 ∷ 0 ∷ 0 ∷
    0 ∷ 0 ∷ 0 ∷ 55 ∷ 0 ∷ 30 ∷ 44 ∷ 0 ∷ 26 ∷ 0 ∷ 67 ∷ 23 ∷ 0 ∷ 0 ∷
    []

-- the name of a slot
abbrev pub name_in : ℕ → Name
name_in slot = slice_index_or names (slice_index_or slots slot 0) Literal
