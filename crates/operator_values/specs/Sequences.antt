-- Operators of texts and lists. Positions in a text are counted in Unicode scalar values. Source: MapLibre
-- style specification, version 8, expressions.
use Rattle.std.specs.Prelude.{ℕ, ◌+◌, ◌-◌, ℤ, pos, neg_ℤ, suc, List, [], ◌∷◌, length, take, drop, Bool, true, false}
use Rattle.std.specs.Prelude.{nat_le, Option, Some, None, is_some, option_map, Result, Ok, Err, if◌then◌else◌}
use Rattle.std.specs.Prelude.{encode_utf8_all}
use Rattle.std.specs.List.{slice_get}
use Rattle.std.specs.Str.{chars}
use Rattle.text_units.specs.Position.{first_place, place_from}
use Rattle.prop_values.specs.Data.{Data, null, boolean, number, text, list, list_of, items_of}
use Rattle.prop_values.specs.Equality.{equal}
use Rattle.prop_values.specs.declared.fault.EvalFault.{EvalFault}
use Rattle.prop_values.specs.declared.fault.EvalFault.TheVariants.{WrongType, IndexOutside}
use Rattle.operator_values.specs.Evaluated.{Evaluated}
use Rattle.operator_values.specs.Whole.{count, index_in, place_in}

-- ---- `at`

abbrev pub item_or_outside : Option Data → Evaluated
item_or_outside (Some d) = Ok d
item_or_outside None = Err IndexOutside

abbrev pub item_at : Result ℕ EvalFault → List Data → Evaluated
item_at (Ok i) ds = item_or_outside (slice_get ds i)
item_at (Err fault) ds = Err fault

-- `at`: an index that is not whole is a fault of its own, before one that is outside
abbrev pub item_of : ℤ → Data → Evaluated
item_of z (list ds) = item_at (index_in z) (list_of ds)
item_of z _ = Err WrongType

abbrev pub at_of : List Data → Evaluated
at_of (number z ∷ sequence ∷ []) = item_of z sequence
at_of _ = Err WrongType

-- ---- `in` and `index-of`: a list is searched by equality, and a text for a part

-- the place of the first item that is equal
abbrev pub first_equal : Data → List Data → Option ℕ
first_equal needle [] = None
first_equal needle (d ∷ ds) = if equal needle d then Some 0 else option_map suc (first_equal needle ds)

-- the least place at or after `from`
abbrev pub equal_from : Data → List Data → ℕ → Option ℕ
equal_from needle ds from =
    if nat_le from (length ds) then option_map (λ place. from + place) (first_equal needle (drop from ds)) else None

-- a needle that is no text is in no text
abbrev pub part_from : Data → List ℕ → ℕ → Option ℕ
part_from (text part) s from = place_from (chars s) (chars part) from
part_from _ s from = None

-- the place of a value in a text or list, at or after a place; no other value is searched
abbrev pub found_from : Data → Data → ℕ → Result (Option ℕ) EvalFault
found_from needle (text s) from = Ok (part_from needle s from)
found_from needle (list ds) from = Ok (equal_from needle (list_of ds) from)
found_from needle _ from = Err WrongType

abbrev pub whether_found : Result (Option ℕ) EvalFault → Evaluated
whether_found (Ok place) = Ok (boolean (is_some place))
whether_found (Err fault) = Err fault

-- `in`
abbrev pub in_of : List Data → Evaluated
in_of (needle ∷ sequence ∷ []) = whether_found (found_from needle sequence 0)
in_of _ = Err WrongType

-- -1 where it is nowhere
abbrev pub place_value : Option ℕ → Data
place_value (Some place) = count place
place_value None = number (neg_ℤ (pos 1000000))

abbrev pub place_found : Result (Option ℕ) EvalFault → Evaluated
place_found (Ok place) = Ok (place_value place)
place_found (Err fault) = Err fault

abbrev pub place_found_from : Data → Data → Result ℕ EvalFault → Evaluated
place_found_from needle sequence (Ok from) = place_found (found_from needle sequence from)
place_found_from needle sequence (Err fault) = Err fault

-- `index-of`: the index to begin at is looked at first
abbrev pub index_of_of : List Data → Evaluated
index_of_of (needle ∷ sequence ∷ []) = place_found (found_from needle sequence 0)
index_of_of (needle ∷ sequence ∷ number from ∷ []) = place_found_from needle sequence (index_in from)
index_of_of _ = Err WrongType

-- ---- `length` and `slice`

-- how many scalar values or items there are
abbrev pub size_of : Data → Result ℕ EvalFault
size_of (text s) = Ok (length (chars s))
size_of (list ds) = Ok (length (list_of ds))
size_of _ = Err WrongType

abbrev pub the_count : Result ℕ EvalFault → Evaluated
the_count (Ok n) = Ok (count n)
the_count (Err fault) = Err fault

-- `length`
abbrev pub length_of : List Data → Evaluated
length_of (sequence ∷ []) = the_count (size_of sequence)
length_of _ = Err WrongType

-- from one place up to another, which is not included; nothing where that is before
abbrev pub stretch : {A : Type 0} → ℕ → ℕ → List A → List A
stretch from to xs = take (to - from) (drop from xs)

abbrev pub stretch_of : Data → ℕ → ℕ → Evaluated
stretch_of (text s) from to = Ok (text (encode_utf8_all (stretch from to (chars s))))
stretch_of (list ds) from to = Ok (list (items_of (stretch from to (list_of ds))))
stretch_of _ from to = Err WrongType

abbrev pub stretch_between : Data → Result ℕ EvalFault → Result ℕ EvalFault → Evaluated
stretch_between sequence (Ok from) (Ok to) = stretch_of sequence from to
stretch_between sequence (Ok from) (Err fault) = Err fault
stretch_between sequence (Err fault) to = Err fault

abbrev pub slice_from : Data → Result ℕ EvalFault → ℤ → Evaluated
slice_from sequence (Ok size) from = stretch_between sequence (place_in size from) (Ok size)
slice_from sequence (Err fault) from = Err fault

abbrev pub slice_between : Data → Result ℕ EvalFault → ℤ → ℤ → Evaluated
slice_between sequence (Ok size) from to = stretch_between sequence (place_in size from) (place_in size to)
slice_between sequence (Err fault) from to = Err fault

-- `slice`
abbrev pub slice_of : List Data → Evaluated
slice_of (sequence ∷ number from ∷ []) = slice_from sequence (size_of sequence) from
slice_of (sequence ∷ number from ∷ number to ∷ []) = slice_between sequence (size_of sequence) from to
slice_of _ = Err WrongType
