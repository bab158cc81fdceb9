-- What the form of a value decides: its order, the text of its kind, and its truth.
use Rattle.std.specs.Prelude.{ℕ, pos, List, [], ◌∷◌, Bool, true, false, not, codes, Option, Some, None}
use Rattle.std.specs.declared.cmp.Ordering.{Ordering}
use Rattle.std.specs.Ordering.{nat_cmp, int_cmp, int_eq}
use Rattle.std.specs.Cmp.Lexicographic.{slice_cmp}
use Rattle.std.specs.Str.{chars}
use Rattle.prop_values.specs.Data.{Data, null, boolean, number, text, color, list, map}

-- Two numbers are ordered, and two texts by their scalar values; nothing else is. Source: own.
abbrev pub order_of : Data → Data → Option Ordering
order_of (number a) (number b) = Some (int_cmp a b)
order_of (text a) (text b) = Some (slice_cmp nat_cmp (chars a) (chars b))
order_of _ _ = None

-- What `typeof` says. Source: MapLibre style specification, version 8, expressions; own for `color` and
-- `null`.
abbrev pub kind_name : Data → List ℕ
kind_name null = codes "null"
kind_name (boolean b) = codes "boolean"
kind_name (number n) = codes "number"
kind_name (text s) = codes "string"
kind_name (color c) = codes "color"
kind_name (list ds) = codes "array"
kind_name (map ps) = codes "object"

abbrev pub is_empty : List ℕ → Bool
is_empty [] = true
is_empty (b ∷ bs) = false

-- What `to-boolean` says: false for null, false, 0 and the empty text. Source: MapLibre style specification,
-- version 8, expressions.
abbrev pub is_true : Data → Bool
is_true null = false
is_true (boolean b) = b
is_true (number n) = not (int_eq n (pos 0))
is_true (text s) = not (is_empty s)
is_true _ = true
