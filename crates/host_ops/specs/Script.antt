-- Which texts the test of scripts lets through: the range has the scripts from Hebrew to Arabic Extended-A,
-- which are written from right to left. Source: own.
use Rattle.std.specs.Prelude.{ℕ, List, Bool, ◌&&◌, nat_le, not}
use Rattle.std.specs.List.{list_any}
use Rattle.std.specs.Str.{chars}

-- a scalar value from U+0590 to U+08FF
abbrev pub is_from_right : ℕ → Bool
is_from_right scalar = nat_le 1424 scalar && nat_le scalar 2303

-- the text, given by its bytes, has no such scalar value
abbrev pub is_plain : List ℕ → Bool
is_plain text = not (list_any is_from_right (chars text))
