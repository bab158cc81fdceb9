-- The number that a tree says, and tests of a number that may be there: none fails each. Numbers are in
-- millionths. Source: own.
use Rattle.std.specs.Prelude.{ℤ, pos, int_le, Bool, false, ◌&&◌, Option, Some, None, Result, Ok, Err}
use Rattle.std.specs.Ordering.{int_eq}
use Rattle.fixed_num.specs.Decimal.{read_text}
use Rattle.fixed_num.specs.declared.decimal.NumFault.{NumFault}
use Rattle.decimal_json.specs.Tree.{Tree, number}

-- one past the bound is none
abbrev pub number_read : Result ℤ NumFault → Option ℤ
number_read (Ok z) = Some z
number_read (Err past) = None

abbrev pub number_in : Tree → Option ℤ
number_in (number n) = number_read (read_text n)
number_in _ = None

abbrev pub is_equal : ℤ → Option ℤ → Bool
is_equal z (Some found) = int_eq found z
is_equal z None = false

abbrev pub is_between : ℤ → ℤ → Option ℤ → Bool
is_between least most (Some z) = int_le least z && int_le z most
is_between least most None = false

-- a zoom is from 0 to 24
abbrev pub is_zoom : Option ℤ → Bool
is_zoom zoom = is_between (pos 0) (pos 24000000) zoom
