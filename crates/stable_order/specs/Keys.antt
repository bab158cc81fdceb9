-- The order of keys. Source: own.
use Rattle.std.specs.Prelude.{ℤ, Bool, Option}
use Rattle.std.specs.Option.{option_cmp}
use Rattle.std.specs.Ordering.{int_cmp, is_lt}

-- ascending, and one without a key first
abbrev pub key_before : Option ℤ → Option ℤ → Bool
key_before a b = is_lt (option_cmp int_cmp a b)
