-- When two values are equal.
use Rattle.std.specs.Prelude.{ℕ, List, Bool, true, false, ◌&&◌, nat_eq, Option, Some, None, option_map, unwrap_or}
use Rattle.std.specs.Prelude.{is_some, if◌then◌else◌}
use Rattle.std.specs.Ordering.{int_eq}
use Rattle.std.specs.Cmp.Lexicographic.{pointwise}
use Rattle.fixed_num.specs.declared.color.Color.{Color}
use Rattle.prop_values.specs.Data.{Data, null, boolean, number, text, color, list, map, Items, no_items, item, Pairs}
use Rattle.prop_values.specs.Data.{no_pairs, pair}

abbrev pub same_flag : Bool → Bool → Bool
same_flag true b = b
same_flag false true = false
same_flag false false = true

-- one text, byte by byte
abbrev pub same_text : List ℕ → List ℕ → Bool
same_text = pointwise nat_eq

abbrev pub same_color : Color → Color → Bool
same_color c d = int_eq c.r d.r && (int_eq c.g d.g && (int_eq c.b d.b && int_eq c.a d.a))

-- The data at a key, or nothing where no entry has the key.
abbrev pub at_key : List ℕ → Pairs → Option Data
at_key key no_pairs = None
at_key key (pair k d ps) = if same_text k key then Some d else at_key key ps

-- each key of the first is one of the second
abbrev pub keys_in : Pairs → Pairs → Bool
keys_in no_pairs qs = true
keys_in (pair k d ps) qs = is_some (at_key k qs) && keys_in ps qs

-- Values are equal where they are of one form with equal parts: lists item by item, and maps where
-- they have the same keys with equal values, in any order. Source: own.
abbrev mutual
  pub equal : Data → Data → Bool
  equal null null = true
  equal (boolean a) (boolean b) = same_flag a b
  equal (number a) (number b) = int_eq a b
  equal (text a) (text b) = same_text a b
  equal (color a) (color b) = same_color a b
  equal (list a) (list b) = items_equal a b
  equal (map a) (map b) = pairs_in a b && keys_in b a
  equal _ _ = false

  pub items_equal : Items → Items → Bool
  items_equal no_items no_items = true
  items_equal (item a ats) (item b bs) = equal a b && items_equal ats bs
  items_equal _ _ = false

  -- the second has each key of the first, with an equal value
  pub pairs_in : Pairs → Pairs → Bool
  pairs_in no_pairs qs = true
  pairs_in (pair k d ps) qs = unwrap_or (option_map (equal d) (at_key k qs)) false && pairs_in ps qs
