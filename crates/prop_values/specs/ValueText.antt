-- The texts of a value: its JSON, what `to-string` says, and what a listing has.
use Rattle.std.specs.Prelude.{ℕ, List, [], ◌∷◌, ◌++◌, Bool, true, false, codes}
use Rattle.fixed_num.specs.NumberText.{number_text}
use Rattle.decimal_json.specs.JsonText.{text_json}
use Rattle.prop_values.specs.ColorText.{color_text}
use Rattle.prop_values.specs.Data.{Data, null, boolean, number, text, color, list, map, Items, no_items, item, Pairs}
use Rattle.prop_values.specs.Data.{no_pairs, pair}

abbrev pub flag_text : Bool → List ℕ
flag_text true = codes "true"
flag_text false = codes "false"

-- a comma between two parts: ',' is 44
abbrev pub comma_if : Bool → List ℕ
comma_if true = 44 ∷ []
comma_if false = []

-- The JSON of a value, without white space: a number is its text, and a color the JSON string of its text.
-- '[' is 91, ']' 93, '{' 123, '}' 125 and ':' 58. Source: RFC 8259 §3 to §7; own for colors.
abbrev mutual
  pub data_json : Data → List ℕ
  data_json null = codes "null"
  data_json (boolean b) = flag_text b
  data_json (number n) = number_text n
  data_json (text s) = text_json s
  data_json (color c) = text_json (color_text c)
  data_json (list ds) = 91 ∷ (items_json false ds ++ 93 ∷ [])
  data_json (map ps) = 123 ∷ (pairs_json false ps ++ 125 ∷ [])

  -- items, where `later` says that there is one before them
  pub items_json : Bool → Items → List ℕ
  items_json later no_items = []
  items_json later (item d ds) = comma_if later ++ (data_json d ++ items_json true ds)

  pub pairs_json : Bool → Pairs → List ℕ
  pairs_json later no_pairs = []
  pairs_json later (pair k d ps) = comma_if later ++ (text_json k ++ 58 ∷ (data_json d ++ pairs_json true ps))

-- What `to-string` says: null is empty, a text is itself, a color is its text, and all else is its JSON.
-- Source: MapLibre style specification, version 8, expressions; own for colors.
abbrev pub shown_text : Data → List ℕ
shown_text null = []
shown_text (boolean b) = flag_text b
shown_text (number n) = number_text n
shown_text (text s) = s
shown_text (color c) = color_text c
shown_text (list ds) = data_json (list ds)
shown_text (map ps) = data_json (map ps)

-- What a listing has for a value: its JSON, but for a color the bare text. Source: own.
abbrev pub listed_text : Data → List ℕ
listed_text null = data_json null
listed_text (boolean b) = data_json (boolean b)
listed_text (number n) = data_json (number n)
listed_text (text s) = data_json (text s)
listed_text (color c) = color_text c
listed_text (list ds) = data_json (list ds)
listed_text (map ps) = data_json (map ps)
