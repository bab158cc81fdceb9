-- The words of which sentences are made. Source: own.
use Rattle.std.specs.Prelude.{ℕ, List, [], ◌∷◌, ◌++◌, length, codes, decimal, nat_eq, nat_le, Bool, true, false, ◌&&◌}
use Rattle.std.specs.Prelude.{◌||◌, if◌then◌else◌}
use Rattle.std.specs.List.{list_all, list_any}
use Rattle.std.specs.Str.{bytes_eq}
use Rattle.decimal_json.specs.JsonText.{text_json}
use Rattle.decimal_json.specs.Tree.{Tree, null, boolean, number, text, list, object, Trees}
use Rattle.style_rules.specs.Rules.{count_of}

-- words, one after the other
abbrev pub words : List (List ℕ) → List ℕ
words [] = []
words (w ∷ ws) = w ++ words ws

-- a name is one of these
abbrev pub is_one_of : List (List ℕ) → List ℕ → Bool
is_one_of names name = list_any (bytes_eq name) names

-- A text as a JSON string, or its length where it is long: the id of a layer is on each of its lines, and the type of a
-- source on those of its layers.
abbrev pub shown_text : List ℕ → List ℕ
shown_text s = if nat_le (length s) 200 then text_json s else
    words (codes "a text of " ∷ decimal (length s) ∷ codes " bytes" ∷ [])

-- a letter, a digit, `-` or `_`
abbrev pub is_plain : ℕ → Bool
is_plain c = (nat_le 97 c && nat_le c 122)
    || ((nat_le 65 c && nat_le c 90) || ((nat_le 48 c && nat_le c 57) || (nat_eq c 45 || nat_eq c 95)))

-- a name as it is where it has plain characters alone, and as a JSON string where it has others or none
abbrev pub name_text : List ℕ → List ℕ
name_text [] = text_json []
name_text (c ∷ name) = if list_all is_plain (c ∷ name) then c ∷ name else text_json (c ∷ name)

-- so many things of a kind
abbrev pub counted : ℕ → (one more : List ℕ) → List ℕ
counted n one more = words (decimal n ∷ codes " " ∷ (if nat_eq n 1 then one else more) ∷ [])

abbrev pub array_text : ℕ → List ℕ
array_text n = words (codes "an array of " ∷ counted n (codes "item") (codes "items") ∷ [])

-- what a value is: the value itself, or what it is made of
abbrev pub found_text : Tree → List ℕ
found_text null = codes "null"
found_text (boolean b) = if b then codes "true" else codes "false"
found_text (number n) = n
found_text (text s) = shown_text s
found_text (list ts) = array_text (count_of ts)
found_text (object fs) = codes "an object"

-- a value has another form than these words say
abbrev pub unlike : (wanted : List ℕ) → Tree → List ℕ
unlike wanted t = words (codes "must be " ∷ wanted ∷ codes ", found " ∷ found_text t ∷ [])

-- a member has another form
abbrev pub member_unlike : (key wanted : List ℕ) → Tree → List ℕ
member_unlike key wanted t = words (text_json key ∷ codes " " ∷ unlike wanted t ∷ [])

-- a member that has to be there is missing
abbrev pub lacks : (key : List ℕ) → List ℕ
lacks key = words (text_json key ∷ codes " is missing" ∷ [])

-- a number within it is past the bound of numbers
abbrev pub past_bound : List ℕ
past_bound = codes "a number is past 100000000000000000000"

-- what is said where nothing more is known
abbrev pub breaks_rule : List ℕ
breaks_rule = codes "does not keep this rule"
