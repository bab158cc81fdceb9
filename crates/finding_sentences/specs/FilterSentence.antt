-- Why a legacy filter does not have its form, V20, at the part where it has not. Source: own.
use Rattle.std.specs.Prelude.{ℕ, List, [], ◌∷◌, codes, nat_eq, Bool, true, false, not, ◌&&◌, ◌||◌, Option, Some, None}
use Rattle.std.specs.Prelude.{is_some, if◌then◌else◌}
use Rattle.std.specs.Str.{bytes_eq}
use Rattle.decimal_json.specs.JsonText.{text_json}
use Rattle.decimal_json.specs.Tree.{Tree, boolean, number, text, list, Trees, no_trees, tree}
use Rattle.expr_syntax.specs.Elements.{after_head, head_text}
use Rattle.style_parts.specs.Numbers.{number_in}
use Rattle.style_rules.specs.Rules.{count_of}
use Rattle.finding_sentences.specs.Wanted.{texts_listed}
use Rattle.finding_sentences.specs.Words.{breaks_rule, counted, is_one_of, unlike, words}

abbrev pub groups : List (List ℕ)
groups = codes "all" ∷ codes "any" ∷ codes "none" ∷ []

-- tests of a key alone, of a key and one value, and of a key and values
abbrev pub key_tests : List (List ℕ)
key_tests = codes "has" ∷ codes "!has" ∷ []

abbrev pub value_tests : List (List ℕ)
value_tests = codes "==" ∷ codes "!=" ∷ codes "<" ∷ codes "<=" ∷ codes ">" ∷ codes ">=" ∷ []

abbrev pub orders : List (List ℕ)
orders = codes "<" ∷ codes "<=" ∷ codes ">" ∷ codes ">=" ∷ []

abbrev pub list_tests : List (List ℕ)
list_tests = codes "in" ∷ codes "!in" ∷ []

unfoldable pub is_key_test : List ℕ → Bool
is_key_test name = is_one_of key_tests name

unfoldable pub is_value_test : List ℕ → Bool
is_value_test name = is_one_of value_tests name

unfoldable pub is_order : List ℕ → Bool
is_order name = is_one_of orders name

unfoldable pub is_list_test : List ℕ → Bool
is_list_test name = is_one_of list_tests name

unfoldable pub is_group : List ℕ → Bool
is_group name = is_one_of groups name

abbrev pub shapes : List (List ℕ)
shapes = codes "Point" ∷ codes "LineString" ∷ codes "Polygon" ∷ []

unfoldable pub is_shape_key : List ℕ → Bool
is_shape_key key = bytes_eq key (codes "$type")

abbrev pub is_named_shape : Tree → Bool
is_named_shape (text s) = is_one_of shapes s
is_named_shape _ = false

-- a value that is tested for
abbrev pub is_scalar : Tree → Bool
is_scalar (boolean b) = true
is_scalar (text s) = true
is_scalar (number n) = is_some (number_in (number n))
is_scalar _ = false

-- what a value of a test of this key is
abbrev pub is_value : List ℕ → Tree → Bool
is_value key t = if is_shape_key key then is_named_shape t else is_scalar t

abbrev pub value_words : List ℕ → List ℕ
value_words key =
    if is_shape_key key then words (codes "one of " ∷ texts_listed shapes ∷ []) else
    codes "a text, a number, true or false"

-- the first of these that is no value
abbrev pub first_other : List ℕ → Trees → Option Tree
first_other key no_trees = None
first_other key (tree t ts) = if is_value key t then first_other key ts else Some t

abbrev pub other_or_rule : (name key : List ℕ) → Option Tree → List ℕ
other_or_rule name key (Some t) =
    words (codes "a value of " ∷ text_json name ∷ codes " " ∷ unlike (value_words key) t ∷ [])
other_or_rule name key None = breaks_rule

unfoldable pub takes_sentence : (name : List ℕ) → (wanted : List ℕ) → ℕ → List ℕ
takes_sentence name wanted found =
    words (text_json name ∷ codes " takes " ∷ wanted ∷ codes ", found a key and " ∷
    counted found (codes "value") (codes "values") ∷ [])

-- by the elements after the key
abbrev pub keyed_sentence : (name key : List ℕ) → Trees → List ℕ
keyed_sentence name key ts =
    if is_key_test name then takes_sentence name (codes "a key alone") (count_of ts) else
    if is_value_test name && not (nat_eq (count_of ts) 1)
    then takes_sentence name (codes "a key and one value") (count_of ts) else
    if is_order name && is_shape_key key then codes "\"$type\" has no order" else
    other_or_rule name key (first_other key ts)

abbrev pub test_sentence : (name : List ℕ) → Trees → List ℕ
test_sentence name (tree (text key) ts) = keyed_sentence name key ts
test_sentence name (tree t ts) =
    words (codes "the key of " ∷ text_json name ∷ codes " " ∷ unlike (codes "a text in a legacy filter") t ∷ [])
test_sentence name no_trees = words (text_json name ∷ codes " needs a key" ∷ [])

abbrev pub is_test : List ℕ → Bool
is_test name = is_key_test name || (is_value_test name || is_list_test name)

abbrev pub named_sentence : (name : List ℕ) → Trees → List ℕ
named_sentence name ts =
    if is_group name then codes "more than 24 of \"all\", \"any\" and \"none\" are one in the other" else
    if is_test name then test_sentence name ts else
    words (text_json name ∷ codes " is no test of a legacy filter" ∷ [])

abbrev pub no_filter : Tree → List ℕ
no_filter t = unlike (codes "a filter, as [\"==\", KEY, VALUE]") t

abbrev pub headed_sentence : Option (List ℕ) → Trees → List ℕ
headed_sentence (Some name) ts = named_sentence name (after_head ts)
headed_sentence None ts = no_filter (list ts)

abbrev pub part_sentence : Tree → List ℕ
part_sentence (list ts) = headed_sentence (head_text ts) ts
part_sentence t = no_filter t
