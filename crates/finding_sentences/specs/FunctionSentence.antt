-- Why an object is no legacy function of its property, V19, or reads what it may not, V17. Source: own.
use Rattle.std.specs.Prelude.{ℕ, ◌+◌, List, [], ◌∷◌, codes, decimal, Bool, true, false, not, ◌&&◌, ◌||◌, Option, Some}
use Rattle.std.specs.Prelude.{None, is_some, is_none, if◌then◌else◌}
use Rattle.std.specs.Str.{bytes_eq}
use Rattle.decimal_json.specs.Accessors.{is_text}
use Rattle.decimal_json.specs.JsonText.{text_json}
use Rattle.decimal_json.specs.Tree as json
use Rattle.decimal_json.specs.Tree.{Tree, list, object, Trees, no_trees, tree, Fields, no_fields, field, field_at}
use Rattle.legacy_functions.specs.Tokens.{has_tokens}
use Rattle.property_tables.specs.Literals.{literal_of}
use Rattle.property_tables.specs.Rows.{RowData}
use Rattle.style_parts.specs.Numbers.{number_in}
use Rattle.finding_sentences.specs.Wanted.{allowed_words, row_words, texts_listed}
use Rattle.finding_sentences.specs.Words.{is_one_of, lacks, member_unlike, unlike, words}
use Rattle.finding_sentences.specs.Pairs.{pair_of}

-- ---- what each member has to be

abbrev pub member_names : List (List ℕ)
member_names = codes "stops" ∷ codes "property" ∷ codes "base" ∷ codes "type" ∷ codes "default" ∷
    codes "colorSpace" ∷ []

abbrev pub type_names : List (List ℕ)
type_names = codes "exponential" ∷ codes "interval" ∷ codes "categorical" ∷ codes "identity" ∷ []

-- the first member of another name
abbrev pub other_member : Fields → Option (List ℕ)
other_member no_fields = None
other_member (field k t fs) = if is_one_of member_names k then other_member fs else Some k

abbrev pub is_type_name : Tree → Bool
is_type_name (json.text s) = is_one_of type_names s
is_type_name t = false

-- a number within the bound
abbrev pub is_number : Tree → Bool
is_number t = is_some (number_in t)

-- an output is a literal of the row, or a text with tokens where the row takes them
unfoldable pub is_output : RowData → Tree → Bool
is_output row (json.text s) = (row.takes_tokens && has_tokens s) || is_some (literal_of (json.text s) row)
is_output row t = is_some (literal_of t row)

-- a member that is there and has another form than this test says
abbrev pub is_unlike : (Tree → Bool) → Option Tree → Bool
is_unlike test (Some t) = not (test t)
is_unlike test None = false

abbrev pub is_type : List ℕ → Option Tree → Bool
is_type name (Some (json.text s)) = bytes_eq s name
is_type name _ = false

abbrev pub of_member : (key wanted : List ℕ) → Option Tree → List ℕ
of_member key wanted (Some t) = member_unlike key wanted t
of_member key wanted None = lacks key

-- ---- stops

-- an input is a number, and of a categorical function also a text or a truth value
unfoldable pub is_input : Bool → Tree → Bool
is_input any (json.number n) = is_number (json.number n)
is_input any (json.text s) = any
is_input any (json.boolean b) = any
is_input any _ = false

abbrev pub input_words : Bool → List ℕ
input_words true = codes "a number, a text, true or false"
input_words false = codes "a number"

abbrev pub has_two_members : Fields → Bool
has_two_members (field k t (field l u no_fields)) = true
has_two_members _ = false

abbrev pub is_zoomed_by : Bool → Option Tree → Option Tree → Bool
is_zoomed_by any (Some zoom) (Some value) = is_number zoom && is_input any value
is_zoomed_by any _ _ = false

-- with a zoom it is an object of exactly these two
unfoldable pub is_placed_input : Bool → Tree → Bool
is_placed_input any (object fs) =
    has_two_members fs && is_zoomed_by any (field_at (codes "zoom") fs) (field_at (codes "value") fs)
is_placed_input any t = is_input any t

abbrev pub placed_words : Bool → Tree → List ℕ
placed_words true (object fs) = codes "{\"zoom\": NUMBER, \"value\": INPUT}, and INPUT a number, a text, true or false"
placed_words false (object fs) = codes "{\"zoom\": NUMBER, \"value\": INPUT}, and INPUT a number"
placed_words any _ = input_words any

abbrev pub pair_in : Tree → Option (Tree × Tree)
pair_in (list ts) = pair_of ts
pair_in _ = None

abbrev pub is_pair : RowData → Bool → Option (Tree × Tree) → Bool
is_pair row any (Some p) = is_placed_input any p.0 && is_output row p.1
is_pair row any None = false

abbrev pub is_stop : RowData → Bool → Tree → Bool
is_stop row any t = is_pair row any (pair_in t)

unfoldable pub stop_part : (i : ℕ) → (part wanted : List ℕ) → Tree → List ℕ
stop_part i part wanted t =
    words (codes "\"stops\": the " ∷ part ∷ codes " of stop " ∷ decimal i ∷ codes " " ∷ unlike wanted t ∷ [])

-- of a stop at a place, counted from 0, that is none
abbrev pub pair_sentence : RowData → Bool → (i : ℕ) → (input output : Tree) → List ℕ
pair_sentence row any i input output =
    if is_placed_input any input then stop_part i (codes "output") (row_words row) output else
    stop_part i (codes "input") (placed_words any input) input

unfoldable pub no_stop : (i : ℕ) → Tree → List ℕ
no_stop i t = words (codes "\"stops\": stop " ∷ decimal i ∷ codes " " ∷ unlike (codes "[INPUT, OUTPUT]") t ∷ [])

abbrev pub pair_or : RowData → Bool → (i : ℕ) → Tree → Option (Tree × Tree) → List ℕ
pair_or row any i t (Some p) = pair_sentence row any i p.0 p.1
pair_or row any i t None = no_stop i t

abbrev pub stop_sentence : RowData → Bool → (i : ℕ) → Tree → List ℕ
stop_sentence row any i t = pair_or row any i t (pair_in t)

-- the sentence of the first that is none
abbrev pub stops_fault : RowData → Bool → (i : ℕ) → Trees → Option (List ℕ)
stops_fault row any i no_trees = None
stops_fault row any i (tree t ts) =
    if is_stop row any t then stops_fault row any (i + 1) ts else Some (stop_sentence row any i t)

-- a stop whose input is an object has a zoom
abbrev pub has_zoom : Tree → Bool
has_zoom (list (tree (object fs) ts)) = true
has_zoom _ = false

abbrev pub has_some : Bool → Trees → Bool
has_some zoomed no_trees = false
has_some zoomed (tree t ts) = (if zoomed then has_zoom t else not (has_zoom t)) || has_some zoomed ts

-- what is left: the order of inputs, and equal ones of a categorical function
abbrev pub order_sentence : Bool → List ℕ
order_sentence true = codes "\"stops\": inputs must not descend, and no input is given twice"
order_sentence false = codes "\"stops\": inputs must not descend"

abbrev pub formed_sentence : Bool → Bool → Trees → List ℕ
formed_sentence any has_property ts =
    if has_some true ts && not has_property then codes "\"stops\": inputs with a zoom need a \"property\"" else
    if has_some true ts && has_some false ts then codes "\"stops\": all inputs have a zoom, or none has one" else
    order_sentence any

abbrev pub fault_or_order : Option (List ℕ) → List ℕ → List ℕ
fault_or_order (Some sentence) order = sentence
fault_or_order None order = order

abbrev pub is_empty : Trees → Bool
is_empty no_trees = true
is_empty _ = false

abbrev pub stops_sentence : RowData → Bool → Bool → Option Tree → List ℕ
stops_sentence row any has_property None = lacks (codes "stops")
stops_sentence row any has_property (Some (list ts)) =
    if is_empty ts then member_unlike (codes "stops") (codes "an array of stops") (list ts) else
    fault_or_order (stops_fault row any 0 ts) (formed_sentence any has_property ts)
stops_sentence row any has_property (Some t) = member_unlike (codes "stops") (codes "an array of stops") t

-- ---- the members together

unfoldable pub row_unlike : (key : List ℕ) → RowData → Tree → List ℕ
row_unlike key row t = member_unlike key (row_words row) t

abbrev pub default_sentence : RowData → Option Tree → List ℕ
default_sentence row (Some t) = row_unlike (codes "default") row t
default_sentence row None = lacks (codes "default")

abbrev pub identity_sentence : List ℕ
identity_sentence = codes "an \"identity\" function has no \"stops\""

abbrev pub kind_sentence : RowData → Fields → List ℕ
kind_sentence row fs =
    if is_type (codes "exponential") (field_at (codes "type") fs) && not row.reads.ramps
    then codes "\"type\" is \"exponential\", and this property does not ramp: \"interval\" does" else
    if is_type (codes "categorical") (field_at (codes "type") fs) && is_none (field_at (codes "property") fs)
    then lacks (codes "property") else
    if is_type (codes "identity") (field_at (codes "type") fs) && is_none (field_at (codes "property") fs)
    then lacks (codes "property") else
    if is_type (codes "identity") (field_at (codes "type") fs) then identity_sentence else
    stops_sentence row (is_type (codes "categorical") (field_at (codes "type") fs))
    (is_some (field_at (codes "property") fs)) (field_at (codes "stops") fs)

abbrev pub known_sentence : RowData → Fields → List ℕ
known_sentence row fs =
    if is_unlike is_type_name (field_at (codes "type") fs)
    then of_member (codes "type") (words (codes "one of " ∷ texts_listed type_names ∷ []))
    (field_at (codes "type") fs) else
    if is_unlike is_number (field_at (codes "base") fs)
    then of_member (codes "base") (codes "a number") (field_at (codes "base") fs) else
    if is_unlike is_text (field_at (codes "property") fs)
    then of_member (codes "property") (codes "a text") (field_at (codes "property") fs) else
    if is_unlike (is_output row) (field_at (codes "default") fs)
    then default_sentence row (field_at (codes "default") fs) else
    kind_sentence row fs

unfoldable pub no_member : List ℕ → List ℕ
no_member key = words (codes "a function has no member " ∷ text_json key ∷ [])

abbrev pub members_sentence : RowData → Fields → Option (List ℕ) → List ℕ
members_sentence row fs (Some key) = no_member key
members_sentence row fs None = known_sentence row fs

-- V19
abbrev pub function_sentence : RowData → Fields → List ℕ
function_sentence row fs = members_sentence row fs (other_member fs)

-- V17: a function with a property reads the feature, and one without, or with zooms, reads the zoom
abbrev pub function_input : RowData → Fields → List ℕ
function_input row fs = words (codes "may read " ∷ allowed_words (Some row) ∷ codes ", found a function of the " ∷
    (if is_some (field_at (codes "property") fs) && not row.reads.feature then codes "feature" else codes "zoom") ∷ [])
