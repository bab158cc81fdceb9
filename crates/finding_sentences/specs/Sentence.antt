-- The sentence of a finding, read off its place and its rule: what is wanted there, and what was found. The cause is
-- found again from the document. Source: own.
use Rattle.std.specs.Prelude.{ℕ, List, [], ◌∷◌, codes, decimal, nat_eq, Bool, not, Option, Some, None, is_some}
use Rattle.std.specs.Prelude.{option_map, if◌then◌else◌}
use Rattle.std.specs.Option.{option_and_then}
use Rattle.std.specs.Str.{bytes_eq}
use Rattle.decimal_json.specs.Accessors.{fields_in, has, is_object, member, text_in}
use Rattle.decimal_json.specs.JsonText.{text_json}
use Rattle.decimal_json.specs.Tree.{Tree, text, list, object}
use Rattle.decimal_json.specs.declared.paths.PathPart.{PathPart}
use Rattle.decimal_json.specs.declared.paths.PathPart.TheVariants.{Key, Index}
use Rattle.prop_values.specs.declared.kinds.Want.TheVariants.{Boolean}
use Rattle.property_tables.specs.LayerTypes.{type_name}
use Rattle.property_tables.specs.Rows.{RowData, row_of}
use Rattle.property_tables.specs.declared.layer_type.LayerType.{LayerType}
use Rattle.property_tables.specs.declared.property_row.Place.{Place}
use Rattle.property_tables.specs.declared.property_row.Place.TheVariants.{Layout, Paint}
use Rattle.style_parts.specs.Parts.{layer_at, layers_of, source_at}
use Rattle.style_rules.specs.LayerContext.{source_types}
use Rattle.style_rules.specs.Rules.{count_of, sources_of_type}
use Rattle.value_forms.specs.LayerTypes.{layer_type, place_named}
use Rattle.finding_sentences.specs.ExpressionSentence.{expression_sentence, in_node, input_sentence, node_at}
use Rattle.finding_sentences.specs.ExpressionSentence.{zoom_sentence}
use Rattle.finding_sentences.specs.FilterSentence.{part_sentence}
use Rattle.finding_sentences.specs.FunctionSentence.{function_input, function_sentence}
use Rattle.finding_sentences.specs.LiteralSentence.{literal_sentence}
use Rattle.finding_sentences.specs.Wanted.{texts_listed}
use Rattle.finding_sentences.specs.Words.{breaks_rule, counted, found_text, lacks, member_unlike, past_bound, unlike}
use Rattle.finding_sentences.specs.Words.{words}

-- ---- the root

abbrev pub first_missing : List (List ℕ) → Tree → List ℕ
first_missing [] t = breaks_rule
first_missing (key ∷ keys) t = if has key t then first_missing keys t else lacks key

abbrev pub root_sentence : ℕ → Tree → List ℕ
root_sentence rule t =
    if nat_eq rule 1 then unlike (codes "an object") t else
    if nat_eq rule 2 then first_missing (codes "version" ∷ codes "sources" ∷ codes "layers" ∷ []) t else
    breaks_rule

-- ---- members of the root

unfoldable pub layer_count : ℕ → List ℕ
layer_count n = words (codes "must have at most 65536 layers, found " ∷ counted n (codes "item") (codes "items") ∷ [])

abbrev pub layers_sentence : Tree → List ℕ
layers_sentence (list ts) = layer_count (count_of ts)
layers_sentence t = unlike (codes "an array") t

abbrev pub member_sentence : ℕ → Tree → List ℕ
member_sentence rule t =
    if nat_eq rule 3 then unlike (codes "the number 8") t else
    if nat_eq rule 4 then unlike (codes "an object") t else
    if nat_eq rule 5 then layers_sentence t else
    if nat_eq rule 22 then unlike (codes "an object") t else
    breaks_rule

-- ---- sources, and names of the global state

abbrev pub source_types_words : List ℕ
source_types_words = words (codes "one of " ∷ texts_listed source_types ∷ [])

abbrev pub type_or_lacks : (wanted : List ℕ) → Option Tree → List ℕ
type_or_lacks wanted (Some t) = member_unlike (codes "type") wanted t
type_or_lacks wanted None = lacks (codes "type")

abbrev pub source_sentence : Tree → List ℕ
source_sentence t =
    if is_object t then type_or_lacks source_types_words (member (codes "type") t) else unlike (codes "an object") t

abbrev pub global_sentence : Tree → List ℕ
global_sentence t =
    if not (is_object t) then unlike (codes "an object with a \"default\"") t else
    if has (codes "default") t then past_bound else
    lacks (codes "default")

abbrev pub named_sentence : ℕ → Tree → List ℕ
named_sentence rule t =
    if nat_eq rule 4 then source_sentence t else
    if nat_eq rule 22 then global_sentence t else
    breaks_rule

-- ---- layers

abbrev pub ref_sentence : List ℕ
ref_sentence = codes "\"ref\" is not taken: in its place write the members of the layer that it names"

abbrev pub layer_sentence : ℕ → Tree → List ℕ
layer_sentence rule t =
    if nat_eq rule 6 then unlike (codes "an object") t else
    if nat_eq rule 7 then lacks (codes "id") else
    if nat_eq rule 9 then (if has (codes "ref") t then ref_sentence else lacks (codes "type")) else
    if nat_eq rule 10 then lacks (codes "source") else
    if nat_eq rule 12 then lacks (codes "source-layer") else
    breaks_rule

-- ---- members of a layer

abbrev pub layer_types : List (List ℕ)
layer_types =
    codes "background" ∷ codes "fill" ∷ codes "line" ∷ codes "symbol" ∷ codes "circle" ∷ codes "heatmap" ∷
    codes "fill-extrusion" ∷ codes "raster" ∷ codes "hillshade" ∷ codes "color-relief" ∷ []

unfoldable pub no_source : (name : List ℕ) → List ℕ
no_source name = words (codes "the style has no source " ∷ text_json name ∷ [])

abbrev pub source_name_sentence : Tree → List ℕ
source_name_sentence (text s) = no_source s
source_name_sentence t = unlike (codes "the name of a source") t

-- a layer of a type, and the type of the source that it names
unfoldable pub sources_wanted : LayerType → List ℕ
sources_wanted type = words (codes "one of " ∷ texts_listed (sources_of_type type) ∷ [])

unfoldable pub unsuited : LayerType → Tree → List ℕ
unsuited type source = words (
    codes "a layer of type " ∷ type_name type ∷
    codes " needs a source whose " ∷ member_unlike (codes "type") (sources_wanted type) source ∷ [])

unfoldable pub used_id : Tree → List ℕ
used_id t = words (codes "an earlier layer has the id " ∷ found_text t ∷ [])

abbrev pub suit_sentence : Option LayerType → Option Tree → List ℕ
suit_sentence (Some type) (Some source) = unsuited type source
suit_sentence _ _ = breaks_rule

abbrev pub source_type : Tree → Option (List ℕ) → Option Tree
source_type document (Some name) = option_and_then (member (codes "type")) (source_at document name)
source_type document None = None

abbrev pub layer_member_sentence : ℕ → Tree → (layer t : Tree) → List ℕ
layer_member_sentence rule document layer t =
    if nat_eq rule 7 then unlike (codes "a text") t else
    if nat_eq rule 8 then used_id t else
    if nat_eq rule 9 then unlike (words (codes "one of " ∷ texts_listed layer_types ∷ [])) t else
    if nat_eq rule 10 then source_name_sentence t else
    if nat_eq rule 11 then suit_sentence (layer_type layer) (source_type document (text_in t)) else
    if nat_eq rule 12 then unlike (codes "a text") t else
    if nat_eq rule 13 then unlike (codes "a number from 0 to 24") t else
    if nat_eq rule 14 then unlike (codes "an object") t else
    breaks_rule

-- ---- filters

abbrev pub filter_sentence : ℕ → Tree → List PathPart → List ℕ
filter_sentence rule t more =
    if nat_eq rule 16 then expression_sentence Boolean None t more else
    if nat_eq rule 17 then in_node (node_at more t) (input_sentence None) else
    if nat_eq rule 20 then in_node (node_at more t) part_sentence else
    breaks_rule

-- ---- properties

abbrev pub other_place : Place → Place
other_place Layout = Paint
other_place Paint = Layout

abbrev pub place_name : Place → List ℕ
place_name Layout = codes "layout"
place_name Paint = codes "paint"

unfoldable pub place_hint : Place → List ℕ
place_hint place = words (codes ", and it is one of its " ∷ place_name place ∷ [])

abbrev pub other_hint : Bool → Place → List ℕ
other_hint there place = if there then place_hint place else []

unfoldable pub is_property : LayerType → Place → (name : List ℕ) → Bool
is_property type place name = is_some (row_of type place name)

-- a name that no row has there
abbrev pub unknown_sentence : LayerType → Place → (name : List ℕ) → List ℕ
unknown_sentence type place name = words (
    text_json name ∷ codes " is no property of the " ∷ place_name place ∷ codes " of a layer of type " ∷
    type_name type ∷
    other_hint (is_property type (other_place place) name) (other_place place) ∷ [])

abbrev pub row_input : RowData → Tree → List PathPart → List ℕ
row_input row (object fs) more = function_input row fs
row_input row t more = in_node (node_at more t) (input_sentence (Some row))

abbrev pub row_function : RowData → Tree → List ℕ
row_function row (object fs) = function_sentence row fs
row_function row t = breaks_rule

-- of the value of a row
abbrev pub value_sentence : ℕ → RowData → Tree → List PathPart → List ℕ
value_sentence rule row t more =
    if nat_eq rule 15 then literal_sentence row t else
    if nat_eq rule 16 then expression_sentence row.want (Some row) t more else
    if nat_eq rule 17 then row_input row t more else
    if nat_eq rule 18 then zoom_sentence else
    if nat_eq rule 19 then row_function row t else
    breaks_rule

abbrev pub row_sentence : ℕ → Option RowData → Tree → List PathPart → List ℕ
row_sentence rule (Some row) t more = value_sentence rule row t more
row_sentence rule None t more = if nat_eq rule 21 then unlike (codes "an object") t else breaks_rule

abbrev pub property_sentence : ℕ → LayerType → Place → (name : List ℕ) → Tree → List PathPart → List ℕ
property_sentence rule type place name t more =
    if nat_eq rule 14 then unknown_sentence type place name else
    row_sentence rule (option_map (λ (found : ℕ × RowData). found.1) (row_of type place name)) t more

abbrev pub placed_sentence : ℕ → Option LayerType → Option Place → (name : List ℕ) → Option Tree →
    List PathPart → List ℕ
placed_sentence rule (Some type) (Some place) name (Some t) more = property_sentence rule type place name t more
placed_sentence rule _ _ name _ more = breaks_rule

-- ---- by the path

-- a member of a layer that is there, by what follows its key
abbrev pub in_layer_sentence : ℕ → Tree → (layer : Tree) → (key : List ℕ) → Tree → List PathPart → List ℕ
in_layer_sentence rule document layer key t [] =
    if bytes_eq key (codes "filter") then filter_sentence rule t [] else layer_member_sentence rule document layer t
in_layer_sentence rule document layer key t (Key name ∷ more) =
    placed_sentence rule (layer_type layer) (place_named key) name (member name t) more
in_layer_sentence rule document layer key t (Index i ∷ more) =
    if bytes_eq key (codes "filter") then filter_sentence rule t (Index i ∷ more) else breaks_rule

abbrev pub layer_part_sentence : ℕ → Tree → List PathPart → (layer : Tree) → List ℕ
layer_part_sentence rule document [] layer = layer_sentence rule layer
layer_part_sentence rule document (Key key ∷ more) layer =
    in_node (member key layer) (λ t. in_layer_sentence rule document layer key t more)
layer_part_sentence rule document (Index i ∷ more) layer = breaks_rule

abbrev pub sentence : Tree → List PathPart → ℕ → List ℕ
sentence document [] rule = root_sentence rule document
sentence document (Key k ∷ []) rule = in_node (member k document) (member_sentence rule)
sentence document (Key k ∷ Key name ∷ more) rule =
    in_node (option_and_then (member name) (member k document)) (named_sentence rule)
sentence document (Key k ∷ Index i ∷ more) rule =
    in_node (layer_at i (layers_of document)) (layer_part_sentence rule document more)
sentence document (Index i ∷ more) rule = breaks_rule

-- with the rule after it; of V16 the sentence has the code too
abbrev pub marked_sentence : Tree → List PathPart → ℕ → List ℕ
marked_sentence document path rule =
    if nat_eq rule 16 then sentence document path rule else
    words (sentence document path rule ∷ codes " [V" ∷ decimal rule ∷ codes "]" ∷ [])
