-- What may go wrong in an evaluation, and what is to be written so that it cannot. Source: own.
use Rattle.std.specs.Prelude.{ℕ, zero, suc, ◌+◌, List, [], ◌∷◌, flat_map, codes, Bool, ◌||◌, Option, Some, None}
use Rattle.std.specs.Prelude.{is_some, if◌then◌else◌}
use Rattle.std.specs.Option.{option_and_then}
use Rattle.color_values.specs.ColorOf.{color_of}
use Rattle.decimal_json.specs.Accessors.{member}
use Rattle.decimal_json.specs.JsonText.{text_json}
use Rattle.decimal_json.specs.Tree.{Tree, null, boolean, number, text, list, object, Trees, no_trees, tree}
use Rattle.decimal_json.specs.declared.paths.PathPart.{PathPart}
use Rattle.decimal_json.specs.declared.paths.PathPart.TheVariants.{Key, Index}
use Rattle.prop_values.specs.Choices.{choice_holds, texts_of}
use Rattle.prop_values.specs.declared.choice.Choice.{Choice}
use Rattle.prop_values.specs.Faults.{holds}
use Rattle.prop_values.specs.declared.fault.EvalFault.{EvalFault}
use Rattle.prop_values.specs.declared.fault.EvalFault.TheVariants.{WrongType, NotColor, NotNumberText, IndexOutside}
use Rattle.prop_values.specs.declared.fault.EvalFault.TheVariants.{IndexNotWhole, DivideByZero, Overflow, ColorRange}
use Rattle.prop_values.specs.declared.fault.EvalFault.TheVariants.{NotOrdered, NotInEnum}
use Rattle.prop_values.specs.declared.fault.FaultSet.{FaultSet}
use Rattle.prop_values.specs.declared.kinds.Want.{Want}
use Rattle.prop_values.specs.declared.kinds.Want.TheVariants as wants
use Rattle.property_tables.specs.Rows.{RowData, row_of}
use Rattle.property_tables.specs.declared.layer_type.LayerType.{LayerType}
use Rattle.property_tables.specs.declared.property_row.Place.{Place}
use Rattle.expr_syntax.specs.Elements.{head_name}
use Rattle.expr_syntax.specs.Names.{row}
use Rattle.expr_syntax.specs.Operators.{want_of}
use Rattle.expr_syntax.specs.Rows.{OperatorRow, element_place, wanted}
use Rattle.expr_syntax.specs.declared.names.Name.{Name}
use Rattle.style_parts.specs.Parts.{layer_at, layers_of}
use Rattle.style_rules.specs.Findings.{every_fault}
use Rattle.style_rules.specs.Rules.{count_of}
use Rattle.value_forms.specs.LayerTypes.{layer_type, place_named}
use Rattle.finding_sentences.specs.ExpressionSentence.{arguments_before, handed_by, is_argument}
use Rattle.finding_sentences.specs.Wanted.{texts_listed}
use Rattle.finding_sentences.specs.Words.{words}

-- ---- a text of an expression that is not what is wanted there

unfoldable pub none_of : List ℕ → Choice → List ℕ
none_of s choice = words (text_json s ∷ codes " is none of " ∷ texts_listed (texts_of choice) ∷ [])

abbrev pub text_fault : Want → List ℕ → Option (List ℕ)
text_fault wants.Color s = if is_some (color_of s) then None else Some (words (text_json s ∷ codes " is no color" ∷ []))
text_fault (wants.Enum choice) s = if choice_holds choice s then None else Some (none_of s choice)
text_fault _ s = None

abbrev pub first_or : Option (List ℕ) → Option (List ℕ) → Option (List ℕ)
first_or (Some s) later = Some s
first_or None later = later

-- the sentence of the first such text, by what the expression is wanted as
abbrev pub Search : Type 0
Search = Want → Option (List ℕ)

-- of the elements of a node from place i on: it has n elements and m arguments, and the next argument is of number k
abbrev pub in_elements : OperatorRow → (n m i k : ℕ) → List Search → Want → Option (List ℕ)
in_elements r n m i k [] want = None
in_elements r n m i k (search ∷ searches) want =
    if is_argument (element_place r.layout n i)
    then first_or (search (want_of (wanted r.wants m k) (handed_by r.layout want)))
    (in_elements r n m (i + 1) (k + 1) searches want)
    else in_elements r n m (i + 1) k searches want

abbrev pub in_node : Option Name → (n : ℕ) → List Search → Search
in_node (Some name) n searches want =
    in_elements (row name) n (arguments_before (row name).layout n n) 0 0 searches want
in_node None n searches want = None

abbrev mutual
  pub misspelled : Tree → Search
  misspelled null = λ want. None
  misspelled (boolean b) = λ want. None
  misspelled (number n) = λ want. None
  misspelled (text s) = λ want. text_fault want s
  misspelled (list ts) = λ want. in_node (head_name ts) (count_of ts) (misspelled_each ts) want
  misspelled (object fs) = λ want. None

  pub misspelled_each : Trees → List Search
  misspelled_each no_trees = []
  misspelled_each (tree t ts) = misspelled t ∷ misspelled_each ts

-- ---- the value of a property at a path

abbrev pub in_row : Option (ℕ × RowData) → Option Tree → Option (List ℕ)
in_row (Some found) (Some t) = misspelled t found.1.want
in_row _ _ = None

abbrev pub in_place : Option LayerType → Option Place → (name : List ℕ) → Option Tree → Option (List ℕ)
in_place (Some type) (Some place) name t = in_row (row_of type place name) t
in_place _ _ name t = None

abbrev pub in_layer : (key name : List ℕ) → Option Tree → Option (List ℕ)
in_layer key name (Some layer) =
    in_place (layer_type layer) (place_named key) name (option_and_then (member name) (member key layer))
in_layer key name None = None

abbrev pub misspelled_at : Tree → List PathPart → Option (List ℕ)
misspelled_at document (Key k ∷ Index i ∷ Key key ∷ Key name ∷ []) = in_layer key name (layer_at i (layers_of document))
misspelled_at document path = None

-- ---- the faults of an evaluation

abbrev pub fault_sentence : EvalFault → List ℕ
fault_sentence WrongType = codes "a value may have another type, or be missing: [\"number\", X, 0], [\"string\", X, \"\"], [\"boolean\", X, false] or [\"to-color\", X, \"red\"] has a value for that"
fault_sentence NotColor = codes "a text may be no color: [\"to-color\", X, \"red\"] has a color for that"
fault_sentence NotNumberText = codes "a text may be no number: [\"to-number\", X, 0] has a number for that"
fault_sentence IndexOutside = codes "an index may be outside of the list"
fault_sentence IndexNotWhole = codes "an index may have a fraction: [\"floor\", X] has none"
fault_sentence DivideByZero = codes "a divisor may be 0"
fault_sentence Overflow = codes "a number may be past 100000000000000000000"
fault_sentence ColorRange = codes "a part of a color may be out of its range"
fault_sentence NotOrdered =
    codes "values that have no order may be compared: [\"number\", X, 0] or [\"string\", X, \"\"] has one"
fault_sentence NotInEnum = codes "a text may be none that the property takes: the outputs of a \"match\" are known"

-- of each fault in the set, in order of number
abbrev pub fault_part : FaultSet → EvalFault → List ℕ
fault_part faults fault = if holds faults fault then words (codes "; " ∷ fault_sentence fault ∷ []) else []

-- first a text that is misspelled, where one may be the cause
abbrev pub opening : Option (List ℕ) → List ℕ
opening (Some sentence) = sentence
opening None = codes "the evaluation may fail"

abbrev pub opening_of : Bool → Tree → List PathPart → List ℕ
opening_of texts document path = if texts then opening (misspelled_at document path) else opening None

abbrev pub may_sentence : Tree → List PathPart → FaultSet → List ℕ
may_sentence document path faults =
    words (opening_of (holds faults NotColor || holds faults NotInEnum) document path ∷
    flat_map (fault_part faults) every_fault ∷ [])
