-- Why an expression is not read or not well typed, V16, or reads what it may not, V17 and V18. Source: own.
use Rattle.std.specs.Prelude.{ℕ, zero, suc, ◌+◌, ◌-◌, List, [], ◌∷◌, codes, decimal, nat_eq, nat_lt, Bool, true, false}
use Rattle.std.specs.Prelude.{Option, Some, None, option_map, Result, Ok, Err, if◌then◌else◌}
use Rattle.std.specs.Option.{option_and_then}
use Rattle.decimal_json.specs.JsonText.{text_json}
use Rattle.decimal_json.specs.Tree.{Tree, list, object, Trees, no_trees, tree, field_at}
use Rattle.decimal_json.specs.declared.paths.PathPart.{PathPart}
use Rattle.decimal_json.specs.declared.paths.PathPart.TheVariants.{Key, Index}
use Rattle.prop_values.specs.declared.kinds.Kind.{Kind}
use Rattle.prop_values.specs.declared.kinds.Want.{Want}
use Rattle.property_tables.specs.Rows.{RowData}
use Rattle.expr_syntax.specs.Elements.{after_head, head_name, head_text, option_named, second_text}
use Rattle.expr_syntax.specs.FaultName.{code_name as read_name}
use Rattle.expr_syntax.specs.Names.{row}
use Rattle.expr_syntax.specs.Operators.{ramp_want, role_want, want_of}
use Rattle.expr_syntax.specs.Reading.{Reading, reading}
use Rattle.expr_syntax.specs.Rows.{OperatorRow, element_place, wanted}
use Rattle.expr_syntax.specs.declared.fault.SynCode.{SynCode}
use Rattle.expr_syntax.specs.declared.fault.SynCode.TheVariants as faults
use Rattle.expr_syntax.specs.declared.names.Name.{Name}
use Rattle.expr_syntax.specs.declared.rows.Arity.{Arity}
use Rattle.expr_syntax.specs.declared.rows.Arity.TheVariants.{Exactly, Between, AtLeast, OddFrom, EvenFrom}
use Rattle.expr_syntax.specs.declared.rows.ElementLayout.{ElementLayout}
use Rattle.expr_syntax.specs.declared.rows.ElementLayout.TheVariants as layouts
use Rattle.expr_syntax.specs.declared.rows.ElementPlace.{ElementPlace}
use Rattle.expr_syntax.specs.declared.rows.ElementPlace.TheVariants.{Part}
use Rattle.expr_types.specs.Checked.{checked, checked_free}
use Rattle.expr_types.specs.FaultName.{code_name as typed_name}
use Rattle.expr_types.specs.Typing.{Typed}
use Rattle.expr_types.specs.declared.fault.TypeCode.{TypeCode}
use Rattle.expr_types.specs.declared.fault.TypeCode.TheVariants as codes_of_types
use Rattle.style_parts.specs.Parts.{layer_at}
use Rattle.style_rules.specs.Rules.{count_of}
use Rattle.finding_sentences.specs.Pairs.{pair_of}
use Rattle.finding_sentences.specs.Wanted.{allowed_words, kind_words, want_words}
use Rattle.finding_sentences.specs.Words.{breaks_rule, counted, found_text, past_bound, words}

-- ---- the node at a path of an expression

abbrev pub child : PathPart → Tree → Option Tree
child (Index i) (list ts) = layer_at i ts
child (Key key) (object fs) = field_at key fs
child _ _ = None

abbrev pub node_at : List PathPart → Tree → Option Tree
node_at [] t = Some t
node_at (part ∷ path) t = option_and_then (node_at path) (child part t)

-- the operator of a node as it is written, and the value itself where it is none
abbrev pub operator_or_value : Option (List ℕ) → Tree → List ℕ
operator_or_value (Some name) t = text_json name
operator_or_value None t = found_text t

abbrev pub node_text : Tree → List ℕ
node_text (list ts) = operator_or_value (head_text ts) (list ts)
node_text t = found_text t

-- ---- how many arguments an operator takes

abbrev pub arguments : ℕ → List ℕ
arguments n = counted n (codes "argument") (codes "arguments")

abbrev pub between_words : (least most : ℕ) → List ℕ
between_words least most = if nat_eq least (most - 1) then codes " or " else codes " to "

unfoldable pub odd_arguments : ℕ → List ℕ
odd_arguments n = words (codes "an odd number of arguments, at least " ∷ decimal n ∷ [])

unfoldable pub even_arguments : ℕ → List ℕ
even_arguments n = words (codes "an even number of arguments, at least " ∷ decimal n ∷ [])

abbrev pub arity_words : Arity → List ℕ
arity_words (Exactly n) = arguments n
arity_words (Between least most) = words (decimal least ∷ between_words least most ∷ arguments most ∷ [])
arity_words (AtLeast n) = words (codes "at least " ∷ arguments n ∷ [])
arity_words (OddFrom n) = odd_arguments n
arity_words (EvenFrom n) = even_arguments n

-- what these are, where it is no plain list of arguments
abbrev pub layout_words : ElementLayout → List ℕ
layout_words layouts.Cases = codes " (a condition and an output in turn, and a last output)"
layout_words layouts.Labels = codes " (an input, labels and an output in turn, and a last output)"
layout_words layouts.Stops = codes " (an input, an output, then an input and an output in turn)"
layout_words layouts.Ramp = codes " (a curve, an input, then an input and an output in turn)"
layout_words layouts.Bindings = codes " (a name and a value in turn, and a last value)"
layout_words _ = []

abbrev pub arity_sentence : OperatorRow → ℕ → List ℕ
arity_sentence r found =
    words (r.text ∷ codes " takes " ∷ arity_words r.arity ∷ layout_words r.layout ∷ codes ", found " ∷
    decimal found ∷ [])

-- ---- what the parts of an operator are

abbrev pub part_words : ElementLayout → List ℕ
part_words layouts.Items =
    codes "the items are \"string\", \"number\" or \"boolean\", and their count is a whole number"
part_words layouts.Labels = codes "labels are texts or whole numbers, or arrays of these, and no label is given twice"
part_words layouts.Stops = codes "the inputs of stops are numbers and must ascend"
part_words layouts.Ramp =
    codes "the curve is [\"linear\"] or [\"exponential\", BASE], and the inputs of stops are numbers and must ascend"
part_words layouts.Bindings = codes "the names are texts of letters, digits and _"
part_words layouts.Variable = codes "the name is a text"
part_words layouts.Global = codes "the name is a text"
part_words _ = codes "a part has another form"

abbrev pub part_sentence : OperatorRow → List ℕ
part_sentence r = words (r.text ∷ codes ": " ∷ part_words r.layout ∷ [])

-- ---- faults of reading, at a node

abbrev pub name_or_rule : (before : List ℕ) → Option (List ℕ) → (after : List ℕ) → List ℕ
name_or_rule before (Some name) after = words (before ∷ text_json name ∷ after ∷ [])
name_or_rule before None after = breaks_rule

abbrev pub row_or_rule : Option Name → (OperatorRow → List ℕ) → List ℕ
row_or_rule (Some name) sentence = sentence (row name)
row_or_rule None sentence = breaks_rule

abbrev pub elements_of : Tree → Trees
elements_of (list ts) = ts
elements_of _ = no_trees

abbrev pub read_sentence : SynCode → Trees → List ℕ
read_sentence faults.NoOperator ts =
    codes "an expression begins with the name of an operator, and a list of values is written [\"literal\", [..]]"
read_sentence faults.UnknownOperator ts = name_or_rule [] (head_text ts) (codes " is no operator")
read_sentence faults.Arity ts = row_or_rule (head_name ts) (λ r. arity_sentence r (count_of ts - 1))
read_sentence faults.Part ts = row_or_rule (head_name ts) part_sentence
read_sentence faults.BareObject ts = codes "an object is no expression, and is written [\"literal\", {..}]"
read_sentence faults.NumberRange ts = past_bound
read_sentence faults.UnknownVar ts = name_or_rule (codes "no \"let\" around it binds ") (second_text ts) []

-- ---- what an argument is wanted as

abbrev pub is_argument : ElementPlace → Bool
is_argument Part = false
is_argument _ = true

-- how many of the first elements of n are arguments
abbrev pub arguments_before : ElementLayout → (n : ℕ) → ℕ → ℕ
arguments_before layout n zero = 0
arguments_before layout n (suc i) =
    if is_argument (element_place layout n i) then suc (arguments_before layout n i) else arguments_before layout n i

abbrev pub handed_by : ElementLayout → Want → Want
handed_by layouts.Ramp want = ramp_want want
handed_by _ want = want

abbrev pub element_want : OperatorRow → (n i : ℕ) → Want → Want
element_want r n i want =
    want_of (wanted r.wants (arguments_before r.layout n n) (arguments_before r.layout n i)) (handed_by r.layout want)

-- what a node is wanted as: fitted to a want, or a text or a list
pub record WantedNode : Type 0 where
  pub want : Want
  pub is_sequence : Bool

abbrev pub is_place : Option ℕ → ℕ → Bool
is_place (Some place) k = nat_eq k place
is_place None k = false

abbrev pub wanted_element : OperatorRow → (n i : ℕ) → Want → WantedNode
wanted_element r n i want =
    record { want = element_want r n i want; is_sequence = is_place r.sequence (arguments_before r.layout n i) }

abbrev pub fitted_to : Want → WantedNode
fitted_to want = record { want = want; is_sequence = false }

-- an element of a node that is wanted as this, or an option of a `format`; nothing where it is neither
abbrev pub wanted_child : PathPart → Tree → Want → Option WantedNode
wanted_child (Index i) (list ts) want =
    if nat_lt i (count_of ts) then option_map (λ name. wanted_element (row name) (count_of ts) i want)
    (head_name ts) else None
wanted_child (Key key) (object fs) want = option_map (λ role. fitted_to (role_want role)) (option_named key)
wanted_child _ _ want = None

-- the node at a path of an expression that is wanted as this
abbrev pub wanted_at : List PathPart → Option Tree → Option WantedNode → Option WantedNode
wanted_at [] t wanted = wanted
wanted_at (part ∷ path) (Some t) (Some wanted) = wanted_at path (child part t) (wanted_child part t wanted.want)
wanted_at (part ∷ path) _ _ = None

abbrev pub wanted_words : WantedNode → List ℕ
wanted_words wanted = if wanted.is_sequence then codes "a text or an array" else want_words wanted.want

-- ---- faults of types, at a node

-- what an expression gives by itself, where it can be typed by itself
abbrev pub kind_typed : Typed → Option Kind
kind_typed (Ok found) = Some found.node.kind
kind_typed (Err fault) = None

abbrev pub kind_read : Reading → Option Kind
kind_read (Ok (Some t)) = kind_typed (checked_free t)
kind_read _ = None

abbrev pub kind_alone : Tree → Option Kind
kind_alone t = kind_read (reading t)

abbrev pub kind_sentence : Option WantedNode → Option Kind → List ℕ
kind_sentence (Some wanted) (Some kind) =
    words (codes "must be " ∷ wanted_words wanted ∷ codes ", found " ∷ kind_words kind ∷ [])
kind_sentence (Some wanted) None = words (codes "must be " ∷ wanted_words wanted ∷ [])
kind_sentence None kind = breaks_rule

unfoldable pub both_kinds : Tree → Kind → Kind → List ℕ
both_kinds node j k =
    words (node_text node ∷ codes " cannot compare " ∷ kind_words j ∷ codes " with " ∷ kind_words k ∷ [])

unfoldable pub no_kinds : Tree → List ℕ
no_kinds node = words (node_text node ∷ codes " cannot compare values of these types" ∷ [])

-- what is compared, where both can be typed by themselves
abbrev pub compared_kinds : Tree → Option Kind → Option Kind → List ℕ
compared_kinds node (Some j) (Some k) = both_kinds node j k
compared_kinds node _ _ = no_kinds node

abbrev pub compared_pair : Tree → Option (Tree × Tree) → List ℕ
compared_pair node (Some p) = compared_kinds node (kind_alone p.0) (kind_alone p.1)
compared_pair node None = compared_kinds node None None

abbrev pub compared_sentence : Tree → Trees → List ℕ
compared_sentence node ts = compared_pair node (pair_of (after_head ts))

abbrev pub typed_sentence : TypeCode → Option WantedNode → Tree → List ℕ
typed_sentence codes_of_types.Kind wanted node = kind_sentence wanted (kind_alone node)
typed_sentence codes_of_types.NotInterpolable wanted node =
    codes "only numbers, colors and arrays of numbers can be interpolated"
typed_sentence codes_of_types.NotComparable wanted node = compared_sentence node (elements_of node)
typed_sentence _ wanted node = breaks_rule

-- ---- V16: the first fault of an expression under a want

abbrev pub in_node : Option Tree → (Tree → List ℕ) → List ℕ
in_node (Some node) sentence = sentence node
in_node None sentence = breaks_rule

-- with the code of the fault
abbrev pub coded : (sentence code : List ℕ) → List ℕ
coded sentence code = words (sentence ∷ codes " [V16 " ∷ code ∷ codes "]" ∷ [])

-- `node` is the node at the path
abbrev pub check_sentence : Want → Tree → List PathPart → (node : Tree) → Typed → List ℕ
check_sentence want t more node (Ok found) = breaks_rule
check_sentence want t more node (Err fault) =
    coded (typed_sentence fault.code (wanted_at more (Some t) (Some (fitted_to want))) node) (typed_name fault.code)

abbrev pub fault_sentence : Want → Option RowData → Tree → List PathPart → (node : Tree) → Reading → List ℕ
fault_sentence want row t more node (Ok (Some term)) = check_sentence want t more node (checked term want row)
fault_sentence want row t more node (Ok None) = breaks_rule
fault_sentence want row t more node (Err fault) =
    coded (read_sentence fault.code (elements_of node)) (read_name fault.code)

abbrev pub expression_sentence : Want → Option RowData → Tree → List PathPart → List ℕ
expression_sentence want row t more = in_node (node_at more t) (λ node. fault_sentence want row t more node (reading t))

-- ---- V17: what a node reads

abbrev pub input_sentence : Option RowData → Tree → List ℕ
input_sentence row node = words (codes "may read " ∷ allowed_words row ∷ codes ", found " ∷ node_text node ∷ [])

-- ---- V18

abbrev pub zoom_sentence : List ℕ
zoom_sentence =
    codes "[\"zoom\"] is the input of a \"step\" or \"interpolate\" that is the whole value, and is there once"
