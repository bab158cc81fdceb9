-- What a JSON tree reads as: an expression, that it is outside, or its first fault in document order, of two
-- at one node the lesser. Source: MapLibre style specification, version 8, expressions.
use Rattle.std.specs.Prelude.{ℕ, ◌+◌, ◌-◌, ℤ, List, [], ◌∷◌, ◌++◌, length, Bool, true, false, not, nat_eq, is_none}
use Rattle.std.specs.Prelude.{Option, Some, None, Result, Ok, Err, if◌then◌else◌}
use Rattle.decimal_json.specs.Tree.{Tree, null, boolean, number, text, list, object, Trees, no_trees, tree, Fields}
use Rattle.decimal_json.specs.Tree.{no_fields, field}
use Rattle.decimal_json.specs.declared.paths.PathPart.{PathPart}
use Rattle.decimal_json.specs.declared.paths.PathPart.TheVariants as parts
use Rattle.fixed_num.specs.declared.decimal.NumFault.{NumFault}
use Rattle.fixed_num.specs.Decimal.{read_text}
use Rattle.prop_values.specs.Data as values
use Rattle.prop_values.specs.Data.{Data, Pairs, no_pairs, pair}
use Rattle.prop_values.specs.JsonData.{json_data}
use Rattle.expr_syntax.specs.declared.fault.SynFault.{SynFault}
use Rattle.expr_syntax.specs.declared.fault.SynCode.{SynCode}
use Rattle.expr_syntax.specs.declared.fault.SynCode.TheVariants as code
use Rattle.expr_syntax.specs.declared.names.Name.{Name}
use Rattle.expr_syntax.specs.declared.rows.ElementLayout.{ElementLayout}
use Rattle.expr_syntax.specs.declared.rows.ElementLayout.TheVariants.{Value, Global}
use Rattle.expr_syntax.specs.declared.rows.ElementPlace.{ElementPlace}
use Rattle.expr_syntax.specs.declared.rows.ElementPlace.TheVariants.{Part}
use Rattle.expr_syntax.specs.declared.expression.Operator.{Operator}
use Rattle.expr_syntax.specs.declared.expression.Operator.TheVariants as operators
use Rattle.expr_syntax.specs.declared.parts.Role.{Role}
use Rattle.expr_syntax.specs.declared.parts.Role.TheVariants.{Content}
use Rattle.expr_syntax.specs.declared.sections.FormatArguments.{FormatArguments}
use Rattle.expr_syntax.specs.Rows.{allows, element_place, is_last}
use Rattle.expr_syntax.specs.Names.{row, name_of}
use Rattle.expr_syntax.specs.Elements.{Element, head_text, second, second_text, option_named}
use Rattle.expr_syntax.specs.Scopes.{Scope, globals, frame, global_at}
use Rattle.expr_syntax.specs.Parts.{operator_of}
use Rattle.expr_syntax.specs.Standing.{is_format_layout, is_outside}
use Rattle.expr_syntax.specs.Term.{Term, literal, node, term, no_terms, terms_of}

abbrev pub Read : Type 0
Read = Result Term SynFault

-- what a tree reads as, by the names around it and its path from the root
abbrev pub Reader : Type 0
Reader = Scope → List PathPart → Read

abbrev pub fault : {A : Type 0} → List PathPart → SynCode → Result A SynFault
fault path c = Err (record { path = path; code = c })

abbrev pub at : List PathPart → ℕ → List PathPart
at path i = path ++ parts.Index i ∷ []

abbrev pub number_read : Result ℤ NumFault → List PathPart → Read
number_read (Ok z) path = Ok (literal (values.number z))
number_read (Err past) path = fault path code.NumberRange

-- ---- `literal`: the value of its part

abbrev pub data_read : Result Data NumFault → List PathPart → Read
data_read (Ok d) path = Ok (literal d)
data_read (Err past) path = fault path code.NumberRange

abbrev pub literal_read : Option Tree → List PathPart → Read
literal_read (Some t) path = data_read (json_data t) path
literal_read None path = fault path code.Part

-- ---- `global-state`: `get` of its name in an object that has the name's value, or is empty where there is
-- none

abbrev pub global_object : List ℕ → Option Data → Pairs
global_object name (Some d) = pair name d no_pairs
global_object name None = no_pairs

abbrev pub global_term : List ℕ → Option Data → Term
global_term name value =
    node operators.Get
    (term (literal (values.text name)) (term (literal (values.map (global_object name value))) no_terms))

abbrev pub global_read : Option (List ℕ) → Scope → List PathPart → Read
global_read (Some s) scope path = Ok (global_term s (global_at scope s))
global_read None scope path = fault path code.Part

-- ---- the arguments of a node that is laid out by places; the last element is read inside the names that the
-- node binds

abbrev pub is_part : ElementPlace → Bool
is_part Part = true
is_part _ = false

abbrev pub and_term : Read → Result (List Term) SynFault → Result (List Term) SynFault
and_term (Ok t) (Ok ts) = Ok (t ∷ ts)
and_term (Ok t) (Err f) = Err f
and_term (Err f) later = Err f

abbrev pub arguments : ElementLayout → ℕ → ℕ → List (Element Reader) → Scope → Scope → List PathPart
    → Result (List Term) SynFault
arguments layout n i [] inner scope path = Ok []
arguments layout n i (e ∷ es) inner scope path =
    if is_part (element_place layout n i) then arguments layout n (i + 1) es inner scope path
    else and_term (e.0 (if is_last n i then inner else scope) (at path i))
    (arguments layout n (i + 1) es inner scope path)

abbrev pub names_in : Operator → Scope → Scope
names_in (operators.Let names) scope = frame names scope
names_in _ scope = scope

abbrev pub then_node : Operator → Result (List Term) SynFault → Read
then_node op (Ok ts) = Ok (node op (terms_of ts))
then_node op (Err f) = Err f

abbrev pub with_operator : ElementLayout → List (Element Reader) → Result Operator SynCode → Reader
with_operator layout es (Ok op) scope path =
    then_node op (arguments layout (length es) 0 es (names_in op scope) scope path)
with_operator layout es (Err c) scope path = fault path c

-- ---- the arguments of `format`: contents, and the members of an object directly after one, each with its
-- role

abbrev pub then_term : {A : Type 0} → Read → (Term → Result A SynFault) → Result A SynFault
then_term (Ok t) go = go t
then_term (Err f) go = Err f

abbrev pub then_sections : Result FormatArguments SynFault → (FormatArguments → Result FormatArguments SynFault)
    → Result FormatArguments SynFault
then_sections (Ok found) go = go found
then_sections (Err f) go = Err f

abbrev pub with_piece : ℕ → Role → FormatArguments → Term → FormatArguments
with_piece i role found t = record {
  pieces = found.pieces ++ record { at = i; role = role } ∷ [];
  arguments = found.arguments ++ t ∷ [];
}

abbrev pub option_read : ℕ → Option Role → List ℕ → Reader → Scope → List PathPart
    → FormatArguments → Result FormatArguments SynFault
option_read i (Some role) key r scope path found =
    then_term (r scope (path ++ parts.Key key ∷ [])) (λ t. Ok (with_piece i role found t))
option_read i None key r scope path found = fault path code.BareObject

-- the options in the object at element i, whose path this is
abbrev pub options_read : ℕ → List (List ℕ × Reader) → Scope → List PathPart
    → FormatArguments → Result FormatArguments SynFault
options_read i [] scope path found = Ok found
options_read i (m ∷ ms) scope path found =
    then_sections (option_read i (option_named m.0) m.0 m.1 scope path found) (options_read i ms scope path)

abbrev pub section_read : ℕ → Bool → Option (List (List ℕ × Reader)) → Reader → Scope → List PathPart
    → FormatArguments → Result FormatArguments SynFault
section_read i follows (Some ms) r scope path found =
    if follows then options_read i ms scope path found else fault path code.BareObject
section_read i follows None r scope path found =
    then_term (r scope path) (λ t. Ok (with_piece i Content found t))

-- from element i on; `follows` says whether the one before is a content, and the name is at 0
abbrev pub sections_read : ℕ → Bool → List (Element Reader) → Scope → List PathPart
    → FormatArguments → Result FormatArguments SynFault
sections_read i follows [] scope path found = Ok found
sections_read i follows (e ∷ es) scope path found =
    if nat_eq i 0 then sections_read (i + 1) false es scope path found
    else then_sections (section_read i follows e.1 e.0 scope (at path i) found)
    (sections_read (i + 1) (is_none e.1) es scope path)

abbrev pub no_sections : FormatArguments
no_sections = record { pieces = []; arguments = [] }

-- from the name on
abbrev pub all_sections : List (Element Reader) → Scope → List PathPart → Result FormatArguments SynFault
all_sections es scope path = sections_read 0 false es scope path no_sections

abbrev pub then_format : Result FormatArguments SynFault → Read
then_format (Ok found) = Ok (node (operators.Format found.pieces) (terms_of found.arguments))
then_format (Err f) = Err f

-- ---- nodes: the tests at a node come before its elements, the least fault first

abbrev pub is_value_layout : ElementLayout → Bool
is_value_layout Value = true
is_value_layout _ = false

abbrev pub is_global_layout : ElementLayout → Bool
is_global_layout Global = true
is_global_layout _ = false

abbrev pub node_read : Name → Trees → List (Element Reader) → Reader
node_read name ts es scope path =
    if not (allows (row name).arity (length es - 1)) then fault path code.Arity
    else if is_value_layout (row name).layout then literal_read (second ts) path
    else if is_global_layout (row name).layout then global_read (second_text ts) scope path
    else if is_format_layout (row name).layout then then_format (all_sections es scope path)
    else with_operator (row name).layout es (operator_of (row name).layout name scope (length es) ts) scope path

abbrev pub named_read : Option Name → Trees → List (Element Reader) → Reader
named_read None ts es scope path = fault path code.UnknownOperator
named_read (Some name) ts es scope path = node_read name ts es scope path

abbrev pub array_read : Option (List ℕ) → Trees → List (Element Reader) → Reader
array_read None ts es scope path = fault path code.NoOperator
array_read (Some s) ts es scope path = named_read (name_of s) ts es scope path

abbrev mutual
  pub read : Tree → Reader
  read null = λ scope path. Ok (literal values.null)
  read (boolean b) = λ scope path. Ok (literal (values.boolean b))
  read (number n) = λ scope path. number_read (read_text n) path
  read (text s) = λ scope path. Ok (literal (values.text s))
  read (list ts) = λ scope path. array_read (head_text ts) ts (elements ts) scope path
  read (object fs) = λ scope path. fault path code.BareObject

  pub options : Tree → Option (List (List ℕ × Reader))
  options null = None
  options (boolean b) = None
  options (number n) = None
  options (text s) = None
  options (list ts) = None
  options (object fs) = Some (members fs)

  pub elements : Trees → List (Element Reader)
  elements no_trees = []
  elements (tree t ts) = (read t, options t) ∷ elements ts

  pub members : Fields → List (List ℕ × Reader)
  members no_fields = []
  members (field k t fs) = (k, read t) ∷ members fs

-- an expression, or none where it is outside
abbrev pub Reading : Type 0
Reading = Result (Option Term) SynFault

abbrev pub inside : Read → Reading
inside (Ok t) = Ok (Some t)
inside (Err f) = Err f

-- What a tree reads as, by the values of the global state. An outside node beats every fault.
abbrev pub reading_with : Tree → List (List ℕ × Data) → Reading
reading_with t values = if is_outside t then Ok None else inside (read t (globals values) [])

abbrev pub reading : Tree → Reading
reading t = reading_with t []
