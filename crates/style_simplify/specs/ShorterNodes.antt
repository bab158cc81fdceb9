-- What `case`, `all`, `any`, `coalesce` and `match` become by the literals among their arguments; none where no
-- literal decides. Source: own.
use Rattle.std.specs.Prelude.{◌+◌, ◌-◌, List, [], ◌∷◌, length, take, Bool, true, false, ◌&&◌, ◌||◌, Option, Some, None}
use Rattle.std.specs.Prelude.{if◌then◌else◌}
use Rattle.std.specs.List.{slice_get}
use Rattle.decimal_json.specs.Tree.{Tree, null, boolean, number, text, list, object}
use Rattle.prop_values.specs.Data.{Data}
use Rattle.prop_values.specs.declared.kinds.Want.{Want}
use Rattle.expr_syntax.specs.Chosen.{output_of}
use Rattle.expr_syntax.specs.Elements.{second}
use Rattle.expr_syntax.specs.declared.expression.Operator.{Operator}
use Rattle.expr_syntax.specs.declared.expression.Operator.TheVariants.{All, Any, Case, Coalesce, Match}
use Rattle.expr_syntax.specs.declared.parts.Labelled.{Labelled}
use Rattle.style_simplify.specs.Literals.{is_literal_node, literal_element, literal_value}
use Rattle.style_simplify.specs.SimpleElements.{SimpleElement, node_of}
use Rattle.style_simplify.specs.declared.literal_role.LiteralRole.{LiteralRole}
use Rattle.style_simplify.specs.declared.literal_role.LiteralRole.TheVariants.{Passed, Deciding, Open}
use Rattle.style_simplify.specs.declared.conditions.CaseTurn.{CaseTurn}
use Rattle.style_simplify.specs.declared.conditions.CaseTurn.TheVariants.{Condition, Output, PassedOutput, ChosenOutput}

-- ---- `all`, `any` and `coalesce`: arguments that are passed go, and all after the first that decides

-- of `all` a literal false decides and true is passed; of `any` the other way round
abbrev pub flag_role : Bool → Bool → LiteralRole
flag_role true b = if b then Deciding else Passed
flag_role false b = if b then Passed else Deciding

abbrev pub condition_role : Bool → Tree → LiteralRole
condition_role decides (boolean b) = flag_role decides b
condition_role decides t = Open

-- whether it is an array or an object
abbrev pub is_container : Option Tree → Bool
is_container (Some (list ts)) = true
is_container (Some (object fs)) = true
is_container _ = false

-- Of `coalesce` a literal null is passed, and another literal decides. A `literal` node of another value than an array
-- or an object has become a bare literal before.
abbrev pub choice_role : Tree → LiteralRole
choice_role null = Passed
choice_role (boolean b) = Deciding
choice_role (number n) = Deciding
choice_role (text s) = Deciding
choice_role (list ts) = if is_literal_node ts && is_container (second ts) then Deciding else Open
choice_role (object fs) = Open

abbrev pub role_of : Operator → Tree → LiteralRole
role_of All t = condition_role false t
role_of Any t = condition_role true t
role_of Coalesce t = choice_role t
role_of op t = Open

abbrev pub is_open : LiteralRole → Bool
is_open Open = true
is_open _ = false

abbrev pub is_deciding : LiteralRole → Bool
is_deciding Deciding = true
is_deciding _ = false

abbrev pub some_role : Operator → List SimpleElement → Bool
some_role op [] = false
some_role op (e ∷ es) = if is_open (role_of op e.tree) then some_role op es else true

abbrev pub and_element : LiteralRole → SimpleElement → List SimpleElement → List SimpleElement
and_element Passed e rest = rest
and_element Deciding e rest = e ∷ []
and_element Open e rest = e ∷ rest

abbrev pub undecided : Operator → List SimpleElement → List SimpleElement
undecided op [] = []
undecided op (e ∷ es) = and_element (role_of op e.tree) e (undecided op es)

abbrev pub is_coalesce : Operator → Bool
is_coalesce Coalesce = true
is_coalesce op = false

-- What decides alone is the whole, and a `coalesce` of nothing is null.
abbrev pub joined : Operator → Want → SimpleElement → List SimpleElement → SimpleElement
joined op want head [] = if is_coalesce op then literal_element want null else node_of op want false (head ∷ [])
joined op want head (e ∷ []) =
    if is_deciding (role_of op e.tree) then literal_element want e.tree else node_of op want false (head ∷ e ∷ [])
joined op want head (e ∷ f ∷ es) = node_of op want false (head ∷ e ∷ f ∷ es)

abbrev pub shorter_join : Operator → Want → SimpleElement → List SimpleElement → Option SimpleElement
shorter_join op want head es = if some_role op es then Some (joined op want head (undecided op es)) else None

-- ---- `case`: pairs whose condition is false go; the output of the first that is true is the last of all

abbrev pub turn_at : Tree → CaseTurn
turn_at (boolean true) = ChosenOutput
turn_at (boolean false) = PassedOutput
turn_at t = Output

-- a condition is kept where it is no literal
abbrev pub and_condition : CaseTurn → SimpleElement → List SimpleElement → List SimpleElement
and_condition Output e rest = e ∷ rest
and_condition turn e rest = rest

-- conditions and outputs in turn, and the last output
abbrev pub open_pairs : CaseTurn → List SimpleElement → SimpleElement → List SimpleElement
open_pairs turn [] last = last ∷ []
open_pairs Condition (e ∷ es) last = and_condition (turn_at e.tree) e (open_pairs (turn_at e.tree) es last)
open_pairs Output (e ∷ es) last = e ∷ open_pairs Condition es last
open_pairs PassedOutput (e ∷ es) last = open_pairs Condition es last
open_pairs ChosenOutput (e ∷ es) last = e ∷ []

abbrev pub is_literal_turn : CaseTurn → Bool
is_literal_turn Output = false
is_literal_turn turn = true

-- pairs begin with a condition
abbrev pub first_turn : CaseTurn
first_turn = Condition

-- whether a condition is a literal
abbrev pub some_condition : Bool → List SimpleElement → Bool
some_condition is_condition [] = false
some_condition true (e ∷ es) = is_literal_turn (turn_at e.tree) || some_condition false es
some_condition false (e ∷ es) = some_condition true es

abbrev pub case_of : Want → SimpleElement → List SimpleElement → SimpleElement
case_of want head (e ∷ []) = e
case_of want head [] = node_of Case want false (head ∷ [])
case_of want head (e ∷ f ∷ es) = node_of Case want false (head ∷ e ∷ f ∷ es)

abbrev pub case_with : Want → SimpleElement → List SimpleElement → Option SimpleElement → Option SimpleElement
case_with want head pairs (Some last) =
    if some_condition true pairs then Some (case_of want head (open_pairs first_turn pairs last)) else None
case_with want head pairs None = None

abbrev pub shorter_case : Want → SimpleElement → List SimpleElement → Option SimpleElement
shorter_case want head es = case_with want head (take (length es - 1) es) (slice_get es (length es - 1))

-- ---- `match`: the output that a literal input chooses

abbrev pub arguments_in : List SimpleElement → List SimpleElement
arguments_in [] = []
arguments_in (e ∷ es) = if e.is_part then arguments_in es else e ∷ arguments_in es

-- the outputs follow the input, and the last of them is chosen where no label is equal to it
abbrev pub chosen_output : List Labelled → List SimpleElement → Option Data → Option SimpleElement
chosen_output labels es (Some d) = slice_get es (output_of labels d (length es - 2) + 1)
chosen_output labels es None = None

abbrev pub shorter_match : List Labelled → List SimpleElement → Option SimpleElement
shorter_match labels [] = None
shorter_match labels (input ∷ es) = chosen_output labels (arguments_in (input ∷ es)) (literal_value input.tree)

-- ---- by the operator, the name first

abbrev pub shorter_by : Operator → Want → SimpleElement → List SimpleElement → Option SimpleElement
shorter_by All want head es = shorter_join All want head es
shorter_by Any want head es = shorter_join Any want head es
shorter_by Coalesce want head es = shorter_join Coalesce want head es
shorter_by Case want head es = shorter_case want head es
shorter_by (Match labels) want head es = shorter_match labels es
shorter_by op want head es = None

abbrev pub shorter : Operator → Want → List SimpleElement → Option SimpleElement
shorter op want [] = None
shorter op want (head ∷ es) = shorter_by op want head es
