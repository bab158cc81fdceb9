-- An expression with its bindings in a list, and their numbers in the place of names. A `let` and a `var` are nodes no
-- more.
use Rattle.std.specs.Prelude.{ℕ, ◌+◌, List, [], ◌∷◌, ◌++◌, length, drop, Bool, ◌&&◌, true, false, Option, Some, None}
use Rattle.std.specs.Prelude.{Err, if◌then◌else◌}
use Rattle.prop_values.specs.Data.{text}
use Rattle.prop_values.specs.Equality.{same_text}
use Rattle.prop_values.specs.declared.fault.EvalFault.TheVariants.{WrongType}
use Rattle.prop_values.specs.declared.kinds.Want.{Want}
use Rattle.prop_values.specs.declared.kinds.Want.TheVariants as wants
use Rattle.property_tables.specs.Fitting.{fit}
use Rattle.expr_syntax.specs.declared.expression.Operator.{Operator}
use Rattle.expr_syntax.specs.declared.expression.Operator.TheVariants as operators
use Rattle.expr_syntax.specs.Operators.{wanted_by, want_of, ramp_want}
use Rattle.expr_syntax.specs.Term.{Term, literal, node, Terms, no_terms, term}
use Rattle.expr_syntax.specs.TermSize.{nodes}
use Rattle.eval_face.specs.Rules.{Rule, each, deciding, ramp, bindings, variable, rule_of}
use Rattle.expr_nodes.specs.Node.{Node, constant, asked, property, inner, Children, childless, child}

-- the names of a `let`, each with the number of its binding
abbrev pub NumberedNames : Type 0
NumberedNames = List (List ℕ × ℕ)

-- a name of the rest counts before one of its own
abbrev pub or_own_number : Option ℕ → List ℕ → ℕ → List ℕ → Option ℕ
or_own_number (Some slot) name own wanted = Some slot
or_own_number None name own wanted = if same_text name wanted then Some own else None

-- of a repeated name the last holds
abbrev pub last_number : NumberedNames → List ℕ → Option ℕ
last_number [] wanted = None
last_number (b ∷ bs) wanted = or_own_number (last_number bs wanted) b.0 b.1 wanted

abbrev pub or_outer_number : Option ℕ → Option ℕ → Option ℕ
or_outer_number (Some slot) outer = Some slot
or_outer_number None outer = outer

-- the number of a name, in the innermost `let` that has it
abbrev pub number_of : List NumberedNames → List ℕ → Option ℕ
number_of [] wanted = None
number_of (names ∷ outer) wanted = or_outer_number (last_number names wanted) (number_of outer wanted)

-- a node, and all bindings so far
abbrev pub Numbered : Type 0
Numbered = Node × List Node

-- a `var`
abbrev pub variable_node : Option ℕ → Want → Node
variable_node (Some slot) want = asked slot want
variable_node None want = constant (Err WrongType)

-- a `let` of a wrong number of arguments
abbrev pub misfit : List Node → Numbered
misfit so_far = (constant (Err WrongType), so_far)

-- ---- what an argument is wanted as

abbrev pub count_of : Terms → ℕ
count_of no_terms = 0
count_of (term t ts) = 1 + count_of ts

-- The outputs of a node under a want: those of an `interpolate` are shown after it.
abbrev pub outputs_want : Rule → Want → Want
outputs_want (ramp curve inputs) want = ramp_want want
outputs_want _ want = want

-- The argument k of m arguments of an operator under a want, by the operator's row.
abbrev pub argument_want : Operator → ℕ → ℕ → Want → Want
argument_want op m k want = want_of (wanted_by op m k) (outputs_want (rule_of op) want)

-- ---- tests that are left out: a mark for each node in preorder, literals among them. Where marks are missing, no node
-- is marked.

-- the rules of which a node fits its own value; the others hand the want to their outputs
abbrev pub has_fit : Rule → Bool
has_fit (each apply) = true
has_fit (deciding decides none) = true
has_fit (variable name) = true
has_fit _ = false

abbrev pub is_marked : List Bool → Bool
is_marked [] = false
is_marked (mark ∷ marks) = mark

-- a value that is shown becomes a text, so that this is no test
abbrev pub untested : Want → Want
untested wants.Shown = wants.Shown
untested want = wants.Any

-- what a node fits its value to
abbrev pub own_want : Operator → List Bool → Want → Want
own_want op marks want = if has_fit (rule_of op) && is_marked marks then untested want else want

-- ---- `get` of a literal key alone

abbrev pub is_get : Operator → Bool
is_get operators.Get = true
is_get _ = false

abbrev pub literal_key : Terms → Option (List ℕ)
literal_key (term (literal (text key)) no_terms) = Some key
literal_key _ = None

abbrev pub key_of : Operator → Terms → Option (List ℕ)
key_of op ts = if is_get op then literal_key ts else None

abbrev pub by_key : Option (List ℕ) → Want → List Node → Numbered → Numbered
by_key (Some key) want so_far other = (property key want, so_far)
by_key None want so_far other = other

-- ---- resolving

-- a node by the rule of its operator, its arguments, and what it is if it is a `let` of these names
abbrev pub by_rule : Rule → Operator → Want → List NumberedNames → List Node → Children × List Node →
    (List (List ℕ) → Numbered) → Numbered
by_rule (bindings names) op want scope so_far arguments as_let = as_let names
by_rule (variable name) op want scope so_far arguments as_let = (variable_node (number_of scope name) want, so_far)
by_rule _ op want scope so_far arguments as_let = (inner op want arguments.0, arguments.1)

-- the body is the last
abbrev pub body_or_misfit : Terms → Numbered → List Node → Numbered
body_or_misfit no_terms body so_far = body
body_or_misfit (term t ts) body so_far = misfit so_far

abbrev pub let_by : List (List ℕ) → Numbered → (List ℕ → List (List ℕ) → Numbered) → Numbered
let_by [] body bind = body
let_by (name ∷ names) body bind = bind name names

abbrev mutual
  pub resolve : Term → Want → List Bool → List NumberedNames → List Node → Numbered
  resolve (literal d) = λ want marks scope so_far. (constant (fit want d), so_far)
  resolve (node op ts) = λ want marks scope so_far.
      by_key (key_of op ts) (own_want op marks want) so_far
      (by_rule (rule_of op) op (own_want op marks want) scope so_far
      (resolve_arguments ts op (count_of ts) 0 (own_want op marks want) (drop 1 marks) scope so_far)
      (λ names. resolve_let ts names (own_want op marks want) (drop 1 marks) scope [] so_far))

  -- the arguments from that of place k on, of m
  pub resolve_arguments : Terms → Operator → ℕ → ℕ → Want → List Bool → List NumberedNames → List Node →
      Children × List Node
  resolve_arguments no_terms = λ op m k want marks scope so_far. (childless, so_far)
  resolve_arguments (term t ts) = λ op m k want marks scope so_far.
      (child (resolve t (argument_want op m k want) marks scope so_far).0 (resolve_arguments ts op m (k + 1) want (drop (nodes t) marks) scope (resolve t (argument_want op m k want) marks scope so_far).1).0, (resolve_arguments ts op m (k + 1) want (drop (nodes t) marks) scope (resolve t (argument_want op m k want) marks scope so_far).1).1)

  -- The bindings of these names and the body, where earlier names of the `let` have their numbers already. A binding is
  -- put after those that it asks for, and does not see the other names of its own `let`.
  pub resolve_let : Terms → List (List ℕ) → Want → List Bool → List NumberedNames → NumberedNames → List Node → Numbered
  resolve_let no_terms = λ names want marks scope earlier so_far. misfit so_far
  resolve_let (term t ts) = λ names want marks scope earlier so_far.
      let_by names
      (body_or_misfit ts (resolve t want marks (earlier ∷ scope) so_far) so_far)
      (λ name later. resolve_let ts later want (drop (nodes t) marks) scope
      (earlier ++ (name, length (resolve t wants.Any marks scope so_far).1) ∷ [])
      ((resolve t wants.Any marks scope so_far).1 ++ (resolve t wants.Any marks scope so_far).0 ∷ []))
