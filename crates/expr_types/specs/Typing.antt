-- The kind of an expression under a want with the faults that it may give, or its type fault.
-- Source: MapLibre style specification, version 8, types of expressions, as this project takes them.
use Rattle.std.specs.Prelude.{ℕ, ◌+◌, List, [], ◌∷◌, ◌++◌, length, take, drop, map, nat_eq, Bool, true, false, Option}
use Rattle.std.specs.Prelude.{Some, None, Result, Ok, Err, if◌then◌else◌}
use Rattle.decimal_json.specs.declared.paths.PathPart.{PathPart}
use Rattle.prop_values.specs.Data.{Data}
use Rattle.prop_values.specs.Equality.{same_text}
use Rattle.prop_values.specs.Faults.{no_faults, one_fault, union}
use Rattle.prop_values.specs.declared.fault.EvalFault.TheVariants.{WrongType}
use Rattle.prop_values.specs.declared.fault.FaultSet.{FaultSet}
use Rattle.prop_values.specs.declared.kinds.Kind.{Kind}
use Rattle.prop_values.specs.declared.kinds.Kind.TheVariants as kinds
use Rattle.prop_values.specs.declared.kinds.Want.{Want}
use Rattle.expr_syntax.specs.declared.expression.Operator.{Operator}
use Rattle.expr_syntax.specs.declared.expression.Operator.TheVariants.{Case, Match, Step, Interpolate, Let, Var}
use Rattle.expr_syntax.specs.Names.{row}
use Rattle.expr_syntax.specs.Operators.{operator_name, wanted_by, want_of, ramp_want}
use Rattle.expr_syntax.specs.Term.{Term, literal, node, Terms, no_terms, term}
use Rattle.expr_types.specs.ArgumentPaths.{argument_path}
use Rattle.expr_types.specs.Fits.{fits, is_always, kind_under, branch_kind, fit_faults}
use Rattle.expr_types.specs.Literals.{literal_kind, surely_fits}
use Rattle.expr_types.specs.Own.{owns, ill_typed}
use Rattle.expr_types.specs.OwnTable.{own}
use Rattle.expr_types.specs.Sequences.{sequence_fit}
use Rattle.expr_types.specs.declared.fault.TypeCode.{TypeCode}
use Rattle.expr_types.specs.declared.fault.TypeCode.TheVariants as codes
use Rattle.expr_types.specs.declared.fault.TypeFault.{TypeFault}
use Rattle.expr_types.specs.declared.fits.Fit.{Fit}
use Rattle.expr_types.specs.declared.fits.Fit.TheVariants.{Always, Maybe, Never}
use Rattle.expr_types.specs.declared.own.Own.{Own}
use Rattle.expr_types.specs.declared.placed.Placed.{Placed}
use Rattle.expr_types.specs.declared.placed.Kinded.{Kinded}

-- What is known of an expression, and of the nodes below its root in preorder.
pub record TypedNodes : Type 0 where
  pub node : Kinded
  pub below : List Placed

abbrev pub Typed : Type 0
Typed = Result TypedNodes TypeFault

-- The kinds of the names around, a list for each `let`, the innermost first.
abbrev pub KindScope : Type 0
KindScope = List (List (List ℕ × Kind))

-- an expression: whether it has to be a text or a list, its want, the names around it, and its path
abbrev pub Typing : Type 0
Typing = Bool → Want → KindScope → List PathPart → Typed

abbrev pub fault : (A : Type 0) → List PathPart → TypeCode → Result A TypeFault
fault A path code = Err (record { path = path; code = code })

-- what is known of each node in preorder
abbrev pub places_of : TypedNodes → List Placed
places_of found = found.node.root ∷ found.below

-- ---- a node or literal under its want; at one node the least code counts

abbrev pub kinded : Want → Kind → FaultSet → Bool → Kinded
kinded want kind may always = record { kind = kind; may = may; root = record { want = want; always = always } }

abbrev pub Node : Type 0
Node = Result Kinded TypeFault

abbrev pub unless_code : Option TypeCode → Kinded → List PathPart → Node
unless_code None k path = Ok k
unless_code (Some code) k path = fault Kinded path code

abbrev pub fit_or : Fit → Want → Own → FaultSet → List PathPart → Node
fit_or Never want own may path = fault Kinded path codes.Kind
fit_or fit want own may path =
    unless_code own.code
    (kinded want (kind_under want own.kind) (union may (union own.faults (fit_faults fit want own.kind)))
    (is_always fit)) path

abbrev pub fitted : Want → Own → FaultSet → List PathPart → Node
fitted want own may path = fit_or (fits own.kind want) want own may path

-- one that hands its want to its branches has no fit of its own
abbrev pub branched : Want → Own → FaultSet → List PathPart → Node
branched want own may path =
    unless_code own.code (kinded want (branch_kind want own.kind) (union may own.faults) true) path

abbrev pub literal_node : Data → Want → List PathPart → Node
literal_node d want path =
    if surely_fits want d
    then Ok (kinded want (kind_under want (literal_kind d)) no_faults (is_always (fits (literal_kind d) want)))
    else fitted want (owns (literal_kind d) no_faults) no_faults path

abbrev pub with_below : List Placed → Node → Typed
with_below below (Ok k) = Ok (record { node = k; below = below })
with_below below (Err f) = Err f

-- A text or a list is asked under Any, so that a node has its own kind there: one of another kind has the code Kind,
-- also where it has a later code of its own, as `==` in `["length", ["==", ["literal", [1]], 1]]`.
abbrev pub unless_misfit : Fit → Own → Own
unless_misfit Never own = record own { code = Some codes.Kind }
unless_misfit fit own = own

abbrev pub own_where : Bool → Own → Own
own_where is_sequence own = if is_sequence then unless_misfit (sequence_fit own.kind) own else own

-- ---- arguments

-- the want of an argument, in a node under a want
abbrev pub handed : Operator → Want → Want
handed (Interpolate r) want = ramp_want want
handed op want = want

abbrev pub argument_want : Operator → ℕ → ℕ → Want → Want
argument_want op m k want = want_of (wanted_by op m k) (handed op want)

-- an argument that has to be a text or a list
abbrev pub with_misfit : Fit → Kinded → List PathPart → Node
with_misfit Always k path = Ok k
with_misfit Maybe k path = Ok (record k { may = union k.may (one_fault WrongType) })
with_misfit Never k path = fault Kinded path codes.Kind

abbrev pub as_sequence : Kinded → List PathPart → Node
as_sequence k path = with_misfit (sequence_fit k.kind) k path

abbrev pub sequence_if : Bool → Kinded → List PathPart → Node
sequence_if is_sequence k path = if is_sequence then as_sequence k path else Ok k

abbrev pub looked_at : Bool → Typed → List PathPart → Typed
looked_at is_sequence (Ok found) path = with_below found.below (sequence_if is_sequence found.node path)
looked_at is_sequence (Err f) path = Err f

abbrev pub is_place : Option ℕ → ℕ → Bool
is_place (Some place) k = nat_eq k place
is_place None k = false

abbrev pub is_sequence_of : Operator → ℕ → Bool
is_sequence_of op k = is_place (row (operator_name op)).sequence k

abbrev pub argument_typed : Operator → ℕ → ℕ → Typing → Want → KindScope → List PathPart → Typed
argument_typed op m k typing want scope path =
    looked_at (is_sequence_of op k)
    (typing (is_sequence_of op k) (argument_want op m k want) scope (argument_path op m k path))
    (argument_path op m k path)

abbrev pub and_found : Typed → Result (List TypedNodes) TypeFault → Result (List TypedNodes) TypeFault
and_found (Ok found) (Ok founds) = Ok (found ∷ founds)
and_found (Ok found) (Err f) = Err f
and_found (Err f) later = Err f

-- the arguments from that of place k on, from left to right: the first fault is the fault of all
abbrev pub founds_of : Operator → ℕ → ℕ → List Typing → Want → KindScope → List PathPart →
    Result (List TypedNodes) TypeFault
founds_of op m k [] want scope path = Ok []
founds_of op m k (typing ∷ typings) want scope path =
    and_found (argument_typed op m k typing want scope path) (founds_of op m (k + 1) typings want scope path)

abbrev pub kinds_in : List TypedNodes → List Kind
kinds_in = map (λ found. found.node.kind)

-- the faults of each, with some before
abbrev pub may_after : FaultSet → List TypedNodes → FaultSet
may_after may [] = may
may_after may (found ∷ founds) = may_after (union may found.node.may) founds

abbrev pub all_may : List TypedNodes → FaultSet
all_may founds = may_after no_faults founds

-- the places of each, with some before
abbrev pub places_after : List Placed → List TypedNodes → List Placed
places_after places [] = places
places_after places (found ∷ founds) = places_after (places ++ places_of found) founds

abbrev pub all_places : List TypedNodes → List Placed
all_places founds = places_after [] founds

abbrev pub then_found : Result (List TypedNodes) TypeFault → (List TypedNodes → Typed) → Typed
then_found (Ok founds) go = go founds
then_found (Err f) go = Err f

-- ---- names

-- names, each with the kind of its binding
abbrev pub frame : List (List ℕ) → List Kind → List (List ℕ × Kind)
frame [] ks = []
frame (name ∷ names) [] = []
frame (name ∷ names) (k ∷ ks) = (name, k) ∷ frame names ks

-- of a repeated name the last holds
abbrev pub or_own : Option Kind → List ℕ → Kind → List ℕ → Option Kind
or_own (Some k) name own asked = Some k
or_own None name own asked = if same_text name asked then Some own else None

abbrev pub last_kind : List (List ℕ × Kind) → List ℕ → Option Kind
last_kind [] asked = None
last_kind (b ∷ bs) asked = or_own (last_kind bs asked) b.0 b.1 asked

abbrev pub or_outer : Option Kind → Own → Own
or_outer (Some k) outer = owns k no_faults
or_outer None outer = outer

-- An expression that was read asks for no other name.
abbrev pub own_named : KindScope → List ℕ → Own
own_named [] asked = ill_typed
own_named (bs ∷ outer) asked = or_outer (last_kind bs asked) (own_named outer asked)

-- ---- nodes

abbrev pub is_branching : Operator → Bool
is_branching Case = true
is_branching (Match labels) = true
is_branching (Step inputs) = true
is_branching (Interpolate r) = true
is_branching op = false

abbrev pub finished_node : Operator → Want → Own → FaultSet → List PathPart → Node
finished_node op want own may path = if is_branching op then branched want own may path else fitted want own may path

abbrev pub finished : Operator → Want → Own → List TypedNodes → List PathPart → Typed
finished op want own founds path = with_below (all_places founds) (finished_node op want own (all_may founds) path)

abbrev pub plain_typed : Operator → List (Option Data) → List Typing → Typing
plain_typed op ls typings is_sequence want scope path =
    then_found (founds_of op (length typings) 0 typings want scope path) (λ founds.
    finished op want (own_where is_sequence (own op want ls (kinds_in founds))) founds path)

-- `let`: the body, in the names of the bindings; a code of the body is at another node
abbrev pub with_bindings : Want → List TypedNodes → Typed → Typed
with_bindings want founds (Ok body) = Ok (record {
  node = kinded want (branch_kind want body.node.kind) (union (all_may founds) body.node.may) true;
  below = all_places founds ++ places_of body;
})
with_bindings want founds (Err f) = Err f

abbrev pub body_typed : List (List ℕ) → List Typing → List TypedNodes → Want → KindScope → List PathPart → Typed
body_typed names (body ∷ []) founds want scope path =
    with_bindings want founds
    (argument_typed (Let names) (length names + 1) (length names) body want
    (frame names (kinds_in founds) ∷ scope) path)
body_typed names typings founds want scope path = fault TypedNodes path codes.Kind

abbrev pub let_typed : List (List ℕ) → List Typing → Want → KindScope → List PathPart → Typed
let_typed names typings want scope path =
    then_found (founds_of (Let names) (length typings) 0 (take (length names) typings) want scope path) (λ founds.
    body_typed names (drop (length names) typings) founds want scope path)

abbrev pub node_typed : Operator → List (Option Data) → List Typing → Typing
node_typed (Let names) ls typings is_sequence want scope path = let_typed names typings want scope path
node_typed (Var name) ls typings is_sequence want scope path =
    with_below [] (fitted want (own_named scope name) no_faults path)
node_typed op ls typings is_sequence want scope path = plain_typed op ls typings is_sequence want scope path

abbrev pub literal_of : Term → Option Data
literal_of (literal d) = Some d
literal_of (node op ts) = None

abbrev pub literals : Terms → List (Option Data)
literals no_terms = []
literals (term t ts) = literal_of t ∷ literals ts

abbrev mutual
  pub typed_as : Term → Typing
  typed_as (literal d) = λ is_sequence want scope path. with_below [] (literal_node d want path)
  typed_as (node op ts) =
      λ is_sequence want scope path. node_typed op (literals ts) (typings ts) is_sequence want scope path

  pub typings : Terms → List Typing
  typings no_terms = []
  typings (term t ts) = typed_as t ∷ typings ts

-- where no text or list is asked
abbrev pub typed : Term → Want → KindScope → List PathPart → Typed
typed t = typed_as t false
