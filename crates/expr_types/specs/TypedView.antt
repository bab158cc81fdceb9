-- What the check of arguments has found so far, and what the program's own check of an expression is to
-- definitions.
use Rattle.std.specs.Prelude.{ℕ, List, [], ◌∷◌, ◌++◌, ◌+◌, length, Bool, Result, Ok, Err}
use Rattle.decimal_json.specs.declared.paths.Here.{Here}
use Rattle.decimal_json.specs.declared.paths.PathPart.{PathPart}
use Rattle.decimal_json.specs.View.{path_of}
use Rattle.prop_values.specs.declared.fault.FaultSet.{FaultSet}
use Rattle.prop_values.specs.declared.kinds.Kind.{Kind}
use Rattle.prop_values.specs.declared.kinds.Want.{Want}
use Rattle.expr_syntax.specs.TermView.{term_of}
use Rattle.expr_syntax.specs.declared.expression.Expr.{Expr}
use Rattle.expr_types.specs.LiteralView.{literals_of, typings_of}
use Rattle.expr_types.specs.ScopeView.{scope_of}
use Rattle.expr_types.specs.Typing.{TypedNodes, Typed, Node, places_of, typed_as, kinds_in, may_after, places_after}
use Rattle.expr_types.specs.Typing.{node_typed, founds_of, plain_typed, let_typed, looked_at, is_sequence_of}
use Rattle.expr_types.specs.Typing.{argument_want, argument_typed, frame}
use Rattle.expr_types.specs.declared.checking.ArgumentKinds.{ArgumentKinds}
use Rattle.expr_types.specs.declared.checking.NodeContext.{NodeContext}
use Rattle.expr_types.specs.declared.fault.TypeFault.{TypeFault}
use Rattle.expr_types.specs.declared.placed.Placed.{Placed}
use Rattle.expr_types.specs.declared.scope.KindScope.{KindScope}

abbrev pub typed_of : Expr → Bool → Want → KindScope → Here → Typed
typed_of e is_sequence want scope here = typed_as (term_of e) is_sequence want (scope_of scope) (path_of here)

abbrev pub node_of : NodeContext → List Expr → Typed
node_of node es =
    node_typed node.op.now (literals_of es) (typings_of es) node.is_sequence node.want (scope_of node.scope.now)
    (path_of node.here.now)

abbrev pub founds_in : NodeContext → ℕ → ℕ → List Expr → Result (List TypedNodes) TypeFault
founds_in node m k es =
    founds_of node.op.now m k (typings_of es) node.want (scope_of node.scope.now) (path_of node.here.now)

abbrev pub plain_of : NodeContext → List Expr → Typed
plain_of node es =
    plain_typed node.op.now (literals_of es) (typings_of es) node.is_sequence node.want (scope_of node.scope.now)
    (path_of node.here.now)

abbrev pub let_of : NodeContext → List (List ℕ) → List Expr → Typed
let_of node names es = let_typed names (typings_of es) node.want (scope_of node.scope.now) (path_of node.here.now)

-- an argument at its path, and in its node
abbrev pub found_at : NodeContext → ℕ → ℕ → Expr → List PathPart → Typed
found_at node m k e path =
    looked_at (is_sequence_of node.op.now k)
    (typed_as (term_of e) (is_sequence_of node.op.now k) (argument_want node.op.now m k node.want)
    (scope_of node.scope.now) path) path

abbrev pub argument_found : NodeContext → ℕ → ℕ → Expr → Typed
argument_found node m k e =
    argument_typed node.op.now m k (typed_as (term_of e)) node.want (scope_of node.scope.now) (path_of node.here.now)

-- the body of a `let`
abbrev pub body_of : NodeContext → List (List ℕ) → List Kind → Expr → Typed
body_of node names kinds body =
    argument_typed node.op.now (length names + 1) (length names) (typed_as (term_of body)) node.want
    (frame names kinds ∷ scope_of node.scope.now) (path_of node.here.now)

-- the root of what was found, and the places that it adds to others
abbrev pub root_of : Typed → Node
root_of (Ok found) = Ok found.node
root_of (Err f) = Err f

abbrev pub added : List Placed → Typed → Result (List Placed) TypeFault
added places (Ok found) = Ok (places ++ places_of found)
added places (Err f) = Err f

abbrev pub added_below : List Placed → Typed → Result (List Placed) TypeFault
added_below places (Ok found) = Ok (places ++ found.below)
added_below places (Err f) = Err f

-- the kinds and faults of arguments, with those of some before
abbrev pub Kinds : Type 0
Kinds = List Kind × FaultSet

abbrev pub kinds_after : List Kind → FaultSet → Result (List TypedNodes) TypeFault → Result Kinds TypeFault
kinds_after ks may (Ok founds) = Ok (ks ++ kinds_in founds, may_after may founds)
kinds_after ks may (Err f) = Err f

abbrev pub kinds_of : Result ArgumentKinds TypeFault → Result Kinds TypeFault
kinds_of (Ok a) = Ok (a.kinds.items, a.may)
kinds_of (Err f) = Err f

abbrev pub all_added : List Placed → Result (List TypedNodes) TypeFault → Result (List Placed) TypeFault
all_added places (Ok founds) = Ok (places_after places founds)
all_added places (Err f) = Err f
