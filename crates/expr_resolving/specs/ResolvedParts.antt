-- Parts of resolving that functions of the program answer for.
use Rattle.std.specs.Prelude.{ℕ, List, [], ◌∷◌, length, drop, Bool, Option, Some, None}
use Rattle.prop_values.specs.Data.{Data, text}
use Rattle.prop_values.specs.declared.kinds.Want.{Want}
use Rattle.expr_syntax.specs.Term.{Terms}
use Rattle.expr_syntax.specs.declared.expression.Operator.{Operator}
use Rattle.eval_face.specs.Rules.{rule_of}
use Rattle.expr_nodes.specs.Node.{Node, inner, Children, child}
use Rattle.expr_resolving.specs.NumberScopes.{numbered}
use Rattle.expr_nodes.specs.Resolving.{NumberedNames, Numbered, count_of, key_of, by_key, by_rule, resolve_arguments}
use Rattle.expr_nodes.specs.Resolving.{resolve_let}

-- the text that a value is
abbrev pub text_in : Data → Option (List ℕ)
text_in (text s) = Some s
text_in _ = None

-- a node whose operator has no names
abbrev pub inner_node : Operator → Want → Children × List Node → Numbered
inner_node op want arguments = (inner op want arguments.0, arguments.1)

abbrev pub inner_of : Operator → Want → List Bool → Terms → List NumberedNames → List Node → Numbered
inner_of op want left ts scope so_far =
    inner_node op want (resolve_arguments ts op (count_of ts) 0 want left scope so_far)

-- a node by its key and its rule, where its own want and the marks of its arguments are known
abbrev pub resolved_node : Operator → Terms → Want → List Bool → List NumberedNames → List Node → Numbered
resolved_node op ts want left scope so_far =
    by_key (key_of op ts) want so_far
    (by_rule (rule_of op) op want scope so_far (resolve_arguments ts op (count_of ts) 0 want left scope so_far)
    (λ names. resolve_let ts names want left scope [] so_far))

-- arguments that are resolved already, before others
abbrev pub before : List Node → Children → Children
before [] ns = ns
before (n ∷ done) ns = child n (before done ns)

-- that node, where the first of m arguments are resolved already
abbrev pub inner_after : Operator → ℕ → Want → List Bool → List NumberedNames → List Node → Terms → List Node → Numbered
inner_after op m want left scope done ts so_far =
    inner_node op want (
      before done (resolve_arguments ts op m (length done) want left scope so_far).0,
      (resolve_arguments ts op m (length done) want left scope so_far).1,
    )

-- a `let` whose first names have numbers already
abbrev pub let_after : List (List ℕ) → Want → List Bool → List NumberedNames → List ℕ → Terms → List Node → Numbered
let_after names want left scope numbers ts so_far =
    resolve_let ts (drop (length numbers) names) want left scope (numbered names numbers) so_far
