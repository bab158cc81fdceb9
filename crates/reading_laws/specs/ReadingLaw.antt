-- The path of each argument of a node leads to the tree that the argument is read from. Source: own.
use Rattle.std.specs.Prelude.{◌≡◌, ◌⊎◌, ℕ, zero, suc, List, [], ◌∷◌, Bool, false, Option, Some, None, Ok, if◌then◌else◌}
use Rattle.decimal_json.specs.Tree.{Tree, list, object, Trees, no_trees, tree, Fields, no_fields, field}
use Rattle.decimal_json.specs.declared.paths.PathPart.{PathPart}
use Rattle.decimal_json.specs.declared.paths.PathPart.TheVariants.{Key, Index}
use Rattle.expr_syntax.specs.Elements.{head_name}
use Rattle.expr_syntax.specs.Mentioned.{count}
use Rattle.expr_syntax.specs.Names.{row}
use Rattle.expr_syntax.specs.Reading.{read, names_in, is_global_layout}
use Rattle.expr_syntax.specs.Rows.{is_last}
use Rattle.expr_syntax.specs.Scopes.{Scope}
use Rattle.expr_syntax.specs.Term.{Term, node, Terms, no_terms, term}
use Rattle.expr_syntax.specs.declared.expression.Operator.{Operator}
use Rattle.expr_syntax.specs.declared.names.Name.{Name}
use Rattle.expr_types.specs.ArgumentPaths.{argument_path}

-- ---- what is at a path of a tree; where an object has a key twice, both are at its path

abbrev pub HasItem : Trees → ℕ → Tree → Type 0
HasItem no_trees i u = ⊥
HasItem (tree t ts) zero u = t ≡ u
HasItem (tree t ts) (suc i) u = HasItem ts i u

abbrev pub HasMember : Fields → List ℕ → Tree → Type 0
HasMember no_fields key u = ⊥
HasMember (field k t fs) key u = ((k ≡ key) × (t ≡ u)) ⊎ HasMember fs key u

abbrev pub IsAt : List PathPart → Tree → Tree → Type 0
IsAt [] t u = t ≡ u
IsAt (Index i ∷ path) (list ts) u = (v : Tree) × HasItem ts i v × IsAt path v u
IsAt (Key key ∷ path) (object fs) u = (v : Tree) × HasMember fs key v × IsAt path v u
IsAt path t u = ⊥

-- ---- the arguments of a node

abbrev pub argument_at : Terms → ℕ → Option Term
argument_at no_terms k = None
argument_at (term t ts) zero = Some t
argument_at (term t ts) (suc k) = argument_at ts k

-- the names around the argument k of m: those of a `let` are around its last
abbrev pub argument_scope : Operator → ℕ → ℕ → Scope → Scope
argument_scope op m k scope = if is_last m k then names_in op scope else scope

-- `global-state` is read as a `get` in an object, which is at no path of its own
abbrev pub is_global : Option Name → Bool
is_global (Some name) = is_global_layout (row name).layout
is_global None = false

abbrev pub is_global_node : Tree → Bool
is_global_node (list ts) = is_global (head_name ts)
is_global_node _ = false

-- Each argument of a node that was read is what reading gives of the tree at the argument's path in the
-- node's tree. So the path of each code leads to what has the code.
abbrev pub ArgumentsAreReadAtTheirPaths : Type 0
ArgumentsAreReadAtTheirPaths =
    (t : Tree) (scope : Scope) (path : List PathPart) (op : Operator) (arguments : Terms) →
    read t scope path ≡ Ok (node op arguments) → is_global_node t ≡ false →
    (k : ℕ) (argument : Term) → argument_at arguments k ≡ Some argument →
    (u : Tree) × IsAt (argument_path op (count arguments) k []) t u
    × (read u (argument_scope op (count arguments) k scope) (argument_path op (count arguments) k path)
    ≡ Ok argument)
