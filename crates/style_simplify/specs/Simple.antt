-- The simplified expression: arguments first, and then the first rule that may be used, once. The term that a
-- tree reads as says what its elements are. Source: own.
use Rattle.std.specs.Prelude.{ℕ, ◌+◌, ◌-◌, nat_eq, nat_lt, List, [], ◌∷◌, length, take, drop, Bool, true, false, ◌||◌}
use Rattle.std.specs.Prelude.{Option, Some, None, if◌then◌else◌, slice_set, slice_index_or}
use Rattle.std.specs.List.{slice_get}
use Rattle.decimal_json.specs.Accessors.{member}
use Rattle.decimal_json.specs.Editing.{replaced_members}
use Rattle.decimal_json.specs.Tree.{Tree, null, list, object, Trees, no_trees, tree, trees_of, fields_of, members_of}
use Rattle.prop_values.specs.Data.{Data}
use Rattle.prop_values.specs.declared.kinds.Kind.{Kind}
use Rattle.prop_values.specs.declared.kinds.Want.{Want}
use Rattle.expr_syntax.specs.Elements.{head_name}
use Rattle.expr_syntax.specs.Mentioned.{of_operator}
use Rattle.expr_syntax.specs.Names.{row}
use Rattle.expr_syntax.specs.Operators.{operator_name, role_want}
use Rattle.expr_syntax.specs.Reading.{is_part}
use Rattle.expr_syntax.specs.Rows.{element_place}
use Rattle.expr_syntax.specs.Term.{Term, literal, node, Terms, no_terms, term}
use Rattle.expr_syntax.specs.declared.expression.Operator.{Operator}
use Rattle.expr_syntax.specs.declared.expression.Operator.TheVariants.{Get, Let, Var, Format, IsSupportedScript}
use Rattle.expr_syntax.specs.declared.names.Name.{Name}
use Rattle.expr_syntax.specs.declared.names.Name.TheVariants.{GlobalState}
use Rattle.expr_syntax.specs.declared.parts.FormatPiece.{FormatPiece}
use Rattle.expr_syntax.specs.declared.parts.Role.{Role}
use Rattle.expr_syntax.specs.declared.parts.Role.TheVariants.{Content}
use Rattle.expr_syntax.specs.declared.world_parts.Mentions.{Mentions}
use Rattle.expr_types.specs.ArgumentPaths.{role_key}
use Rattle.expr_types.specs.NodeKinds.{name_kind, node_kind, literal_kind_under}
use Rattle.expr_types.specs.Typing.{KindScope, frame, argument_want}
use Rattle.style_simplify.specs.AskedBindings.{shorter_let}
use Rattle.style_simplify.specs.Choices.{NodeChoices, choices_of, chosen}
use Rattle.style_simplify.specs.ShorterNodes.{shorter}
use Rattle.style_simplify.specs.SimpleElements.{SimpleElement, part, argument_kinds, all_asks, some_reads, kind_by}
use Rattle.style_simplify.specs.SimpleElements.{node_of, let_of}

-- what becomes of a tree, under a want, in the names around it
abbrev pub Simple : Type 0
Simple = Tree → Want → KindScope → NodeChoices

abbrev pub simple_element : Bool → Simple → Tree → Want → KindScope → SimpleElement
simple_element is_content s t want scope = chosen is_content (s t want scope)

-- an expression that stays as it is and is not looked into
abbrev pub unread : Tree → SimpleElement
unread t = record { tree = t; is_part = false; kind = None; asks = []; reads = true }

abbrev pub as_it_is : Want → SimpleElement → NodeChoices
as_it_is want e = choices_of want e None

abbrev pub listed : Trees → List Tree
listed no_trees = []
listed (tree t ts) = t ∷ listed ts

-- ---- elements from place i on, the name at 0; the first of the arguments that are left has the number k

module _ (op : Operator) (n m : ℕ) (want : Want) (scope : KindScope) where
  abbrev pub elements : ℕ → ℕ → List Simple → List Tree → List SimpleElement
  elements i k ss [] = []
  elements i k [] (t ∷ ts) = part t ∷ elements (i + 1) k [] ts
  elements i k (s ∷ ss) (t ∷ ts) =
      if is_part (element_place (row (operator_name op)).layout n i) then part t ∷ elements (i + 1) k (s ∷ ss) ts
      else simple_element false s t (argument_want op m k want) scope ∷ elements (i + 1) (k + 1) ss ts

-- ---- what an operator itself reads, with m arguments

abbrev pub is_any_read : Mentions → Bool
is_any_read m = m.zoom || (m.feature || (m.state || m.image))

abbrev pub is_script : Operator → Bool
is_script IsSupportedScript = true
is_script op = false

abbrev pub operator_reads : Operator → ℕ → Bool
operator_reads op m = is_script op || is_any_read (of_operator op m)

abbrev pub choices_from : Operator → Want → Bool → List SimpleElement → NodeChoices
choices_from op want reads es = choices_of want (node_of op want reads es) (shorter op want es)

abbrev pub plain_choices : Operator → List Simple → List Tree → Want → KindScope → NodeChoices
plain_choices op ss ts want scope =
    choices_from op want (operator_reads op (length ss)) (elements op (length ts) (length ss) want scope 0 0 ss ts)

-- ---- `let`: the bindings, and then the body, in the names that they bind

abbrev pub body_among : List (List ℕ) → Want → KindScope → List Kind → Simple → Tree → Option SimpleElement
body_among names want scope ks s u =
    if nat_eq (length names) (length ks) then Some (simple_element false s u want (frame names ks ∷ scope)) else None

-- the body, none where a binding has a type fault
abbrev pub let_body : List (List ℕ) → Want → KindScope → Option (List Kind) → List Simple → Option Tree →
    Option SimpleElement
let_body names want scope (Some ks) (s ∷ ss) (Some u) = body_among names want scope ks s u
let_body names want scope _ _ _ = None

abbrev pub let_choices : List (List ℕ) → Want → List SimpleElement → Option SimpleElement → Tree → NodeChoices
let_choices names want bindings (Some body) t =
    choices_of want (let_of names want bindings body) (shorter_let names want bindings body)
let_choices names want bindings None t = as_it_is want (unread t)

abbrev pub let_with : List (List ℕ) → Want → KindScope → List SimpleElement → List Simple → Option Tree → Tree →
    NodeChoices
let_with names want scope bindings ss last t =
    let_choices names want bindings (let_body names want scope (argument_kinds bindings) ss last) t

abbrev pub let_simple : Operator → List (List ℕ) → List Simple → List Tree → Want → KindScope → NodeChoices
let_simple op names ss ts want scope =
    let_with names want scope
    (elements op (length ts) (length ss) want scope 0 0 (take (length names) ss) (take (length ts - 1) ts))
    (drop (length names) ss) (slice_get ts (length ts - 1)) (list (trees_of ts))

-- ---- `format`: each argument in its element, a content or an option

abbrev pub is_content : Role → Bool
is_content Content = true
is_content role = false

abbrev pub tree_of_option : Option (List ℕ) → Option Tree → Option Tree
tree_of_option (Some key) (Some t) = member key t
tree_of_option (Some key) None = None
tree_of_option None found = found

abbrev pub piece_tree : FormatPiece → List Tree → Option Tree
piece_tree p ts = tree_of_option (role_key p.role) (slice_get ts p.at)

abbrev pub piece_at : FormatPiece → Simple → Option Tree → KindScope → SimpleElement
piece_at p s (Some t) scope = simple_element (is_content p.role) s t (role_want p.role) scope
piece_at p s None scope = unread null

abbrev pub piece_element : Option FormatPiece → Simple → List Tree → KindScope → SimpleElement
piece_element (Some p) s ts scope = piece_at p s (piece_tree p ts) scope
piece_element None s ts scope = unread null

abbrev pub piece_elements : List FormatPiece → ℕ → List Simple → List Tree → KindScope → List SimpleElement
piece_elements pieces k [] ts scope = []
piece_elements pieces k (s ∷ ss) ts scope =
    piece_element (slice_get pieces k) s ts scope ∷ piece_elements pieces (k + 1) ss ts scope

abbrev pub with_option : List ℕ → Tree → Tree → Tree
with_option key u (object fs) = object (fields_of (replaced_members key u (members_of fs)))
with_option key u t = t

abbrev pub put_in : Option (List ℕ) → Tree → Tree → Tree
put_in (Some key) u t = with_option key u t
put_in None u t = u

abbrev pub put_piece : Option FormatPiece → Tree → List Tree → List Tree
put_piece (Some p) u ts =
    if nat_lt p.at (length ts) then slice_set ts p.at (put_in (role_key p.role) u (slice_index_or ts p.at null)) else ts
put_piece None u ts = ts

abbrev pub put_pieces : List FormatPiece → ℕ → List SimpleElement → List Tree → List Tree
put_pieces pieces k [] ts = ts
put_pieces pieces k (e ∷ es) ts = put_pieces pieces (k + 1) es (put_piece (slice_get pieces k) e.tree ts)

abbrev pub format_of : Operator → List FormatPiece → Want → List Tree → List SimpleElement → SimpleElement
format_of op pieces want ts es = record {
  tree = list (trees_of (put_pieces pieces 0 es ts));
  is_part = false;
  kind = kind_by op want (argument_kinds es);
  asks = all_asks es;
  reads = some_reads es;
}

abbrev pub format_choices : Operator → List FormatPiece → List Simple → List Tree → Want → KindScope → NodeChoices
format_choices op pieces ss ts want scope =
    as_it_is want (format_of op pieces want ts (piece_elements pieces 0 ss ts scope))

-- ---- nodes

abbrev pub var_element : List ℕ → Want → KindScope → Tree → SimpleElement
var_element name want scope t =
    record { tree = t; is_part = false; kind = name_kind scope name want; asks = name ∷ []; reads = false }

-- A `global-state` node reads as a `get`.
abbrev pub global_element : Want → Tree → SimpleElement
global_element want t = record { tree = t; is_part = false; kind = node_kind Get want []; asks = []; reads = true }

abbrev pub is_global_name : Option Name → Bool
is_global_name (Some GlobalState) = true
is_global_name _ = false

abbrev pub choices_in : Operator → List Simple → List Tree → Want → KindScope → NodeChoices
choices_in (Let names) ss ts want scope = let_simple (Let names) names ss ts want scope
choices_in (Var name) ss ts want scope = as_it_is want (var_element name want scope (list (trees_of ts)))
choices_in (Format pieces) ss ts want scope = format_choices (Format pieces) pieces ss ts want scope
choices_in op ss ts want scope = plain_choices op ss ts want scope

abbrev pub node_choices : Operator → List Simple → Simple
node_choices op ss (list ts) want scope =
    if is_global_name (head_name ts) then as_it_is want (global_element want (list ts))
    else choices_in op ss (listed ts) want scope
node_choices op ss t want scope = as_it_is want (unread t)

abbrev pub literal_at : Data → Want → Tree → SimpleElement
literal_at d want t = record { tree = t; is_part = false; kind = literal_kind_under d want; asks = []; reads = false }

abbrev mutual
  pub choices : Term → Simple
  choices (literal d) = λ t want scope. as_it_is want (literal_at d want t)
  choices (node op ts) = λ t want scope. node_choices op (simples ts) t want scope

  pub simples : Terms → List Simple
  simples no_terms = []
  simples (term t ts) = choices t ∷ simples ts
