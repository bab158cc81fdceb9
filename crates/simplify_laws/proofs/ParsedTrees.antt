-- Trees that read as terms and are not outside, by their form and without paths: as what they read without values of the
-- global state, and with some.
use Rattle.std.proofs.Common.{◌≡◌, ℕ, ◌+◌, ◌-◌, ℤ, List, [], ◌∷◌, ◌++◌, Bool, true, false, Some, Ok}
use Rattle.std.specs.Prelude.{if◌then◌else◌}
use Rattle.decimal_json.specs.Tree.{Tree, null, boolean, number, text, list, object, Trees, no_trees, tree, Fields, no_fields, field}
use Rattle.fixed_num.specs.Decimal.{read_text}
use Rattle.prop_values.specs.Data as values
use Rattle.prop_values.specs.Data.{Data, pairs_of}
use Rattle.prop_values.specs.Equality.{at_key}
use Rattle.prop_values.specs.JsonData.{json_data}
use Rattle.expr_syntax.specs.BoundNames.{is_among}
use Rattle.expr_syntax.specs.Elements.{head_text, head_name, second, second_text, option_named}
use Rattle.expr_syntax.specs.Names.{row}
use Rattle.expr_syntax.specs.Parts.{operator_of}
use Rattle.expr_syntax.specs.ReadTerms.{names_within}
use Rattle.expr_syntax.specs.Reading.{global_term}
use Rattle.expr_syntax.specs.Rows.{allows, element_place, is_last}
use Rattle.expr_syntax.specs.Scopes.{Scope, globals, is_known, global_at}
use Rattle.expr_syntax.specs.Standing.{is_image_node, layout_outside}
use Rattle.expr_syntax.specs.Term.{Term, literal, node, no_terms, terms_of}
use Rattle.expr_syntax.specs.declared.expression.Operator.{Operator}
use Rattle.expr_syntax.specs.declared.expression.Operator.TheVariants.{Var, Format}
use Rattle.expr_syntax.specs.declared.names.Name.{Name}
use Rattle.expr_syntax.specs.declared.parts.FormatPiece.{FormatPiece}
use Rattle.expr_syntax.specs.declared.parts.Role.{Role}
use Rattle.expr_syntax.specs.declared.parts.Role.TheVariants.{Content}
use Rattle.expr_syntax.specs.declared.rows.ElementLayout.{ElementLayout}
use Rattle.expr_syntax.specs.declared.rows.ElementLayout.TheVariants as layouts
use Rattle.expr_syntax.specs.declared.rows.ElementPlace.{ElementPlace}
use Rattle.expr_syntax.specs.declared.rows.ElementPlace.TheVariants.{Part, Argument, Output}
use Rattle.expr_syntax.proofs.CountLaws.{count_trees}

abbrev pub Names : Type 0
Names = List (List ℕ)

abbrev pub Values : Type 0
Values = List (List ℕ × Data)

-- a part, or an argument, where a `format` may be or not
abbrev pub HereOr : ElementPlace → Bool → Type 0 → (Bool → Type 0) → Type 0
HereOr Part f A B = A
HereOr Argument f A B = B false
HereOr Output f A B = B f

-- ---- what a node is, by its layout

abbrev pub HasValue : Trees → Term → Term → Type 0
HasValue ts a b = (u : Tree) × (d : Data) × (second ts ≡ Some u) × (json_data u ≡ Ok d) × (a ≡ literal d) × (b ≡ literal d)

abbrev pub HasVariable : Trees → Names → Term → Term → Type 0
HasVariable ts N a b = (s : List ℕ) × (second_text ts ≡ Some s) × (is_among N s ≡ true) × (a ≡ node (Var s) no_terms) × (b ≡ node (Var s) no_terms)

abbrev pub HasGlobal : Values → Trees → Term → Term → Type 0
HasGlobal g ts a b =
    (s : List ℕ) × (second_text ts ≡ Some s) × (a ≡ global_term s (at_key s (pairs_of []))) × (b ≡ global_term s (at_key s (pairs_of g)))

abbrev pub HasArguments : ElementLayout → Name → Trees → Bool → Term → Term → (Operator → List Term → List Term → Type 0) → Type 0
HasArguments l name ts f a b A =
    (op : Operator) × (us : List Term) × (vs : List Term) × (operator_of l name (globals []) (count_trees ts) ts ≡ Ok op)
    × (layout_outside l ts f ≡ false) × (a ≡ node op (terms_of us)) × (b ≡ node op (terms_of vs)) × A op us vs

abbrev pub HasSections : Bool → Term → Term → (List FormatPiece → List Term → List Term → Type 0) → Type 0
HasSections f a b A =
    (ps : List FormatPiece) × (us : List Term) × (vs : List Term) × (f ≡ true)
    × (a ≡ node (Format ps) (terms_of us)) × (b ≡ node (Format ps) (terms_of vs)) × A ps us vs

abbrev pub LaidBy : ElementLayout → Type 0 → Type 0 → Type 0 → Type 0 → Type 0 → Type 0
LaidBy layouts.Value A B C D E = A
LaidBy layouts.Variable A B C D E = B
LaidBy layouts.Global A B C D E = C
LaidBy layouts.Sections A B C D E = D
LaidBy _ A B C D E = E

-- an argument more
abbrev pub MoreTerms : List Term → List Term → (Term → Term → List Term → List Term → Type 0) → Type 0
MoreTerms us vs A = (u : Term) × (v : Term) × (xs : List Term) × (ys : List Term) × (us ≡ u ∷ xs) × (vs ≡ v ∷ ys) × A u v xs ys

-- a piece more
abbrev pub MorePieces : List FormatPiece → FormatPiece → (List FormatPiece → Type 0) → Type 0
MorePieces ps p A = (qs : List FormatPiece) × (ps ≡ p ∷ qs) × A qs

abbrev pub Joined : List FormatPiece → List Term → List Term → (List FormatPiece → List Term → List Term → Type 0) → (List FormatPiece → List Term → List Term → Type 0) → Type 0
Joined ps us vs A B =
    (p : List FormatPiece) × (q : List FormatPiece) × (u : List Term) × (x : List Term) × (v : List Term) × (y : List Term)
    × (ps ≡ p ++ q) × (us ≡ u ++ x) × (vs ≡ v ++ y) × A p u v × B q x y

abbrev pub is_image_tree : Tree → Bool
is_image_tree (list ts) = is_image_node (head_text ts)
is_image_tree t = false

module _ (g : Values) where
  abbrev mutual
    -- in the names around it, where its root may be a `format` or not
    pub Parsed : Tree → Names → Bool → Term → Term → Type 0
    Parsed null N f a b = (a ≡ literal values.null) × (b ≡ literal values.null)
    Parsed (boolean c) N f a b = (a ≡ literal (values.boolean c)) × (b ≡ literal (values.boolean c))
    Parsed (number n) N f a b = (z : ℤ) × (read_text n ≡ Ok z) × (a ≡ literal (values.number z)) × (b ≡ literal (values.number z))
    Parsed (text s) N f a b = (a ≡ literal (values.text s)) × (b ≡ literal (values.text s))
    Parsed (list ts) N f a b =
        (name : Name) × (head_name ts ≡ Some name) × ((row name).is_outside ≡ false) × (allows (row name).arity (count_trees ts - 1) ≡ true)
        × LaidBy (row name).layout (HasValue ts a b) (HasVariable ts N a b) (HasGlobal g ts a b)
        (HasSections f a b (λ ps us vs. ParsedSections true 0 false ts N ps us vs))
        (HasArguments (row name).layout name ts f a b (λ op us vs. ParsedArguments (row name).layout (count_trees ts) 0 ts N (names_within op N) f us vs))
    Parsed (object fs) N f a b = ⊥

    -- the arguments of a node of n elements from place i on
    pub ParsedArguments : ElementLayout → ℕ → ℕ → Trees → Names → Names → Bool → List Term → List Term → Type 0
    ParsedArguments l n i no_trees N I f us vs = (us ≡ []) × (vs ≡ [])
    ParsedArguments l n i (tree t ts) N I f us vs =
        HereOr (element_place l n i) f (ParsedArguments l n (i + 1) ts N I f us vs)
        (λ h. MoreTerms us vs (λ u v xs ys. Parsed t (if is_last n i then I else N) h u v × ParsedArguments l n (i + 1) ts N I f xs ys))

    -- the sections of a `format` from place i on; the first element is its name
    pub ParsedSections : Bool → ℕ → Bool → Trees → Names → List FormatPiece → List Term → List Term → Type 0
    ParsedSections first i follows no_trees N ps us vs = (ps ≡ []) × (us ≡ []) × (vs ≡ [])
    ParsedSections true i follows (tree t ts) N ps us vs = ParsedSections false (i + 1) false ts N ps us vs
    ParsedSections false i follows (tree (object fs) ts) N ps us vs =
        (follows ≡ true) × Joined ps us vs (λ p u v. ParsedOptions i fs N p u v) (λ q x y. ParsedSections false (i + 1) false ts N q x y)
    ParsedSections false i follows (tree t ts) N ps us vs =
        (is_image_tree t ≡ false) × MorePieces ps (record { at = i; role = Content }) (λ qs. MoreTerms us vs (λ u v xs ys. Parsed t N false u v × ParsedSections false (i + 1) true ts N qs xs ys))

    pub ParsedOptions : ℕ → Fields → Names → List FormatPiece → List Term → List Term → Type 0
    ParsedOptions i no_fields N ps us vs = (ps ≡ []) × (us ≡ []) × (vs ≡ [])
    ParsedOptions i (field k t fs) N ps us vs =
        (role : Role) × (option_named k ≡ Some role)
        × MorePieces ps (record { at = i; role = role }) (λ qs. MoreTerms us vs (λ u v xs ys. Parsed t N false u v × ParsedOptions i fs N qs xs ys))

-- ---- a scope that has these names and values

pub record IsIn (scope : Scope) (N : Names) (g : Values) : Type 0 where
  pub known : (s : List ℕ) → is_known scope s ≡ is_among N s
  pub values : (s : List ℕ) → global_at scope s ≡ at_key s (pairs_of g)
