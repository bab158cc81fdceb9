-- A tree without a `global-state` node reads the same with any two lists of values of the global state.
use Rattle.std.proofs.Common.{◌≡◌, ◌∙◌, ℕ, suc, ◌+◌, ◌-◌, ◌<◌, List, [], ◌∷◌, ◌++◌, length, refl, ap, subst, arith, Bool, true, false}
use Rattle.std.proofs.lemmas.Bool.{lt-ltb, ne_eqb}
use Rattle.std.specs.Prelude.{not, ◌&&◌, ◌||◌, nat_eq, nat_lt, is_none, Option, Some, None, Result, Ok, Err, if◌then◌else◌}
use Rattle.decimal_json.specs.Tree.{Tree, null, boolean, number, text, list, object, Trees, no_trees, tree, Fields, no_fields, field}
use Rattle.decimal_json.specs.declared.paths.PathPart.{PathPart}
use Rattle.decimal_json.specs.declared.paths.PathPart.TheVariants.{Key}
use Rattle.prop_values.specs.Data.{Data}
use Rattle.expr_syntax.specs.declared.fault.SynFault.{SynFault}
use Rattle.expr_syntax.specs.declared.fault.SynCode.{SynCode}
use Rattle.expr_syntax.specs.declared.fault.SynCode.TheVariants as code
use Rattle.expr_syntax.specs.declared.names.Name.{Name}
use Rattle.expr_syntax.specs.declared.parts.Role.{Role}
use Rattle.expr_syntax.specs.declared.parts.Role.TheVariants.{Content}
use Rattle.expr_syntax.specs.declared.rows.ElementLayout.{ElementLayout}
use Rattle.expr_syntax.specs.declared.rows.ElementLayout.TheVariants as layouts
use Rattle.expr_syntax.specs.declared.rows.ElementPlace.{ElementPlace}
use Rattle.expr_syntax.specs.declared.rows.ElementPlace.TheVariants.{Part, Argument, Output}
use Rattle.expr_syntax.specs.declared.expression.Operator.{Operator}
use Rattle.expr_syntax.specs.Elements.{head_text, name_in, second, second_text, option_named}
use Rattle.expr_syntax.specs.Names.{row, name_of}
use Rattle.expr_syntax.specs.Parts.{operator_of}
use Rattle.expr_syntax.specs.Reading.{Read, Reader, read, options, elements, members, array_read, named_read, node_read, literal_read, global_read, arguments, and_term, then_node, with_operator, names_in, at, fault, is_part, then_term, then_sections, with_piece, option_read, options_read, section_read, sections_read, all_sections, no_sections, then_format, is_value_layout, is_global_layout, inside, reading_with}
use Rattle.expr_syntax.specs.Rows.{allows, element_place, is_last}
use Rattle.expr_syntax.specs.Scopes.{Scope, globals}
use Rattle.expr_syntax.specs.Standing as standing
use Rattle.expr_syntax.specs.Standing.{is_format_layout, is_outside}
use Rattle.expr_syntax.specs.ReadView.{uses_globals}
use Rattle.expr_syntax.specs.Term.{Term}
use Rattle.global_laws.proofs.GlobalForms.{FormatArguments, SameNames, names_within, operator_same}

-- it reads the same in two scopes that know the same names of `let`
abbrev IsSteady : Reader → Type 0
IsSteady r = (new old : Scope) (path : List PathPart) → SameNames new old → r new path ≡ r old path

-- The type of what is sought in a tree has no name outside of its crate.
abbrev domain_of : {A B : Type 0} → (A → B) → Type 0
domain_of {A} f = A

abbrev Sought : Type 0
Sought = domain_of standing.is_for_global

left_false : (x y : Bool) → (x || y) ≡ false → x ≡ false
left_false false y h = refl
left_false true y h = h

right_false : (x y : Bool) → (x || y) ≡ false → y ≡ false
right_false false y h = h
right_false true y h = absurd (cc)

both_false : (x y : Bool) → x ≡ true → (x && y) ≡ false → y ≡ false
both_false true y is h = h
both_false false y is h = absurd (cc)

-- ---- parts of reading

either_scope : (b : Bool) (r : Reader) (inner scope within around : Scope) (path : List PathPart) → IsSteady r →
    SameNames inner within → SameNames scope around →
    r (if b then inner else scope) path ≡ r (if b then within else around) path
either_scope true r inner scope within around path h m n = h inner within path m
either_scope false r inner scope within around path h m n = h scope around path n

unless_part : (b : Bool) (r s : Read) (later after : Result (List Term) SynFault) → (b ≡ false → r ≡ s) → later ≡ after →
    (if b then later else and_term r later) ≡ (if b then after else and_term s after)
unless_part true r s later after h k = k
unless_part false r s later after h k = λ i. and_term (h refl i) (k i)

unless : {A : Type 0} (b : Bool) (x y p q : A) → b ≡ false → p ≡ q → (if b then x else p) ≡ (if b then y else q)
unless false x y p q is same = same
unless true x y p q is same = absurd (cc)

same_options : (t : Tree) → is_none (standing.options t) ≡ is_none (options t)
same_options null = refl
same_options (boolean b) = refl
same_options (number n) = refl
same_options (text s) = refl
same_options (list ts) = refl
same_options (object fs) = refl

as_long : (ts : Trees) → length (standing.elements ts) ≡ length (elements ts)
as_long no_trees = refl
as_long (tree t ts) = ap suc (as_long ts)

module _ (out global : Sought) (for_out : standing.is_for_global out ≡ false) (for_global : standing.is_for_global global ≡ true) where
  -- a tree without what is outside and without `global-state` nodes
  abbrev IsSteadyTree : Tree → Type 0
  IsSteadyTree t = (format : Bool) → standing.stands t out format ≡ false → standing.stands t global format ≡ false → IsSteady (read t)

  abbrev AreSteadyFields : Fields → Type 0
  AreSteadyFields no_fields = Unit {0}
  AreSteadyFields (field k t fs) = IsSteadyTree t × AreSteadyFields fs

  abbrev HasSteadyOptions : Tree → Type 0
  HasSteadyOptions (object fs) = AreSteadyFields fs
  HasSteadyOptions t = Unit {0}

  abbrev AreSteadyTrees : Trees → Type 0
  AreSteadyTrees no_trees = Unit {0}
  AreSteadyTrees (tree t ts) = IsSteadyTree t × HasSteadyOptions t × AreSteadyTrees ts

  -- ---- arguments by places

  steady_at : (place : ElementPlace) (t : Tree) (format : Bool) → IsSteadyTree t
      → standing.in_element place (standing.stands t) out format ≡ false
      → standing.in_element place (standing.stands t) global format ≡ false → is_part place ≡ false → IsSteady (read t)
  steady_at Part t format one none unused part = absurd (cc)
  steady_at Argument t format one none unused part = one false none unused
  steady_at Output t format one none unused part = one format none unused

  arguments_steady : (layout : ElementLayout) (n : ℕ) (ts : Trees) (i : ℕ) (format : Bool) → AreSteadyTrees ts
      → standing.some_element layout n i (standing.elements ts) out format ≡ false
      → standing.some_element layout n i (standing.elements ts) global format ≡ false
      → (inner scope within around : Scope) (path : List PathPart) → SameNames inner within → SameNames scope around
      → arguments layout n i (elements ts) inner scope path ≡ arguments layout n i (elements ts) within around path
  arguments_steady layout n no_trees i format all none unused inner scope within around path m k = refl
  arguments_steady layout n (tree t ts) i format all none unused inner scope within around path m k =
      let place = element_place layout n i in
      let first = λ (s : Sought). standing.in_element place (standing.stands t) s format in
      let rest = λ (s : Sought). standing.some_element layout n (i + 1) (standing.elements ts) s format in
      unless_part (is_part place) _ _ _ _
      (λ part. either_scope (is_last n i) (read t) inner scope within around (at path i)
      (steady_at place t format all.0 (left_false (first out) (rest out) none) (left_false (first global) (rest global) unused) part) m k)
      (arguments_steady layout n ts (i + 1) format all.2 (right_false (first out) (rest out) none) (right_false (first global) (rest global) unused)
      inner scope within around path m k)

  with_steady : (layout : ElementLayout) (op : Result Operator SynCode) (ts : Trees) (format : Bool) → AreSteadyTrees ts
      → standing.some_element layout (length (elements ts)) 0 (standing.elements ts) out format ≡ false
      → standing.some_element layout (length (elements ts)) 0 (standing.elements ts) global format ≡ false
      → IsSteady (with_operator layout (elements ts) op)
  with_steady layout (Ok op) ts format all none unused new old path same = λ k.
      then_node op (arguments_steady layout (length (elements ts)) ts 0 format all none unused (names_in op new) new (names_in op old) old path
      (names_within op new old same) same k)
  with_steady layout (Err c) ts format all none unused new old path same = refl

  -- ---- `format`

  option_steady : (i : ℕ) (role : Option Role) (key : List ℕ) (r : Reader) (new old : Scope) (path : List PathPart)
      → IsSteady r → SameNames new old → (found : FormatArguments)
      → option_read i role key r new path found ≡ option_read i role key r old path found
  option_steady i (Some role) key r new old path h same found = λ k.
      then_term (h new old (path ++ Key key ∷ []) same k) (λ t. Ok (with_piece i role found t))
  option_steady i None key r new old path h same found = refl

  options_steady : (i : ℕ) (fs : Fields) (new old : Scope) (path : List PathPart) → AreSteadyFields fs
      → standing.some_option (standing.members fs) out ≡ false → standing.some_option (standing.members fs) global ≡ false
      → SameNames new old → (found : FormatArguments)
      → options_read i (members fs) new path found ≡ options_read i (members fs) old path found
  options_steady i no_fields new old path all none unused same found = refl
  options_steady i (field key t fs) new old path all none unused same found =
      let first = λ (s : Sought). standing.stands t s false in
      let rest = λ (s : Sought). standing.some_option (standing.members fs) s in
      let here = all.0 false (left_false (first out) (rest out) none) (left_false (first global) (rest global) unused) in λ k.
      then_sections (option_steady i (option_named key) key (read t) new old path here same found k)
      (λ more. options_steady i fs new old path all.1 (right_false (first out) (rest out) none) (right_false (first global) (rest global) unused) same more k)

  content_steady : (i : ℕ) (place : ℕ) (t : Tree) (new old : Scope) (path : List PathPart) → 0 < place → IsSteadyTree t
      → (nat_lt 0 place && standing.stands t out false) ≡ false → (nat_lt 0 place && standing.stands t global false) ≡ false
      → SameNames new old → (found : FormatArguments)
      → then_term (read t new path) (λ a. Ok (with_piece i Content found a)) ≡ then_term (read t old path) (λ a. Ok (with_piece i Content found a))
  content_steady i place t new old path after one none unused same found =
      let is = lt-ltb 0 place after in λ k.
      then_term (one false (both_false (nat_lt 0 place) (standing.stands t out false) is none) (both_false (nat_lt 0 place) (standing.stands t global false) is unused) new old path same k)
      (λ a. Ok (with_piece i Content found a))

  section_steady : (i : ℕ) (follows : Bool) (t : Tree) (new old : Scope) (path : List PathPart) → 0 < i → IsSteadyTree t → HasSteadyOptions t
      → standing.in_section i follows (standing.options t) (standing.stands t) out ≡ false
      → standing.in_section i follows (standing.options t) (standing.stands t) global ≡ false
      → SameNames new old → (found : FormatArguments)
      → section_read i follows (options t) (read t) new path found ≡ section_read i follows (options t) (read t) old path found
  section_steady i true (object fs) new old path after one all none unused same found = options_steady i fs new old path all none unused same found
  section_steady i false (object fs) new old path after one all none unused same found = refl
  section_steady i follows null new old path after one all none unused same found = content_steady i i null new old path after one none unused same found
  section_steady i follows (boolean b) new old path after one all none unused same found = content_steady i i (boolean b) new old path after one none unused same found
  section_steady i follows (number n) new old path after one all none unused same found = content_steady i i (number n) new old path after one none unused same found
  section_steady i follows (text s) new old path after one all none unused same found = content_steady i i (text s) new old path after one none unused same found
  section_steady i follows (list us) new old path after one all none unused same found = content_steady i i (list us) new old path after one none unused same found

  sections_steady : (ts : Trees) (i : ℕ) (follows : Bool) (new old : Scope) (path : List PathPart) → 0 < i → AreSteadyTrees ts
      → standing.some_section i follows (standing.elements ts) out ≡ false
      → standing.some_section i follows (standing.elements ts) global ≡ false
      → SameNames new old → (found : FormatArguments)
      → sections_read i follows (elements ts) new path found ≡ sections_read i follows (elements ts) old path found
  sections_steady no_trees i follows new old path after all none unused same found = refl
  sections_steady (tree t ts) i follows new old path after all none unused same found =
      let first = λ (s : Sought). standing.in_section i follows (standing.options t) (standing.stands t) s in
      let later = λ (b : Bool) (s : Sought). standing.some_section (i + 1) b (standing.elements ts) s in
      let rest = λ (s : Sought). later (nat_lt 0 i && is_none (standing.options t)) s in
      let next : (nat_lt 0 i && is_none (standing.options t)) ≡ is_none (options t) =
      ap (λ b. b && is_none (standing.options t)) (lt-ltb 0 i after) ∙ same_options t in
      let here = section_steady i follows t new old (at path i) after all.0 all.1 (left_false (first out) (rest out) none) (left_false (first global) (rest global) unused) same found in
      let more = λ (a : FormatArguments). sections_steady ts (i + 1) (is_none (options t)) new old path (omega arith) all.2
      (subst (λ b. later b out ≡ false) next (right_false (first out) (rest out) none))
      (subst (λ b. later b global ≡ false) next (right_false (first global) (rest global) unused)) same a in
      unless (nat_eq i 0) _ _ _ _ (ne_eqb i 0 (λ e. omega (arith, e, after))) (λ k. then_sections (here k) (λ a. more a k))

  in_section_0 : (o : Option (List (List ℕ × standing.Walker))) (w : standing.Walker) (s : Sought) (b : Bool)
      → (standing.in_section 0 false o w s || b) ≡ false → b ≡ false
  in_section_0 (Some ms) w s b h = h
  in_section_0 None w s b h = h

  all_steady : (ts : Trees) → AreSteadyTrees ts → standing.some_section 0 false (standing.elements ts) out ≡ false
      → standing.some_section 0 false (standing.elements ts) global ≡ false → IsSteady (λ scope path. then_format (all_sections (elements ts) scope path))
  all_steady no_trees all none unused new old path same = refl
  all_steady (tree t ts) all none unused new old path same =
      let rest = λ (s : Sought). standing.some_section 1 false (standing.elements ts) s in λ k.
      then_format (sections_steady ts 1 false new old path (omega arith) all.2
      (in_section_0 (standing.options t) (standing.stands t) out (rest out) none)
      (in_section_0 (standing.options t) (standing.stands t) global (rest global) unused) same no_sections k)

  -- ---- nodes

  module _ (ts : Trees) (all : AreSteadyTrees ts) (format : Bool) where
    -- what is sought in a node, by whether it is for `global-state`, is outside, and has as many elements as it may
    abbrev stands_by : Sought → ElementLayout → Bool → Bool → Bool → Bool
    stands_by s layout seeks is_out fits =
        if is_out then not seeks else
        if seeks && standing.is_global_layout layout then true else
        if not fits then false else
        if is_format_layout layout then standing.some_section 0 false (standing.elements ts) s else
        standing.some_element layout (length (elements ts)) 0 (standing.elements ts) s format

    abbrev read_by : ElementLayout → Bool → (Scope → Result Operator SynCode) → Reader
    read_by layout fits op scope path =
        if not fits then fault path code.Arity
        else if is_value_layout layout then literal_read (second ts) path
        else if is_global_layout layout then global_read (second_text ts) scope path
        else if is_format_layout layout then then_format (all_sections (elements ts) scope path)
        else with_operator layout (elements ts) (op scope) scope path

    by_places : (layout : ElementLayout) (op : Scope → Result Operator SynCode) → ((new old : Scope) → SameNames new old → op new ≡ op old)
        → standing.some_element layout (length (elements ts)) 0 (standing.elements ts) out format ≡ false
        → standing.some_element layout (length (elements ts)) 0 (standing.elements ts) global format ≡ false
        → IsSteady (λ scope path. with_operator layout (elements ts) (op scope) scope path)
    by_places layout op alike none unused new old path same =
        with_steady layout (op new) ts format all none unused new old path same
        ∙ ap (λ o. with_operator layout (elements ts) o old path) (alike new old same)

    layout_steady : (layout : ElementLayout) (is_out fits : Bool) (op : Scope → Result Operator SynCode) → ((new old : Scope) → SameNames new old → op new ≡ op old)
        → stands_by out layout false is_out fits ≡ false → stands_by global layout true is_out fits ≡ false → IsSteady (read_by layout fits op)
    layout_steady layout true fits op alike none unused = absurd (cc)
    layout_steady layout false false op alike none unused = λ new old path same. refl
    layout_steady layouts.Global false true op alike none unused = absurd (cc)
    layout_steady layouts.Sections false true op alike none unused = all_steady ts all none unused
    layout_steady layouts.Value false true op alike none unused = λ new old path same. refl
    layout_steady layout false true op alike none unused = by_places layout op alike none unused

    node_steady : (name : Name) → standing.node_stands name ts (standing.elements ts) out format ≡ false
        → standing.node_stands name ts (standing.elements ts) global format ≡ false → IsSteady (node_read name ts (elements ts))
    node_steady name none unused =
        let layout = (row name).layout in
        let is_out = standing.is_outside_node name ts format in
        let fits = λ (n : ℕ). allows (row name).arity (n - 1) in
        let by = λ (s : Sought) (seeks : Bool) (n : ℕ).
        (if is_out then not seeks else
        if seeks && standing.is_global_layout layout then true else
        if not (fits n) then false else
        if is_format_layout layout then standing.some_section 0 false (standing.elements ts) s else
        standing.some_element layout n 0 (standing.elements ts) s format) in
        layout_steady layout is_out (fits (length (elements ts))) (λ scope. operator_of layout name scope (length (elements ts)) ts)
        (λ new old same. operator_same layout name new old (length (elements ts)) ts same)
        (subst (λ seeks. by out seeks (length (elements ts)) ≡ false) for_out (subst (λ n. by out (standing.is_for_global out) n ≡ false) (as_long ts) none))
        (subst (λ seeks. by global seeks (length (elements ts)) ≡ false) for_global (subst (λ n. by global (standing.is_for_global global) n ≡ false) (as_long ts) unused))

    named_steady : (name : Option Name) → standing.array_stands name ts (standing.elements ts) out format ≡ false
        → standing.array_stands name ts (standing.elements ts) global format ≡ false → IsSteady (named_read name ts (elements ts))
    named_steady None none unused = λ new old path same. refl
    named_steady (Some name) none unused = node_steady name none unused

    array_steady : (head : Option (List ℕ)) → standing.array_stands (name_in head) ts (standing.elements ts) out format ≡ false
        → standing.array_stands (name_in head) ts (standing.elements ts) global format ≡ false → IsSteady (array_read head ts (elements ts))
    array_steady None none unused = λ new old path same. refl
    array_steady (Some s) none unused = named_steady (name_of s) none unused

  mutual
    tree_steady : (t : Tree) → IsSteadyTree t
    tree_steady null = λ format none unused new old path same. refl
    tree_steady (boolean b) = λ format none unused new old path same. refl
    tree_steady (number n) = λ format none unused new old path same. refl
    tree_steady (text s) = λ format none unused new old path same. refl
    tree_steady (list ts) = λ format none unused. array_steady ts (trees_steady ts) format (head_text ts) none unused
    tree_steady (object fs) = λ format none unused new old path same. refl

    options_of : (t : Tree) → HasSteadyOptions t
    options_of null = tt
    options_of (boolean b) = tt
    options_of (number n) = tt
    options_of (text s) = tt
    options_of (list ts) = tt
    options_of (object fs) = fields_steady fs

    trees_steady : (ts : Trees) → AreSteadyTrees ts
    trees_steady no_trees = tt
    trees_steady (tree t ts) = (tree_steady t, options_of t, trees_steady ts)

    fields_steady : (fs : Fields) → AreSteadyFields fs
    fields_steady no_fields = tt
    fields_steady (field k t fs) = (tree_steady t, fields_steady fs)

-- ---- the whole

pub read_without_globals : (t : Tree) (new old : List (List ℕ × Data)) → uses_globals t ≡ false → reading_with t new ≡ reading_with t old
read_without_globals t new old unused = by (is_outside t) refl
  where
    by : (b : Bool) → is_outside t ≡ b
        → (if b then Ok None else inside (read t (globals new) [])) ≡ (if b then Ok None else inside (read t (globals old) []))
    by true is = refl
    by false is = ap inside (tree_steady _ _ refl refl t true is unused (globals new) (globals old) [] (λ name. refl))
