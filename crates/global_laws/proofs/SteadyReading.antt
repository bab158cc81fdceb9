-- A tree in which no text is `global-state` reads the same with any two lists of values of the global state.
use Rattle.std.proofs.Common.{◌≡◌, ◌∙◌, ℕ, ◌+◌, ◌-◌, List, [], ◌∷◌, ◌++◌, length, refl, sym, ap, subst, Bool, true, false, Option, Some, None, Result, Ok, Err}
use Rattle.std.specs.Prelude.{not, ◌||◌, nat_eq, is_none, codes, if◌then◌else◌}
use Rattle.std.specs.Str.{bytes_eq}
use Rattle.std.proofs.lemmas.Bool.{false≢true}
use Rattle.std.proofs.lemmas.Slice.Eq.{bytes_eq-Decides}
use Rattle.decimal_json.specs.Tree.{Tree, null, boolean, number, text, list, object, Trees, no_trees, tree, Fields, no_fields, field}
use Rattle.decimal_json.specs.declared.paths.PathPart.{PathPart}
use Rattle.decimal_json.specs.declared.paths.PathPart.TheVariants.{Key}
use Rattle.expr_syntax.specs.declared.fault.SynCode.{SynCode}
use Rattle.expr_syntax.specs.declared.fault.SynCode.TheVariants as code
use Rattle.expr_syntax.specs.declared.parts.Role.{Role}
use Rattle.expr_syntax.specs.declared.parts.Role.TheVariants.{Content}
use Rattle.expr_syntax.specs.declared.names.Name.{Name}
use Rattle.expr_syntax.specs.declared.names.Name.TheVariants.{GlobalState}
use Rattle.expr_syntax.specs.declared.rows.ElementLayout.{ElementLayout}
use Rattle.expr_syntax.specs.declared.expression.Operator.{Operator}
use Rattle.expr_syntax.specs.Elements.{Element, head_text, second, second_text, option_named}
use Rattle.expr_syntax.specs.Names.{row, name_of, first_named, names}
use Rattle.expr_syntax.specs.Parts.{operator_of}
use Rattle.expr_syntax.specs.Reading.{Read, Reader, read, options, elements, members, array_read, named_read, node_read, literal_read, global_read, arguments, and_term, then_node, with_operator, names_in, at, fault, is_part, then_term, then_sections, with_piece, option_read, options_read, section_read, sections_read, no_sections, then_format, is_value_layout, is_global_layout, inside}
use Rattle.expr_syntax.specs.Rows.{allows, element_place, is_last}
use Rattle.expr_syntax.specs.Scopes.{Scope, globals}
use Rattle.expr_syntax.specs.Standing.{is_format_layout, is_outside}
use Rattle.global_laws.specs.GlobalLaw.{names_globals, items_name_globals, members_name_globals, OtherTreesReadTheSame}
use Rattle.global_laws.proofs.GlobalForms.{FormatArguments, SameNames, names_within, operator_same}

-- ---- the parts of reading that know the same names of `let`

abbrev IsSteady : Reader → Type 0
IsSteady r = (new old : Scope) (path : List PathPart) → SameNames new old → r new path ≡ r old path

abbrev AreSteadyMembers : List (List ℕ × Reader) → Type 0
AreSteadyMembers [] = Unit {0}
AreSteadyMembers (m ∷ ms) = IsSteady m.1 × AreSteadyMembers ms

abbrev AreSteadyOptions : Option (List (List ℕ × Reader)) → Type 0
AreSteadyOptions None = Unit {0}
AreSteadyOptions (Some ms) = AreSteadyMembers ms

abbrev AreSteady : List (Element Reader) → Type 0
AreSteady [] = Unit {0}
AreSteady (e ∷ es) = IsSteady e.0 × AreSteadyOptions e.1 × AreSteady es

-- ---- arguments

either_scope : (b : Bool) (r : Reader) (inner scope inside' outside : Scope) (path : List PathPart) → IsSteady r →
    SameNames inner inside' → SameNames scope outside →
    r (if b then inner else scope) path ≡ r (if b then inside' else outside) path
either_scope true r inner scope inside' outside path h m n = h inner inside' path m
either_scope false r inner scope inside' outside path h m n = h scope outside path n

arguments_steady : (layout : ElementLayout) (n i : ℕ) (es : List (Element Reader)) (inner scope inside' outside : Scope)
    (path : List PathPart) → AreSteady es → SameNames inner inside' → SameNames scope outside →
    arguments layout n i es inner scope path ≡ arguments layout n i es inside' outside path
arguments_steady layout n i [] inner scope inside' outside path h m k = refl
arguments_steady layout n i (e ∷ es) inner scope inside' outside path h m k = λ j.
    let rest = arguments_steady layout n (i + 1) es inner scope inside' outside path h.2 m k j in
    if is_part (element_place layout n i) then rest
    else and_term (either_scope (is_last n i) e.0 inner scope inside' outside (at path i) h.0 m k j) rest

with_steady : (layout : ElementLayout) (es : List (Element Reader)) (op : Result Operator SynCode) → AreSteady es →
    IsSteady (with_operator layout es op)
with_steady layout es (Ok op) h new old path same = λ k.
    then_node op (arguments_steady layout (length es) 0 es (names_in op new) new (names_in op old) old path h
    (names_within op new old same) same k)
with_steady layout es (Err c) h new old path same = refl

-- ---- `format`

option_steady : (i : ℕ) (role : Option Role) (key : List ℕ) (r : Reader) (new old : Scope) (path : List PathPart) →
    IsSteady r → SameNames new old → (found : FormatArguments) →
    option_read i role key r new path found ≡ option_read i role key r old path found
option_steady i (Some role) key r new old path h same found = λ k.
    then_term (h new old (path ++ Key key ∷ []) same k) (λ t. Ok (with_piece i role found t))
option_steady i None key r new old path h same found = refl

options_steady : (i : ℕ) (ms : List (List ℕ × Reader)) (new old : Scope) (path : List PathPart) → AreSteadyMembers ms →
    SameNames new old → (found : FormatArguments) →
    options_read i ms new path found ≡ options_read i ms old path found
options_steady i [] new old path h same found = refl
options_steady i (m ∷ ms) new old path h same found = λ k.
    then_sections (option_steady i (option_named m.0) m.0 m.1 new old path h.0 same found k)
    (λ more. options_steady i ms new old path h.1 same more k)

section_steady : (i : ℕ) (follows : Bool) (o : Option (List (List ℕ × Reader))) (r : Reader) (new old : Scope)
    (path : List PathPart) → IsSteady r → AreSteadyOptions o → SameNames new old → (found : FormatArguments) →
    section_read i follows o r new path found ≡ section_read i follows o r old path found
section_steady i follows (Some ms) r new old path h k same found = λ j.
    if follows then options_steady i ms new old path k same found j else fault path code.BareObject
section_steady i follows None r new old path h k same found = λ j.
    then_term (h new old path same j) (λ t. Ok (with_piece i Content found t))

sections_steady : (i : ℕ) (follows : Bool) (es : List (Element Reader)) (new old : Scope) (path : List PathPart) →
    AreSteady es → SameNames new old → (found : FormatArguments) →
    sections_read i follows es new path found ≡ sections_read i follows es old path found
sections_steady i follows [] new old path h same found = refl
sections_steady i follows (e ∷ es) new old path h same found = λ k.
    if nat_eq i 0 then sections_steady (i + 1) false es new old path h.2 same found k
    else then_sections (section_steady i follows e.1 e.0 new old (at path i) h.0 h.1 same found k)
    (λ more. sections_steady (i + 1) (is_none e.1) es new old path h.2 same more k)

-- ---- nodes: a name with another text has another row

global_text : (n : Name) → is_global_layout (row n).layout ≡ true → (row n).text ≡ codes "global-state"
global_text GlobalState h = refl
global_text n h = absurd (false≢true h)

found_by : (s : List ℕ) (m n : Name) (rest : Option Name) (b : Bool) → bytes_eq (row m).text s ≡ b →
    (if b then Some m else rest) ≡ Some n → (rest ≡ Some n → (row n).text ≡ s) → (row n).text ≡ s
found_by s m n rest true e h go = let same : m ≡ n = cc in subst (λ x. (row x).text ≡ s) same ((bytes_eq-Decides (row m).text s).0 e)
found_by s m n rest false e h go = go h

found_text : (s : List ℕ) (ns : List Name) (n : Name) → first_named s ns ≡ Some n → (row n).text ≡ s
found_text s [] n h = absurd (cc)
found_text s (m ∷ ns) n h = found_by s m n (first_named s ns) (bytes_eq (row m).text s) refl h (found_text s ns n)

other_layout : (s : List ℕ) (n : Name) → name_of s ≡ Some n → bytes_eq s (codes "global-state") ≡ false →
    is_global_layout (row n).layout ≡ false
other_layout s n h other = by (is_global_layout (row n).layout) refl
  where
    by : (b : Bool) → is_global_layout (row n).layout ≡ b → b ≡ false
    by false e = refl
    by true e =
        let same : s ≡ codes "global-state" = sym (found_text s names n h) ∙ global_text n e in
        absurd (false≢true (sym other ∙ (bytes_eq-Decides s (codes "global-state")).1 same))

unless : (b : Bool) (x y p q : Read) → b ≡ false → p ≡ q → (if b then x else p) ≡ (if b then y else q)
unless false x y p q h e = e
unless true x y p q h e = absurd (cc)

node_steady : (name : Name) (ts : Trees) (es : List (Element Reader)) → is_global_layout (row name).layout ≡ false →
    AreSteady es → IsSteady (node_read name ts es)
node_steady name ts es other h new old path same = λ k.
    if not (allows (row name).arity (length es - 1)) then fault path code.Arity
    else if is_value_layout (row name).layout then literal_read (second ts) path
    else unless (is_global_layout (row name).layout) (global_read (second_text ts) new path) (global_read (second_text ts) old path) _ _
    other by_layout k
  where
    by_operator : with_operator (row name).layout es (operator_of (row name).layout name new (length es) ts) new path ≡ with_operator (row name).layout es (operator_of (row name).layout name old (length es) ts) old path
    by_operator =
        with_steady (row name).layout es (operator_of (row name).layout name new (length es) ts) h new old path same
        ∙ ap (λ op. with_operator (row name).layout es op old path) (operator_same (row name).layout name new old (length es) ts same)

    by_layout : (if is_format_layout (row name).layout then then_format (sections_read 0 false es new path no_sections) else with_operator (row name).layout es (operator_of (row name).layout name new (length es) ts) new path) ≡ (if is_format_layout (row name).layout then then_format (sections_read 0 false es old path no_sections) else with_operator (row name).layout es (operator_of (row name).layout name old (length es) ts) old path)
    by_layout = λ k. if is_format_layout (row name).layout then then_format (sections_steady 0 false es new old path h same no_sections k) else by_operator k

named_steady : (s : List ℕ) (name : Option Name) (ts : Trees) (es : List (Element Reader)) → name_of s ≡ name →
    bytes_eq s (codes "global-state") ≡ false → AreSteady es → IsSteady (named_read name ts es)
named_steady s None ts es e other h new old path same = refl
named_steady s (Some name) ts es e other h new old path same =
    node_steady name ts es (other_layout s name e other) h new old path same

-- the text that an array begins with is another
abbrev HasOtherHead : Option (List ℕ) → Type 0
HasOtherHead None = Unit {0}
HasOtherHead (Some s) = bytes_eq s (codes "global-state") ≡ false

array_steady : (head : Option (List ℕ)) (ts : Trees) (es : List (Element Reader)) → HasOtherHead head → AreSteady es →
    IsSteady (array_read head ts es)
array_steady None ts es other h new old path same = refl
array_steady (Some s) ts es other h new old path same = named_steady s (name_of s) ts es refl other h new old path same

-- ---- trees

left_false : (x y : Bool) → (x || y) ≡ false → x ≡ false
left_false false y h = refl
left_false true y h = h

right_false : (x y : Bool) → (x || y) ≡ false → y ≡ false
right_false false y h = h
right_false true y h = absurd (cc)

other_head : (ts : Trees) → items_name_globals ts ≡ false → HasOtherHead (head_text ts)
other_head no_trees h = tt
other_head (tree null ts) h = tt
other_head (tree (boolean b) ts) h = tt
other_head (tree (number n) ts) h = tt
other_head (tree (text s) ts) h = left_false (bytes_eq s (codes "global-state")) (items_name_globals ts) h
other_head (tree (list us) ts) h = tt
other_head (tree (object fs) ts) h = tt

mutual
  read_steady : (t : Tree) → names_globals t ≡ false → IsSteady (read t)
  read_steady null h = λ new old path same. refl
  read_steady (boolean b) h = λ new old path same. refl
  read_steady (number n) h = λ new old path same. refl
  read_steady (text s) h = λ new old path same. refl
  read_steady (list ts) h = array_steady (head_text ts) ts (elements ts) (other_head ts h) (elements_steady ts h)
  read_steady (object fs) h = λ new old path same. refl

  their_options : (t : Tree) → names_globals t ≡ false → AreSteadyOptions (options t)
  their_options null h = tt
  their_options (boolean b) h = tt
  their_options (number n) h = tt
  their_options (text s) h = tt
  their_options (list ts) h = tt
  their_options (object fs) h = members_steady fs h

  elements_steady : (ts : Trees) → items_name_globals ts ≡ false → AreSteady (elements ts)
  elements_steady no_trees h = tt
  elements_steady (tree t ts) h =
      let first = left_false (names_globals t) (items_name_globals ts) h in
      (read_steady t first, their_options t first, elements_steady ts (right_false (names_globals t) (items_name_globals ts) h))

  members_steady : (fs : Fields) → members_name_globals fs ≡ false → AreSteadyMembers (members fs)
  members_steady no_fields h = tt
  members_steady (field key t fs) h = (
    read_steady t (left_false (names_globals t) (members_name_globals fs) h),
    members_steady fs (right_false (names_globals t) (members_name_globals fs) h),
  )

pub other_trees_read_the_same : OtherTreesReadTheSame
other_trees_read_the_same t new old h = λ k.
    if is_outside t then Ok None else inside (read_steady t h (globals new) (globals old) [] (λ name. refl) k)
