-- A tree reads alike with any two lists of values of the global state.
use Rattle.std.proofs.Common.{◌≡◌, ℕ, ◌+◌, ◌-◌, List, [], ◌∷◌, ◌++◌, length, refl, subst, Bool, true, false, Option, Some, None, Result, Ok, Err}
use Rattle.std.specs.Prelude.{not, ◌||◌, nat_eq, is_none, if◌then◌else◌}
use Rattle.decimal_json.specs.Tree.{Tree, null, boolean, number, text, list, object, Trees, no_trees, tree, Fields, no_fields, field}
use Rattle.decimal_json.specs.declared.paths.PathPart.{PathPart}
use Rattle.decimal_json.specs.declared.paths.PathPart.TheVariants.{Key}
use Rattle.fixed_num.specs.Decimal.{read_text}
use Rattle.expr_syntax.specs.declared.fault.SynFault.{SynFault}
use Rattle.expr_syntax.specs.declared.fault.SynCode.{SynCode}
use Rattle.expr_syntax.specs.declared.fault.SynCode.TheVariants as code
use Rattle.expr_syntax.specs.declared.parts.FormatPiece.{FormatPiece}
use Rattle.expr_syntax.specs.declared.parts.Role.{Role}
use Rattle.expr_syntax.specs.declared.parts.Role.TheVariants.{Content}
use Rattle.expr_syntax.specs.declared.names.Name.{Name}
use Rattle.expr_syntax.specs.declared.rows.ElementLayout.{ElementLayout}
use Rattle.expr_syntax.specs.declared.rows.ElementLayout.TheVariants as layouts
use Rattle.expr_syntax.specs.declared.expression.Operator.{Operator}
use Rattle.expr_syntax.specs.declared.expression.Operator.TheVariants.{Let, Var, Format}
use Rattle.expr_syntax.specs.BoundNames.{is_among}
use Rattle.expr_syntax.specs.Elements.{Element, head_text, second, second_text, option_named}
use Rattle.expr_syntax.specs.Names.{row, name_of}
use Rattle.expr_syntax.specs.Parts.{operator_of, var_operator}
use Rattle.expr_syntax.specs.Reading.{Read, Reader, read, options, elements, members, array_read, named_read, node_read, number_read, literal_read, global_read, arguments, and_term, then_node, with_operator, names_in, at, fault, is_part, then_term, then_sections, with_piece, option_read, options_read, section_read, sections_read, no_sections, then_format, is_value_layout, is_global_layout, inside}
use Rattle.expr_syntax.specs.Rows.{allows, element_place, is_last}
use Rattle.expr_syntax.specs.Scopes.{Scope, globals, frame, is_known, global_at}
use Rattle.expr_syntax.specs.Standing.{is_format_layout, is_outside}
use Rattle.expr_syntax.specs.Term.{Term, node, terms_of}
use Rattle.expr_types.specs.Checked.{allowed}
use Rattle.expr_types.specs.declared.standing.Standing.TheVariants.{Reached}
use Rattle.global_laws.specs.GlobalLaw.{HasTheSameForm, IsReadAlike, GlobalValuesChangeNoForm}
use Rattle.global_laws.proofs.SameTerms.{SameTerm, SameList, same_itself, nodes_same, push_same, globals_same}

-- ---- what is shown of each part of reading

abbrev SameRead : Read → Read → Type 0
SameRead (Ok t) (Ok u) = SameTerm t u
SameRead (Err f) (Err g) = f ≡ g
SameRead (Ok t) (Err g) = ⊥
SameRead (Err f) (Ok u) = ⊥

-- scopes that know the same names of `let`
abbrev pub SameNames : Scope → Scope → Type 0
SameNames new old = (name : List ℕ) → is_known new name ≡ is_known old name

abbrev IsSteady : Reader → Type 0
IsSteady r = (new old : Scope) (path : List PathPart) → SameNames new old → SameRead (r new path) (r old path)

abbrev AreSteadyMembers : List (List ℕ × Reader) → Type 0
AreSteadyMembers [] = Unit {0}
AreSteadyMembers (m ∷ ms) = IsSteady m.1 × AreSteadyMembers ms

abbrev AreSteadyOptions : Option (List (List ℕ × Reader)) → Type 0
AreSteadyOptions None = Unit {0}
AreSteadyOptions (Some ms) = AreSteadyMembers ms

abbrev AreSteady : List (Element Reader) → Type 0
AreSteady [] = Unit {0}
AreSteady (e ∷ es) = IsSteady e.0 × AreSteadyOptions e.1 × AreSteady es

same_read : (r : Read) → SameRead r r
same_read (Ok t) = same_itself t
same_read (Err f) = refl

if_same : (b : Bool) (x y p q : Read) → SameRead x p → SameRead y q → SameRead (if b then x else y) (if b then p else q)
if_same true x y p q h k = h
if_same false x y p q h k = k

-- ---- arguments

abbrev SameArguments : Result (List Term) SynFault → Result (List Term) SynFault → Type 0
SameArguments (Ok ts) (Ok us) = SameList ts us
SameArguments (Err f) (Err g) = f ≡ g
SameArguments (Ok ts) (Err g) = ⊥
SameArguments (Err f) (Ok us) = ⊥

and_same : (r s : Read) (later after : Result (List Term) SynFault) → SameRead r s → SameArguments later after →
    SameArguments (and_term r later) (and_term s after)
and_same (Ok t) (Ok u) (Ok ts) (Ok us) h k = (h, k)
and_same (Ok t) (Ok u) (Err f) (Err g) h k = k
and_same (Ok t) (Ok u) (Ok ts) (Err g) h k = absurd k
and_same (Ok t) (Ok u) (Err f) (Ok us) h k = absurd k
and_same (Err f) (Err g) later after h k = h
and_same (Ok t) (Err g) later after h k = absurd h
and_same (Err f) (Ok u) later after h k = absurd h

unless_part : (b : Bool) (r s : Read) (later after : Result (List Term) SynFault) → SameRead r s →
    SameArguments later after →
    SameArguments (if b then later else and_term r later) (if b then after else and_term s after)
unless_part true r s later after h k = k
unless_part false r s later after h k = and_same r s later after h k

either_scope : (b : Bool) (r : Reader) (inner scope inside' outside : Scope) (path : List PathPart) → IsSteady r →
    SameNames inner inside' → SameNames scope outside →
    SameRead (r (if b then inner else scope) path) (r (if b then inside' else outside) path)
either_scope true r inner scope inside' outside path h m n = h inner inside' path m
either_scope false r inner scope inside' outside path h m n = h scope outside path n

arguments_same : (layout : ElementLayout) (n i : ℕ) (es : List (Element Reader)) (inner scope inside' outside : Scope)
    (path : List PathPart) → AreSteady es → SameNames inner inside' → SameNames scope outside →
    SameArguments (arguments layout n i es inner scope path) (arguments layout n i es inside' outside path)
arguments_same layout n i [] inner scope inside' outside path h m k = tt
arguments_same layout n i (e ∷ es) inner scope inside' outside path h m k =
    unless_part (is_part (element_place layout n i)) _ _ _ _
    (either_scope (is_last n i) e.0 inner scope inside' outside (at path i) h.0 m k)
    (arguments_same layout n (i + 1) es inner scope inside' outside path h.2 m k)

framed : (names : List (List ℕ)) (new old : Scope) → SameNames new old → SameNames (frame names new) (frame names old)
framed names new old h name = λ k. is_among names name || h name k

pub names_within : (op : Operator) (new old : Scope) → SameNames new old → SameNames (names_in op new) (names_in op old)
names_within (Let names) new old h = framed names new old h
names_within op new old h = h

then_same : (op : Operator) (r s : Result (List Term) SynFault) → SameArguments r s → SameRead (then_node op r) (then_node op s)
then_same op (Ok ts) (Ok us) h = nodes_same op ts us h
then_same op (Err f) (Err g) h = h
then_same op (Ok ts) (Err g) h = absurd h
then_same op (Err f) (Ok us) h = absurd h

with_same : (layout : ElementLayout) (es : List (Element Reader)) (op : Result Operator SynCode) → AreSteady es →
    IsSteady (with_operator layout es op)
with_same layout es (Ok op) h new old path names =
    then_same op _ _ (arguments_same layout (length es) 0 es (names_in op new) new (names_in op old) old path h
    (names_within op new old names) names)
with_same layout es (Err c) h new old path names = refl

var_same : (new old : Scope) (name : Option (List ℕ)) → SameNames new old → var_operator new name ≡ var_operator old name
var_same new old None h = refl
var_same new old (Some s) h = λ k. if h s k then Ok (Var s) else Err code.UnknownVar

pub operator_same : (layout : ElementLayout) (name : Name) (new old : Scope) (n : ℕ) (ts : Trees) → SameNames new old →
    operator_of layout name new n ts ≡ operator_of layout name old n ts
operator_same layouts.Variable name new old n ts h = var_same new old (second_text ts) h
operator_same layout name new old n ts h = refl

-- ---- `format`

abbrev type_of : {A : Type 0} → A → Type 0
type_of {A} x = A

-- the pieces and the arguments of a `format`
abbrev pub FormatArguments : Type 0
FormatArguments = type_of no_sections

abbrev SameSections : Result FormatArguments SynFault → Result FormatArguments SynFault → Type 0
SameSections (Ok found) (Ok more) = (found.pieces ≡ more.pieces) × SameList found.arguments more.arguments
SameSections (Err f) (Err g) = f ≡ g
SameSections (Ok found) (Err g) = ⊥
SameSections (Err f) (Ok more) = ⊥

then_piece : (i : ℕ) (role : Role) (r s : Read) (found more : FormatArguments) → SameRead r s →
    SameSections (Ok found) (Ok more) →
    SameSections (then_term r (λ t. Ok (with_piece i role found t))) (then_term s (λ t. Ok (with_piece i role more t)))
then_piece i role (Ok t) (Ok u) found more h k =
    ((λ j. k.0 j ++ record { at = i; role = role } ∷ []), push_same found.arguments more.arguments t u k.1 h)
then_piece i role (Err f) (Err g) found more h k = h
then_piece i role (Ok t) (Err g) found more h k = absurd h
then_piece i role (Err f) (Ok u) found more h k = absurd h

abbrev AreSteadySections : (FormatArguments → Result FormatArguments SynFault) → (FormatArguments → Result FormatArguments SynFault) → Type 0
AreSteadySections go come = (found more : FormatArguments) → SameSections (Ok found) (Ok more) → SameSections (go found) (come more)

then_more : (r s : Result FormatArguments SynFault) (go come : FormatArguments → Result FormatArguments SynFault) →
    SameSections r s → AreSteadySections go come → SameSections (then_sections r go) (then_sections s come)
then_more (Ok found) (Ok more) go come h k = k found more h
then_more (Err f) (Err g) go come h k = h
then_more (Ok found) (Err g) go come h k = absurd h
then_more (Err f) (Ok more) go come h k = absurd h

if_sections : (b : Bool) (x y p q : Result FormatArguments SynFault) → SameSections x p → SameSections y q →
    SameSections (if b then x else y) (if b then p else q)
if_sections true x y p q h k = h
if_sections false x y p q h k = k

option_same : (i : ℕ) (role : Option Role) (key : List ℕ) (r : Reader) (new old : Scope) (path : List PathPart) →
    IsSteady r → SameNames new old →
    AreSteadySections (option_read i role key r new path) (option_read i role key r old path)
option_same i (Some role) key r new old path h names found more k =
    let there = path ++ Key key ∷ [] in
    then_piece i role (r new there) (r old there) found more (h new old there names) k
option_same i None key r new old path h names found more k = refl

options_same : (i : ℕ) (ms : List (List ℕ × Reader)) (new old : Scope) (path : List PathPart) → AreSteadyMembers ms →
    SameNames new old → AreSteadySections (options_read i ms new path) (options_read i ms old path)
options_same i [] new old path h names found more k = k
options_same i (m ∷ ms) new old path h names found more k =
    then_more _ _ (options_read i ms new path) (options_read i ms old path)
    (option_same i (option_named m.0) m.0 m.1 new old path h.0 names found more k)
    (options_same i ms new old path h.1 names)

section_same : (i : ℕ) (follows : Bool) (o : Option (List (List ℕ × Reader))) (r : Reader) (new old : Scope)
    (path : List PathPart) → IsSteady r → AreSteadyOptions o → SameNames new old →
    AreSteadySections (section_read i follows o r new path) (section_read i follows o r old path)
section_same i follows (Some ms) r new old path h k names found more s =
    if_sections follows _ (fault path code.BareObject) _ (fault path code.BareObject)
    (options_same i ms new old path k names found more s) refl
section_same i follows None r new old path h k names found more s =
    then_piece i Content (r new path) (r old path) found more (h new old path names) s

sections_same : (i : ℕ) (follows : Bool) (es : List (Element Reader)) (new old : Scope) (path : List PathPart) →
    AreSteady es → SameNames new old →
    AreSteadySections (sections_read i follows es new path) (sections_read i follows es old path)
sections_same i follows [] new old path h names found more s = s
sections_same i follows (e ∷ es) new old path h names found more s =
    if_sections (nat_eq i 0) _ _ _ _
    (sections_same (i + 1) false es new old path h.2 names found more s)
    (then_more _ _ (sections_read (i + 1) (is_none e.1) es new path) (sections_read (i + 1) (is_none e.1) es old path)
    (section_same i follows e.1 e.0 new old (at path i) h.0 h.1 names found more s)
    (sections_same (i + 1) (is_none e.1) es new old path h.2 names))

format_same : (r s : Result FormatArguments SynFault) → SameSections r s → SameRead (then_format r) (then_format s)
format_same (Ok found) (Ok more) h = rewritten found.pieces more.pieces h.0
  where
    rewritten : (ps qs : List FormatPiece) → ps ≡ qs → SameTerm (node (Format ps) (terms_of found.arguments)) (node (Format qs) (terms_of more.arguments))
    rewritten ps qs e = subst (λ p. SameTerm (node (Format ps) (terms_of found.arguments)) (node (Format p) (terms_of more.arguments))) e (nodes_same (Format ps) found.arguments more.arguments h.1)
format_same (Err f) (Err g) h = h
format_same (Ok found) (Err g) h = absurd h
format_same (Err f) (Ok more) h = absurd h

-- ---- nodes

global_same : (s : Option (List ℕ)) → IsSteady (global_read s)
global_same (Some s) new old path names = globals_same s (global_at new s) (global_at old s)
global_same None new old path names = refl

node_same : (name : Name) (ts : Trees) (es : List (Element Reader)) → AreSteady es → IsSteady (node_read name ts es)
node_same name ts es h new old path names =
    if_same (not (allows (row name).arity (length es - 1))) _ _ _ _ refl
    (if_same (is_value_layout (row name).layout) _ _ _ _ (same_read (literal_read (second ts) path))
    (if_same (is_global_layout (row name).layout) _ _ _ _ (global_same (second_text ts) new old path names)
    (if_same (is_format_layout (row name).layout) _ _ _ _
    (format_same _ _ (sections_same 0 false es new old path h names no_sections no_sections (refl, tt)))
    by_operator)))
  where
    by_operator : SameRead (with_operator (row name).layout es (operator_of (row name).layout name new (length es) ts) new path) (with_operator (row name).layout es (operator_of (row name).layout name old (length es) ts) old path)
    by_operator = subst (λ op. SameRead (with_operator (row name).layout es (operator_of (row name).layout name new (length es) ts) new path) (with_operator (row name).layout es op old path)) (operator_same (row name).layout name new old (length es) ts names) (with_same (row name).layout es (operator_of (row name).layout name new (length es) ts) h new old path names)

named_same : (name : Option Name) (ts : Trees) (es : List (Element Reader)) → AreSteady es → IsSteady (named_read name ts es)
named_same None ts es h new old path names = refl
named_same (Some name) ts es h new old path names = node_same name ts es h new old path names

array_same : (head : Option (List ℕ)) (ts : Trees) (es : List (Element Reader)) → AreSteady es → IsSteady (array_read head ts es)
array_same None ts es h new old path names = refl
array_same (Some s) ts es h new old path names = named_same (name_of s) ts es h new old path names

mutual
  read_same : (t : Tree) → IsSteady (read t)
  read_same null = λ new old path names. same_itself _
  read_same (boolean b) = λ new old path names. same_itself _
  read_same (number n) = λ new old path names. same_read (number_read (read_text n) path)
  read_same (text s) = λ new old path names. same_itself _
  read_same (list ts) = array_same (head_text ts) ts (elements ts) (elements_same ts)
  read_same (object fs) = λ new old path names. refl

  options_steady : (t : Tree) → AreSteadyOptions (options t)
  options_steady null = tt
  options_steady (boolean b) = tt
  options_steady (number n) = tt
  options_steady (text s) = tt
  options_steady (list ts) = tt
  options_steady (object fs) = members_same fs

  elements_same : (ts : Trees) → AreSteady (elements ts)
  elements_same no_trees = tt
  elements_same (tree t ts) = (read_same t, options_steady t, elements_same ts)

  members_same : (fs : Fields) → AreSteadyMembers (members fs)
  members_same no_fields = tt
  members_same (field k t fs) = (read_same t, members_same fs)

-- ---- the whole

same_form : (e f : Term) → SameTerm e f → HasTheSameForm e f
same_form e f h = record {
  nodes = h.sized;
  mentions = h.mentioned;
  typed = λ want i. h.typing i false want [] [];
  checked = λ want row i. allowed row (h.visiting i Reached []) (h.typing i false want [] []);
}

inside_same : (b : Bool) (r s : Read) → SameRead r s →
    IsReadAlike (if b then Ok None else inside r) (if b then Ok None else inside s)
inside_same true r s h = tt
inside_same false (Ok t) (Ok u) h = same_form t u h
inside_same false (Err f) (Err g) h = h
inside_same false (Ok t) (Err g) h = absurd h
inside_same false (Err f) (Ok u) h = absurd h

pub values_change_no_form : GlobalValuesChangeNoForm
values_change_no_form t new old =
    inside_same (is_outside t) (read t (globals new) []) (read t (globals old) [])
    (read_same t (globals new) (globals old) [] (λ name. refl))
