-- How the expressions of legacy filters read: a lemma for each call that occurs in one, then by the form of
-- the filter.
use Rattle.std.proofs.Common.{◌≡◌, ◌∙◌, ℕ, suc, ◌+◌, ◌-◌, ◌<◌, List, [], ◌∷◌, length, refl, ap, arith, true, false}
use Rattle.std.proofs.Math.Dec.{leb-zero}
use Rattle.std.proofs.lemmas.Bool.{ne_eqb}
use Rattle.std.specs.Prelude.{Bool, not, ◌&&◌, ◌||◌, nat_eq, nat_le, codes, map, Some, None, Result, Ok, if◌then◌else◌}
use Rattle.decimal_json.specs.Tree.{Tree, null, boolean, text, list, trees_of}
use Rattle.decimal_json.specs.declared.paths.PathPart.{PathPart}
use Rattle.prop_values.specs.Data as values
use Rattle.prop_values.specs.Data.{Items, items_of, item}
use Rattle.prop_values.specs.JsonData.{json_data, trees_data, then_data, then_items}
use Rattle.expr_syntax.specs.declared.expression.Operator.{Operator}
use Rattle.expr_syntax.specs.declared.expression.Operator.TheVariants as operators
use Rattle.expr_syntax.specs.declared.fault.SynFault.{SynFault}
use Rattle.expr_syntax.specs.declared.rows.ElementLayout.TheVariants.{Arguments}
use Rattle.expr_syntax.specs.declared.rows.ElementPlace.TheVariants.{Part, Argument}
use Rattle.expr_syntax.specs.Elements.{Element}
use Rattle.expr_syntax.specs.ReadView.{uses_globals}
use Rattle.expr_syntax.specs.Reading.{Read, Reader, read, options, elements, Reading, number_read, data_read, and_term, arguments}
use Rattle.expr_syntax.specs.Reading.{then_node, is_part, inside, at, reading_with, fault}
use Rattle.expr_syntax.specs.declared.fault.SynCode.TheVariants as code
use Rattle.expr_syntax.specs.Rows.{is_last}
use Rattle.expr_syntax.specs.Scopes.{Scope, globals}
use Rattle.expr_syntax.specs.Standing as standing
use Rattle.expr_syntax.specs.Standing.{Walker, stands, some_element, in_element, is_for_global, is_outside}
use Rattle.expr_syntax.specs.Term.{Term, literal, node, terms_of}
use Rattle.legacy_filters.specs.declared.filter.Group.TheVariants as groups
use Rattle.legacy_filters.specs.declared.filter.Key.{Key}
use Rattle.legacy_filters.specs.declared.filter.Key.TheVariants.{Shape, Id, Property}
use Rattle.legacy_filters.specs.declared.filter.Order.{Order}
use Rattle.legacy_filters.specs.declared.filter.Order.TheVariants.{Below, AtMost, Above, AtLeast}
use Rattle.legacy_filters.specs.declared.scalars.Scalar.{Scalar}
use Rattle.legacy_filters.specs.declared.scalars.Scalar.TheVariants.{Flag, Number, Text}
use Rattle.legacy_filters.specs.declared.filter.Test.{Test}
use Rattle.legacy_filters.specs.declared.filter.Test.TheVariants.{Has, HasNot, Equal, NotEqual, Ordered, Among, NotAmong}
use Rattle.legacy_filters.specs.Filter.{Filter, flag, test, group, Filters, no_filters, filter}
use Rattle.legacy_filters.specs.Scalars.{scalar_data}
use Rattle.legacy_filters.specs.ToExpression.{call, value_expression, scalar_tree, has_expression, order_name, kind_and_order}
use Rattle.legacy_filters.specs.ToExpression.{order_expression, among_expression, test_expression, expression, expressions}
use Rattle.legacy_laws.proofs.FilterTerms.{one_term, two_terms, value_term, has_term, order_operator, kind_term, guarded_term, order_term}
use Rattle.legacy_laws.proofs.FilterTerms.{among_term, test_term, filter_term, filter_terms}
use Rattle.legacy_laws.proofs.SoundFilters.{IsReadScalar, IsScalarOf, AreScalarsOf, IsTestOf, IsSound, AreSound}

-- ---- trees that read as a term in all scopes and at all paths, without outside nodes and global state

abbrev pub nowhere : Walker
nowhere sought format = false

pub record IsReadAs (t : Tree) (e : Term) : Type 0 where
  pub inside : stands t ≡ nowhere
  pub reads : (scope : Scope) (path : List PathPart) → read t scope path ≡ Ok e

-- ---- calls of one argument, and of two

abbrev pub ReadsOne : List ℕ → Operator → Type 0
ReadsOne name op = (a : Tree) (x : Term) → IsReadAs a x → IsReadAs (call name (a ∷ [])) (one_term op x)

abbrev pub ReadsTwo : List ℕ → Operator → Type 0
ReadsTwo name op =
    (a b : Tree) (x y : Term) → IsReadAs a x → IsReadAs b y
    → IsReadAs (call name (a ∷ b ∷ [])) (two_terms op x y)

and_false : (b : Bool) → (b && false) ≡ false
and_false true = refl
and_false false = refl

-- where there is a node of the global state, and such arguments
abbrev pub sought_in : Bool → Bool → Bool
sought_in is_global others = if is_global then true else others

abbrev pub node_with : Walker → Walker
node_with others sought format = sought_in (is_for_global sought && false) (others sought format)

-- an element, and those after it
abbrev pub either_walk : Walker → Walker → Walker
either_walk w later sought format = w sought false || later sought format

pub node_nowhere : (others : Walker) → others ≡ nowhere → node_with others ≡ nowhere
node_nowhere others h = λ i sought format. sought_in (and_false (is_for_global sought) i) (h i sought format)

pub none_inside : node_with nowhere ≡ nowhere
none_inside = node_nowhere nowhere refl

pub one_inside : (w : Walker) → w ≡ nowhere → node_with (either_walk w nowhere) ≡ nowhere
one_inside w h = node_nowhere (either_walk w nowhere) (λ i. either_walk (h i) nowhere)

pub two_inside : (v w : Walker) → v ≡ nowhere → w ≡ nowhere
    → node_with (either_walk v (either_walk w nowhere)) ≡ nowhere
two_inside v w h k =
    node_nowhere (either_walk v (either_walk w nowhere)) (λ i. either_walk (h i) (either_walk (k i) nowhere))

abbrev pub one_argument : Operator → Read → Read
one_argument op a = then_node op (and_term a (Ok []))

abbrev pub two_arguments : Operator → Read → Read → Read
two_arguments op a b = then_node op (and_term a (and_term b (Ok [])))

pub one_read : (op : Operator) (a : Tree) (x : Term) → IsReadAs a x → (scope : Scope) (path : List PathPart)
    → one_argument op (read a scope (at path 1)) ≡ Ok (one_term op x)
one_read op a x h scope path = λ i. one_argument op (h.reads scope (at path 1) i)

pub two_read : (op : Operator) (a b : Tree) (x y : Term) → IsReadAs a x → IsReadAs b y
    → (scope : Scope) (path : List PathPart)
    → two_arguments op (read a scope (at path 1)) (read b scope (at path 2)) ≡ Ok (two_terms op x y)
two_read op a b x y h k scope path =
    λ i. two_arguments op (h.reads scope (at path 1) i) (k.reads scope (at path 2) i)

read_not : ReadsOne (codes "!") operators.Not
read_not a x h = record { inside = one_inside (stands a) h.inside; reads = one_read operators.Not a x h }

pub read_typeof : ReadsOne (codes "typeof") operators.TypeOf
read_typeof a x h = record { inside = one_inside (stands a) h.inside; reads = one_read operators.TypeOf a x h }

pub read_equal : ReadsTwo (codes "==") operators.Equal
read_equal a b x y h k = record {
  inside = two_inside (stands a) (stands b) h.inside k.inside;
  reads = two_read operators.Equal a b x y h k;
}

read_different : ReadsTwo (codes "!=") operators.NotEqual
read_different a b x y h k = record {
  inside = two_inside (stands a) (stands b) h.inside k.inside;
  reads = two_read operators.NotEqual a b x y h k;
}

read_order : (order : Order) → ReadsTwo (order_name order) (order_operator order)
read_order Below a b x y h k = record {
  inside = two_inside (stands a) (stands b) h.inside k.inside;
  reads = two_read operators.Less a b x y h k;
}
read_order AtMost a b x y h k = record {
  inside = two_inside (stands a) (stands b) h.inside k.inside;
  reads = two_read operators.LessOrEqual a b x y h k;
}
read_order Above a b x y h k = record {
  inside = two_inside (stands a) (stands b) h.inside k.inside;
  reads = two_read operators.Greater a b x y h k;
}
read_order AtLeast a b x y h k = record {
  inside = two_inside (stands a) (stands b) h.inside k.inside;
  reads = two_read operators.GreaterOrEqual a b x y h k;
}

read_in : ReadsTwo (codes "in") operators.In
read_in a b x y h k = record {
  inside = two_inside (stands a) (stands b) h.inside k.inside;
  reads = two_read operators.In a b x y h k;
}

read_both : ReadsTwo (codes "all") operators.All
read_both a b x y h k = record {
  inside = two_inside (stands a) (stands b) h.inside k.inside;
  reads = two_read operators.All a b x y h k;
}

-- ---- literals

pub read_flag : (b : Bool) → IsReadAs (boolean b) (literal (values.boolean b))
read_flag b = record { inside = refl; reads = λ scope path. refl }

pub read_null : IsReadAs null (literal values.null)
read_null = record { inside = refl; reads = λ scope path. refl }

pub read_text_as : (s : List ℕ) → IsReadAs (text s) (literal (values.text s))
read_text_as s = record { inside = refl; reads = λ scope path. refl }

read_scalar : (v : Scalar) → IsReadScalar v → IsReadAs (scalar_tree v) (literal (scalar_data v))
read_scalar (Flag b) h = read_flag b
read_scalar (Number n z) h = record { inside = refl; reads = λ scope path i. number_read (h i) path }
read_scalar (Text s) h = read_text_as s

scalar_is_read : (key : Key) (v : Scalar) → IsScalarOf key v → IsReadScalar v
scalar_is_read Shape (Flag b) h = tt
scalar_is_read Shape (Number n z) h = absurd h
scalar_is_read Shape (Text s) h = tt
scalar_is_read Id v h = h
scalar_is_read (Property name) v h = h

data_of_scalar : (v : Scalar) → IsReadScalar v → json_data (scalar_tree v) ≡ Ok (scalar_data v)
data_of_scalar (Flag b) h = refl
data_of_scalar (Number n z) h = λ i. then_data (h i) (λ x. Ok (values.number x))
data_of_scalar (Text s) h = refl

data_of_scalars : (key : Key) (vs : List Scalar) → AreScalarsOf key vs
    → trees_data (trees_of (map scalar_tree vs)) ≡ Ok (items_of (map scalar_data vs))
data_of_scalars key [] h = refl
data_of_scalars key (v ∷ vs) h =
    let p = data_of_scalar v (scalar_is_read key v h.0) in
    let q = data_of_scalars key vs h.1 in
    λ i. then_items (p i) (λ d. then_items (q i) (λ ds. Ok (item d ds)))

abbrev values_expression : List Scalar → Tree
values_expression vs = call (codes "literal") (list (trees_of (map scalar_tree vs)) ∷ [])

abbrev values_term : List Scalar → Term
values_term vs = literal (values.list (items_of (map scalar_data vs)))

read_values : (key : Key) (vs : List Scalar) → AreScalarsOf key vs → IsReadAs (values_expression vs) (values_term vs)
read_values key vs h = record {
  inside = none_inside;
  reads = λ scope path i. data_read (then_data (data_of_scalars key vs h i) (λ ds. Ok (values.list ds))) path;
}

-- ---- tests

pub read_value : (key : Key) → IsReadAs (value_expression key) (value_term key)
read_value Shape = record { inside = none_inside; reads = λ scope path. refl }
read_value Id = record { inside = none_inside; reads = λ scope path. refl }
read_value (Property name) = record { inside = one_inside nowhere refl; reads = λ scope path. refl }

read_has : (key : Key) → IsReadAs (has_expression key) (has_term key)
read_has Shape = read_flag true
read_has Id =
    read_different (value_expression Id) null (value_term Id) (literal values.null) (read_value Id) read_null
read_has (Property name) = record { inside = one_inside nowhere refl; reads = λ scope path. refl }

read_kind_and_order : (order : Order) (kind : List ℕ) (key : Key) (v : Scalar) → IsReadScalar v
    → IsReadAs (kind_and_order order kind (value_expression key) (scalar_tree v))
    (guarded_term order kind (value_term key) (scalar_data v))
read_kind_and_order order kind key v h =
    let value = value_expression key in
    let found = value_term key in
    let kinds = call (codes "typeof") (value ∷ []) in
    read_both (call (codes "==") (kinds ∷ text kind ∷ []))
    (call (order_name order) (value ∷ scalar_tree v ∷ []))
    (kind_term kind found) (two_terms (order_operator order) found (literal (scalar_data v)))
    (read_equal kinds (text kind) (one_term operators.TypeOf found) (literal (values.text kind))
    (read_typeof value found (read_value key)) (read_text_as kind))
    (read_order order value (scalar_tree v) found (literal (scalar_data v))
    (read_value key) (read_scalar v h))

read_ordered : (order : Order) (key : Key) (v : Scalar) → IsReadScalar v
    → IsReadAs (order_expression order key v) (order_term order key v)
read_ordered order key (Flag b) h = read_flag false
read_ordered order key (Number n z) h = read_kind_and_order order (codes "number") key (Number n z) h
read_ordered order key (Text s) h = read_kind_and_order order (codes "string") key (Text s) h

read_among : (key : Key) (vs : List Scalar) → AreScalarsOf key vs
    → IsReadAs (among_expression key vs) (among_term key vs)
read_among key vs h =
    read_in (value_expression key) (values_expression vs) (value_term key) (values_term vs)
    (read_value key) (read_values key vs h)

order_is_read : (key : Key) (order : Order) (v : Scalar) → IsTestOf key (Ordered order v) → IsReadScalar v
order_is_read Shape order v h = absurd h
order_is_read Id order v h = h
order_is_read (Property name) order v h = h

read_test : (key : Key) (t : Test) → IsTestOf key t → IsReadAs (test_expression key t) (test_term key t)
read_test key Has h = read_has key
read_test key HasNot h = read_not (has_expression key) (has_term key) (read_has key)
read_test key (Equal v) h =
    read_equal (value_expression key) (scalar_tree v) (value_term key) (literal (scalar_data v))
    (read_value key) (read_scalar v (scalar_is_read key v h))
read_test key (NotEqual v) h =
    read_different (value_expression key) (scalar_tree v) (value_term key) (literal (scalar_data v))
    (read_value key) (read_scalar v (scalar_is_read key v h))
read_test key (Ordered order v) h = read_ordered order key v (order_is_read key order v h)
read_test key (Among vs) h = read_among key vs h
read_test key (NotAmong vs) h = read_not (among_expression key vs) (among_term key vs) (read_among key vs h)

-- ---- groups, of any number of parts

pub same_scope : (b : Bool) (scope : Scope) → (if b then scope else scope) ≡ scope
same_scope true scope = refl
same_scope false scope = refl

-- an element after the name is an argument
abbrev ReadAll : Type 0
ReadAll = Result (List Term) SynFault

abbrev an_argument : (is_name is_end : Bool) → Reader → ReadAll → Scope → List PathPart → ReadAll
an_argument is_name is_end r later scope path =
    if is_part (if is_name then Part else Argument) then later
    else and_term (r (if is_end then scope else scope) path) later

argument_read : (n i : ℕ) (e : Element Reader) (es : List (Element Reader)) (scope : Scope) (path : List PathPart)
    (x : Term) (xs : List Term) → 0 < i → e.0 scope (at path i) ≡ Ok x
    → arguments Arguments n (i + 1) es scope scope path ≡ Ok xs
    → arguments Arguments n i (e ∷ es) scope scope path ≡ Ok (x ∷ xs)
argument_read n i e es scope path x xs some h k =
    let later = arguments Arguments n (i + 1) es scope scope path in
    let behind : nat_eq i 0 ≡ false = ne_eqb i 0 (λ p. omega (arith, some, p)) in
    ap (λ b. an_argument b (is_last n i) e.0 later scope (at path i)) behind
    ∙ (ap (λ s. and_term (e.0 s (at path i)) later) (same_scope (is_last n i) scope)
    ∙ (λ j. and_term (h j) (k j)))

abbrev an_element : Bool → Walker → Walker → Walker
an_element is_name w later sought format =
    in_element (if is_name then Part else Argument) w sought format || later sought format

element_inside : (n i : ℕ) (e : Element Walker) (es : List (Element Walker))
    → 0 < i → e.0 ≡ nowhere → some_element Arguments n (i + 1) es ≡ nowhere
    → some_element Arguments n i (e ∷ es) ≡ nowhere
element_inside n i e es some h k =
    let later = some_element Arguments n (i + 1) es in
    let behind : nat_eq i 0 ≡ false = ne_eqb i 0 (λ p. omega (arith, some, p)) in
    let one : some_element Arguments n i (e ∷ es) ≡ either_walk e.0 later = λ j. an_element (behind j) e.0 later in
    one ∙ (λ j. either_walk (h j) (k j))

abbrev pub AreReadAs : List Tree → List Term → Type 0
AreReadAs [] [] = Unit {0}
AreReadAs [] (x ∷ xs) = ⊥
AreReadAs (t ∷ ts) [] = ⊥
AreReadAs (t ∷ ts) (x ∷ xs) = IsReadAs t x × AreReadAs ts xs

abbrev pub walks : List Tree → List (Element Walker)
walks ts = standing.elements (trees_of ts)

abbrev pub readers : List Tree → List (Element Reader)
readers ts = elements (trees_of ts)

pub all_inside : (ts : List Tree) (xs : List Term) → AreReadAs ts xs → (n i : ℕ) → 0 < i
    → some_element Arguments n i (walks ts) ≡ nowhere
all_inside [] [] h n i some = refl
all_inside [] (x ∷ xs) h n i some = absurd h
all_inside (t ∷ ts) [] h n i some = absurd h
all_inside (t ∷ ts) (x ∷ xs) h n i some =
    element_inside n i (stands t, standing.options t) (walks ts) some h.0.inside
    (all_inside ts xs h.1 n (i + 1) (omega arith))

pub all_read : (ts : List Tree) (xs : List Term) → AreReadAs ts xs
    → (n i : ℕ) (scope : Scope) (path : List PathPart) → 0 < i
    → arguments Arguments n i (readers ts) scope scope path ≡ Ok xs
all_read [] [] h n i scope path some = refl
all_read [] (x ∷ xs) h n i scope path some = absurd h
all_read (t ∷ ts) [] h n i scope path some = absurd h
all_read (t ∷ ts) (x ∷ xs) h n i scope path some =
    argument_read n i (read t, options t) (readers ts) scope path x xs some
    (h.0.reads scope (at path i)) (all_read ts xs h.1 n (i + 1) scope path (omega arith))

-- a node of any number of arguments
abbrev pub unless_few : Bool → Read → List PathPart → Read
unless_few is_enough r path = if not is_enough then fault path code.Arity else r

abbrev pub walk_unless_few : Bool → Walker → Walker
walk_unless_few is_enough others sought format = if not is_enough then false else others sought format

abbrev group_walk : List Tree → Walker
group_walk ts =
    let n = suc (length (walks ts)) in
    node_with (walk_unless_few (nat_le 0 (n - 1)) (some_element Arguments n 1 (walks ts)))

group_inside : (ts : List Tree) (xs : List Term) → AreReadAs ts xs → group_walk ts ≡ nowhere
group_inside ts xs h =
    let n = suc (length (walks ts)) in
    let inside = all_inside ts xs h n 1 (omega arith) in
    node_nowhere (walk_unless_few (nat_le 0 (n - 1)) (some_element Arguments n 1 (walks ts)))
    (λ i. walk_unless_few (leb-zero (n - 1) i) (inside i))

abbrev group_read : Operator → List Tree → Reader
group_read op ts scope path =
    let n = suc (length (readers ts)) in
    unless_few (nat_le 0 (n - 1)) (then_node op (arguments Arguments n 1 (readers ts) scope scope path)) path

group_reads : (op : Operator) (ts : List Tree) (xs : List Term) → AreReadAs ts xs
    → (scope : Scope) (path : List PathPart) → group_read op ts scope path ≡ Ok (node op (terms_of xs))
group_reads op ts xs h scope path =
    let n = suc (length (readers ts)) in
    let reads = all_read ts xs h n 1 scope path (omega arith) in
    λ i. unless_few (leb-zero (n - 1) i) (then_node op (reads i)) path

read_all : (ts : List Tree) (xs : List Term) → AreReadAs ts xs
    → IsReadAs (call (codes "all") ts) (node operators.All (terms_of xs))
read_all ts xs h = record { inside = group_inside ts xs h; reads = group_reads operators.All ts xs h }

read_any : (ts : List Tree) (xs : List Term) → AreReadAs ts xs
    → IsReadAs (call (codes "any") ts) (node operators.Any (terms_of xs))
read_any ts xs h = record { inside = group_inside ts xs h; reads = group_reads operators.Any ts xs h }

mutual
  pub read_filter : (f : Filter) → IsSound f → IsReadAs (expression f) (filter_term f)
  read_filter (flag b) h = read_flag b
  read_filter (test key t) h = read_test key t h
  read_filter (group groups.All fs) h = read_all (expressions fs) (filter_terms fs) (read_filters fs h)
  read_filter (group groups.Any fs) h = read_any (expressions fs) (filter_terms fs) (read_filters fs h)
  read_filter (group groups.None fs) h =
      read_not (call (codes "any") (expressions fs)) (node operators.Any (terms_of (filter_terms fs)))
      (read_any (expressions fs) (filter_terms fs) (read_filters fs h))

  read_filters : (fs : Filters) → AreSound fs → AreReadAs (expressions fs) (filter_terms fs)
  read_filters no_filters h = tt
  read_filters (filter f fs) h = (read_filter f h.0, read_filters fs h.1)

-- ---- the expression of a filter reads as its term, whatever the values of the global state are

abbrev pub reading_by : Bool → Read → Reading
reading_by is_outside r = if is_outside then Ok None else inside r

-- walkers that are one find the same of what is sought
walks_agree : {S : Type 0} (v w : S → Bool → Bool) → v ≡ w → (sought : S) → v sought true ≡ w sought true
walks_agree v w h sought = λ i. h i sought true

pub outside_nowhere : (t : Tree) → stands t ≡ nowhere → is_outside t ≡ false
outside_nowhere t h = walks_agree (stands t) nowhere h _

pub globals_nowhere : (t : Tree) → stands t ≡ nowhere → uses_globals t ≡ false
globals_nowhere t h = walks_agree (stands t) nowhere h _

pub filter_reading : (f : Filter) → IsSound f → (globals_at : List (List ℕ × values.Data))
    → reading_with (expression f) globals_at ≡ Ok (Some (filter_term f))
filter_reading f h globals_at =
    let k = read_filter f h in
    let inside = outside_nowhere (expression f) k.inside in
    λ i. reading_by (inside i) (k.reads (globals globals_at) [] i)
