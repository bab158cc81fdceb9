-- The types of the terms of legacy filters, what their nodes read, and the faults that they list.
use Rattle.std.proofs.Common.{◌≡◌, ◌∙◌, ℕ, ◌+◌, ℤ, List, [], ◌∷◌, ◌++◌, length, refl, ap, true, false}
use Rattle.std.specs.Prelude.{Bool, not, ◌||◌, codes, Option, Some, None, Result, Ok, Err, if◌then◌else◌}
use Rattle.decimal_json.specs.declared.paths.PathPart.{PathPart}
use Rattle.prop_values.specs.Data.{Data, number, text}
use Rattle.prop_values.specs.Faults.{no_faults, union}
use Rattle.prop_values.specs.declared.fault.EvalFault.TheVariants.{NotOrdered}
use Rattle.prop_values.specs.declared.fault.FaultSet.{FaultSet}
use Rattle.prop_values.specs.declared.kinds.Kind.TheVariants as kinds
use Rattle.prop_values.specs.declared.kinds.Want.TheVariants as wants
use Rattle.expr_syntax.specs.declared.expression.Operator.{Operator}
use Rattle.expr_syntax.specs.declared.expression.Operator.TheVariants as operators
use Rattle.expr_syntax.specs.Mentioned.{mentions, all_mentions, of_operator, count}
use Rattle.expr_syntax.specs.Term.{Term, literal, node, Terms, no_terms, term, terms_of}
use Rattle.expr_types.specs.ArgumentPaths.{argument_path}
use Rattle.expr_types.specs.Allowed.{Allowed, filter_allows, first_unread}
use Rattle.expr_types.specs.Checked.{checked, allowed, unless_at}
use Rattle.expr_types.specs.Own.{faults_if}
use Rattle.expr_types.specs.OwnTable.{own}
use Rattle.expr_types.specs.Typing.{TypedNodes, Typed, KindScope, looked_at, and_found, founds_of, kinds_in, may_after}
use Rattle.expr_types.specs.Typing.{then_found, finished, typed, typings, literals}
use Rattle.expr_types.specs.Visits.{Visit, all_visits, visits, visitings}
use Rattle.expr_types.specs.declared.fault.TypeCode.TheVariants as type_codes
use Rattle.expr_types.specs.declared.fault.TypeFault.{TypeFault}
use Rattle.legacy_filters.specs.declared.filter.Group.TheVariants as groups
use Rattle.legacy_filters.specs.declared.filter.Key.{Key}
use Rattle.legacy_filters.specs.declared.filter.Key.TheVariants.{Shape, Id, Property}
use Rattle.legacy_filters.specs.declared.filter.Order.{Order}
use Rattle.legacy_filters.specs.declared.filter.Order.TheVariants.{Below, AtMost, Above, AtLeast}
use Rattle.legacy_filters.specs.declared.scalars.Scalar.{Scalar}
use Rattle.legacy_filters.specs.declared.scalars.Scalar.TheVariants.{Flag, Number, Text}
use Rattle.legacy_filters.specs.declared.filter.Test.{Test}
use Rattle.legacy_filters.specs.declared.filter.Test.TheVariants.{Has, HasNot, Equal, NotEqual, Ordered, Among, NotAmong}
use Rattle.legacy_filters.specs.Filter.{Filter, flag, test, group, Filters, no_filters, filter}
use Rattle.legacy_filters.specs.Scalars.{scalar_data}
use Rattle.legacy_filters.specs.AskedParts.{is_order_of}
use Rattle.legacy_laws.specs.LegacyFilterLaw.{is_order, has_order, some_order}
use Rattle.legacy_laws.proofs.FilterTerms.{one_term, two_terms, value_term, has_term, order_operator, guarded_term}
use Rattle.legacy_laws.proofs.FilterTerms.{order_term, among_term, test_term, filter_term, filter_terms}
use Rattle.legacy_laws.proofs.SoundFilters.{IsScalarOf, IsOrderedOf, IsTestOf, IsSound, AreSound}

-- ---- a boolean that lists the fault of an order, or no fault

abbrev order_fault : Bool → FaultSet
order_fault b = faults_if b NotOrdered

abbrev IsTypedAs : Bool → Typed → Type 0
IsTypedAs b (Ok found) = (found.node.kind ≡ kinds.Boolean) × (found.node.may ≡ order_fault b)
IsTypedAs b (Err f) = ⊥

union_faults : (a b : Bool) → union (order_fault a) (order_fault b) ≡ order_fault (a || b)
union_faults true true = refl
union_faults true false = refl
union_faults false true = refl
union_faults false false = refl

union_none : (b : Bool) → union (order_fault b) no_faults ≡ order_fault b
union_none true = refl
union_none false = refl

union_of_one : (b : Bool) → union (union no_faults (order_fault b)) no_faults ≡ order_fault b
union_of_one true = refl
union_of_one false = refl

or_moved : (a b c : Bool) → ((a || b) || c) ≡ (a || (b || c))
or_moved true b c = refl
or_moved false b c = refl

-- a term that is typed so as a filter, in all scopes and at all paths
abbrev IsFilterAs : Bool → Term → Type 0
IsFilterAs b e = (scope : KindScope) (path : List PathPart) → IsTypedAs b (typed e wants.Boolean scope path)

-- ---- tests

has_typed : (key : Key) → IsFilterAs false (has_term key)
has_typed Shape scope path = (refl, refl)
has_typed Id scope path = (refl, refl)
has_typed (Property name) scope path = (refl, refl)

equal_typed : (key : Key) (v : Scalar) → IsScalarOf key v
    → IsFilterAs false (two_terms operators.Equal (value_term key) (literal (scalar_data v)))
equal_typed Shape (Flag b) h scope path = absurd h
equal_typed Shape (Number n z) h scope path = absurd h
equal_typed Shape (Text s) h scope path = (refl, refl)
equal_typed Id (Flag b) h scope path = (refl, refl)
equal_typed Id (Number n z) h scope path = (refl, refl)
equal_typed Id (Text s) h scope path = (refl, refl)
equal_typed (Property name) (Flag b) h scope path = (refl, refl)
equal_typed (Property name) (Number n z) h scope path = (refl, refl)
equal_typed (Property name) (Text s) h scope path = (refl, refl)

different_typed : (key : Key) (v : Scalar) → IsScalarOf key v
    → IsFilterAs false (two_terms operators.NotEqual (value_term key) (literal (scalar_data v)))
different_typed Shape (Flag b) h scope path = absurd h
different_typed Shape (Number n z) h scope path = absurd h
different_typed Shape (Text s) h scope path = (refl, refl)
different_typed Id (Flag b) h scope path = (refl, refl)
different_typed Id (Number n z) h scope path = (refl, refl)
different_typed Id (Text s) h scope path = (refl, refl)
different_typed (Property name) (Flag b) h scope path = (refl, refl)
different_typed (Property name) (Number n z) h scope path = (refl, refl)
different_typed (Property name) (Text s) h scope path = (refl, refl)

-- a key that an order may have
abbrev IsOrderedKey : Key → Type 0
IsOrderedKey Shape = ⊥
IsOrderedKey Id = Unit {0}
IsOrderedKey (Property name) = Unit {0}

may_be_ordered : (key : Key) (v : Scalar) → IsOrderedOf key v → IsOrderedKey key
may_be_ordered Shape v h = h
may_be_ordered Id v h = tt
may_be_ordered (Property name) v h = tt

number_order_typed : (order : Order) (key : Key) (z : ℤ) → IsOrderedKey key
    → IsFilterAs true (guarded_term order (codes "number") (value_term key) (number z))
number_order_typed order Shape z h scope path = absurd h
number_order_typed Below Id z h scope path = (refl, refl)
number_order_typed AtMost Id z h scope path = (refl, refl)
number_order_typed Above Id z h scope path = (refl, refl)
number_order_typed AtLeast Id z h scope path = (refl, refl)
number_order_typed Below (Property name) z h scope path = (refl, refl)
number_order_typed AtMost (Property name) z h scope path = (refl, refl)
number_order_typed Above (Property name) z h scope path = (refl, refl)
number_order_typed AtLeast (Property name) z h scope path = (refl, refl)

text_order_typed : (order : Order) (key : Key) (s : List ℕ) → IsOrderedKey key
    → IsFilterAs true (guarded_term order (codes "string") (value_term key) (text s))
text_order_typed order Shape s h scope path = absurd h
text_order_typed Below Id s h scope path = (refl, refl)
text_order_typed AtMost Id s h scope path = (refl, refl)
text_order_typed Above Id s h scope path = (refl, refl)
text_order_typed AtLeast Id s h scope path = (refl, refl)
text_order_typed Below (Property name) s h scope path = (refl, refl)
text_order_typed AtMost (Property name) s h scope path = (refl, refl)
text_order_typed Above (Property name) s h scope path = (refl, refl)
text_order_typed AtLeast (Property name) s h scope path = (refl, refl)

order_typed : (order : Order) (key : Key) (v : Scalar) → IsOrderedKey key
    → IsFilterAs (is_order_of v) (order_term order key v)
order_typed order key (Flag b) h scope path = (refl, refl)
order_typed order key (Number n z) h scope path = number_order_typed order key z h scope path
order_typed order key (Text s) h scope path = text_order_typed order key s h scope path

among_typed : (key : Key) (vs : List Scalar) → IsFilterAs false (among_term key vs)
among_typed Shape vs scope path = (refl, refl)
among_typed Id vs scope path = (refl, refl)
among_typed (Property name) vs scope path = (refl, refl)

abbrev parts_of : Filters → Terms
parts_of fs = terms_of (filter_terms fs)

-- what is found of arguments, and then of their node under Boolean
abbrev FoundAll : Type 0
FoundAll = Result (List TypedNodes) TypeFault

abbrev found_from : Operator → Filters → ℕ → ℕ → KindScope → List PathPart → FoundAll
found_from op fs m k scope path = founds_of op m k (typings (parts_of fs)) wants.Boolean scope path

abbrev node_from : Operator → Terms → List PathPart → FoundAll → Typed
node_from op ts path r =
    then_found r (λ founds.
    finished op wants.Boolean (own op wants.Boolean (literals ts) (kinds_in founds)) founds path)

-- `!` of a boolean
negated : (b : Bool) (e : Term) (r : Typed) (inner path : List PathPart) → IsTypedAs b r
    → IsTypedAs b (node_from operators.Not (term e no_terms) path (and_found (looked_at false r inner) (Ok [])))
negated b e (Ok found) inner path h =
    (refl, ap (λ s. union (union no_faults s) no_faults) h.1 ∙ union_of_one b)
negated b e (Err f) inner path h = absurd h

not_typed : (e : Term) (b : Bool) → IsFilterAs b e → IsFilterAs b (one_term operators.Not e)
not_typed e b h scope path =
    let inner = argument_path operators.Not 1 0 path in
    negated b e (typed e wants.Boolean scope inner) inner path (h scope inner)

test_typed : (key : Key) (t : Test) → IsTestOf key t → IsFilterAs (is_order t) (test_term key t)
test_typed key Has h = has_typed key
test_typed key HasNot h = not_typed (has_term key) false (has_typed key)
test_typed key (Equal v) h = equal_typed key v h
test_typed key (NotEqual v) h = different_typed key v h
test_typed key (Ordered order v) h = order_typed order key v (may_be_ordered key v h)
test_typed key (Among vs) h = among_typed key vs
test_typed key (NotAmong vs) h = not_typed (among_term key vs) false (among_typed key vs)

-- ---- groups

-- the faults of all parts, with some before
abbrev AreTypedAs : Bool → FoundAll → Type 0
AreTypedAs b (Ok founds) = (before : Bool) → may_after (order_fault before) founds ≡ order_fault (before || b)
AreTypedAs b (Err f) = ⊥

and_typed : (b c : Bool) (path : List PathPart) (r : Typed) (later : FoundAll) → IsTypedAs b r → AreTypedAs c later
    → AreTypedAs (b || c) (and_found (looked_at false r path) later)
and_typed b c path (Ok found) (Ok founds) h k = λ before.
    ap (λ s. may_after (union (order_fault before) s) founds) h.1
    ∙ (ap (λ s. may_after s founds) (union_faults before b)
    ∙ (k (before || b) ∙ ap order_fault (or_moved before b c)))
and_typed b c path (Ok found) (Err f) h k = absurd k
and_typed b c path (Err f) later h k = absurd h

no_more : (before : Bool) → order_fault before ≡ order_fault (before || false)
no_more true = refl
no_more false = refl

all_finished : (b : Bool) (ts : Terms) (path : List PathPart) (r : FoundAll) → AreTypedAs b r
    → IsTypedAs b (node_from operators.All ts path r)
all_finished b ts path (Ok founds) h = (refl, ap (λ s. union s no_faults) (h false) ∙ union_none b)
all_finished b ts path (Err f) h = absurd h

any_finished : (b : Bool) (ts : Terms) (path : List PathPart) (r : FoundAll) → AreTypedAs b r
    → IsTypedAs b (node_from operators.Any ts path r)
any_finished b ts path (Ok founds) h = (refl, ap (λ s. union s no_faults) (h false) ∙ union_none b)
any_finished b ts path (Err f) h = absurd h

-- the parts from place k on, among m
abbrev ArePartsOf : Operator → Filters → ℕ → ℕ → Type 0
ArePartsOf op fs m k =
    (scope : KindScope) (path : List PathPart) → AreTypedAs (some_order fs) (found_from op fs m k scope path)

all_node_typed : (fs : Filters) → ArePartsOf operators.All fs (length (typings (parts_of fs))) 0
    → IsFilterAs (some_order fs) (node operators.All (parts_of fs))
all_node_typed fs h scope path =
    let founds = found_from operators.All fs (length (typings (parts_of fs))) 0 scope path in
    all_finished (some_order fs) (parts_of fs) path founds (h scope path)

any_node_typed : (fs : Filters) → ArePartsOf operators.Any fs (length (typings (parts_of fs))) 0
    → IsFilterAs (some_order fs) (node operators.Any (parts_of fs))
any_node_typed fs h scope path =
    let founds = found_from operators.Any fs (length (typings (parts_of fs))) 0 scope path in
    any_finished (some_order fs) (parts_of fs) path founds (h scope path)

mutual
  pub filter_typed : (f : Filter) → IsSound f → IsFilterAs (has_order f) (filter_term f)
  filter_typed (flag b) h = λ scope path. (refl, refl)
  filter_typed (test key t) h = test_typed key t h
  filter_typed (group groups.All fs) h = all_node_typed fs (all_typed fs h (length (typings (parts_of fs))) 0)
  filter_typed (group groups.Any fs) h = any_node_typed fs (any_typed fs h (length (typings (parts_of fs))) 0)
  filter_typed (group groups.None fs) h =
      not_typed (node operators.Any (parts_of fs)) (some_order fs)
      (any_node_typed fs (any_typed fs h (length (typings (parts_of fs))) 0))

  all_typed : (fs : Filters) → AreSound fs → (m k : ℕ) → ArePartsOf operators.All fs m k
  all_typed no_filters h m k scope path = no_more
  all_typed (filter f fs) h m k scope path =
      let inner = argument_path operators.All m k path in
      and_typed (has_order f) (some_order fs) inner (typed (filter_term f) wants.Boolean scope inner)
      (found_from operators.All fs m (k + 1) scope path)
      (filter_typed f h.0 scope inner) (all_typed fs h.1 m (k + 1) scope path)

  any_typed : (fs : Filters) → AreSound fs → (m k : ℕ) → ArePartsOf operators.Any fs m k
  any_typed no_filters h m k scope path = no_more
  any_typed (filter f fs) h m k scope path =
      let inner = argument_path operators.Any m k path in
      and_typed (has_order f) (some_order fs) inner (typed (filter_term f) wants.Boolean scope inner)
      (found_from operators.Any fs m (k + 1) scope path)
      (filter_typed f h.0 scope inner) (any_typed fs h.1 m (k + 1) scope path)

-- ---- no node reads the feature state

abbrev reads_state : Term → Bool
reads_state e = (mentions e).state

value_reads : (key : Key) → reads_state (value_term key) ≡ false
value_reads Shape = refl
value_reads Id = refl
value_reads (Property name) = refl

has_reads : (key : Key) → reads_state (has_term key) ≡ false
has_reads Shape = refl
has_reads Id = refl
has_reads (Property name) = refl

compared_reads : (order : Order) (key : Key) (d : Data)
    → reads_state (two_terms (order_operator order) (value_term key) (literal d)) ≡ false
compared_reads Below key d = λ i. value_reads key i || false
compared_reads AtMost key d = λ i. value_reads key i || false
compared_reads Above key d = λ i. value_reads key i || false
compared_reads AtLeast key d = λ i. value_reads key i || false

order_reads : (order : Order) (key : Key) (v : Scalar) → reads_state (order_term order key v) ≡ false
order_reads order key (Flag b) = refl
order_reads order key (Number n z) =
    λ i. ((value_reads key i || false) || false) || (compared_reads order key (number z) i || false)
order_reads order key (Text s) =
    λ i. ((value_reads key i || false) || false) || (compared_reads order key (text s) i || false)

test_reads : (key : Key) (t : Test) → reads_state (test_term key t) ≡ false
test_reads key Has = has_reads key
test_reads key HasNot = λ i. has_reads key i || false
test_reads key (Equal v) = λ i. value_reads key i || false
test_reads key (NotEqual v) = λ i. value_reads key i || false
test_reads key (Ordered order v) = order_reads order key v
test_reads key (Among vs) = λ i. value_reads key i || false
test_reads key (NotAmong vs) = λ i. (value_reads key i || false) || false

mutual
  filter_reads : (f : Filter) → reads_state (filter_term f) ≡ false
  filter_reads (flag b) = refl
  filter_reads (test key t) = test_reads key t
  filter_reads (group groups.All fs) = filters_read fs
  filter_reads (group groups.Any fs) = filters_read fs
  filter_reads (group groups.None fs) = λ i. filters_read fs i || false

  filters_read : (fs : Filters) → (all_mentions (terms_of (filter_terms fs))).state ≡ false
  filters_read no_filters = refl
  filters_read (filter f fs) = λ i. filter_reads f i || filters_read fs i

-- ---- so a filter may have each of the nodes

first_is_false : (a b : Bool) → (a || b) ≡ false → a ≡ false
first_is_false true b h = absurd (cc)
first_is_false false b h = refl

second_is_false : (a b : Bool) → (a || b) ≡ false → b ≡ false
second_is_false true b h = absurd (cc)
second_is_false false b h = h

still_none : (b : Bool) (x y : Option (List PathPart)) (path : List PathPart) → (x ≡ None → y ≡ None)
    → (if b then x else Some path) ≡ None → (if b then y else Some path) ≡ None
still_none true x y path step h = step h
still_none false x y path step h = h

pub none_unread : (allows : Allowed) (vs ws : List Visit)
    → first_unread allows vs ≡ None → first_unread allows ws ≡ None → first_unread allows (vs ++ ws) ≡ None
none_unread allows [] ws h k = k
none_unread allows (v ∷ vs) ws h k =
    still_none (allows v.reads) (first_unread allows vs) (first_unread allows (vs ++ ws)) v.path
    (λ p. none_unread allows vs ws p k) h

-- at every place
abbrev IsAllowed : {S : Type 0} → (S → List PathPart → List Visit) → Type 0
IsAllowed {S} visiting =
    (standing : S) (path : List PathPart) → first_unread filter_allows (visiting standing path) ≡ None

abbrev unless_state : Bool → Option (List PathPart) → List PathPart → Option (List PathPart)
unless_state reads later path = if not reads then later else Some path

mutual
  visits_allowed : (e : Term) → reads_state e ≡ false → IsAllowed (visits e)
  visits_allowed (literal d) h = λ standing path. refl
  visits_allowed (node op ts) h =
      let own_reads = (of_operator op (count ts)).state in
      let alone = first_is_false own_reads (all_mentions ts).state h in
      let others = all_visits_allowed ts (second_is_false own_reads (all_mentions ts).state h) op (count ts) 0 in
      λ standing path i. unless_state (alone i) (others standing path i) path

  all_visits_allowed : (ts : Terms) → (all_mentions ts).state ≡ false → (op : Operator) (m k : ℕ)
      → IsAllowed (all_visits op m k (visitings ts))
  all_visits_allowed no_terms h op m k = λ standing path. refl
  all_visits_allowed (term t ts) h op m k = λ standing path.
      let one = first_is_false (reads_state t) (all_mentions ts).state h in
      let others = second_is_false (reads_state t) (all_mentions ts).state h in
      none_unread filter_allows (visits t _ _) (all_visits op m (k + 1) (visitings ts) standing path)
      (visits_allowed t one _ _) (all_visits_allowed ts others op m (k + 1) standing path)

-- ---- the check of a filter's term

abbrev pub IsCheckedAs : Bool → Term → Type 0
IsCheckedAs b e =
    (found : TypedNodes) × (checked e wants.Boolean None ≡ Ok found) × (found.node.kind ≡ kinds.Boolean)
    × (found.node.may ≡ faults_if b NotOrdered)

unless_unread : (b : Bool) (vs : List Visit) (r : Typed) → IsTypedAs b r → first_unread filter_allows vs ≡ None
    → (found : TypedNodes) × (allowed None vs r ≡ Ok found) × (found.node.kind ≡ kinds.Boolean)
    × (found.node.may ≡ faults_if b NotOrdered)
unless_unread b vs (Ok found) h k = (found, ap (λ o. unless_at o type_codes.Input (Ok found)) k, h.0, h.1)
unless_unread b vs (Err f) h k = absurd h

pub filter_checked : (f : Filter) → IsSound f → IsCheckedAs (has_order f) (filter_term f)
filter_checked f h =
    let e = filter_term f in
    unless_unread (has_order f) (visits e _ []) (typed e wants.Boolean [] []) (filter_typed f h [] [])
    (visits_allowed e (filter_reads f) _ [])
