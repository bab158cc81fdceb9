-- The types of the nodes that are in the terms of legacy functions: none has a type fault where its arguments
-- have none.
use Rattle.std.proofs.Common.{◌≡◌, ℕ, ◌+◌, ◌<◌, ℤ, List, [], ◌∷◌, length, refl, ap, sym, subst, arith, true, false}
use Rattle.std.proofs.lemmas.Bool.{ne_eqb}
use Rattle.std.specs.Prelude.{nat_eq, map, Option, Some, None, Result, Ok, Err, if◌then◌else◌}
use Rattle.decimal_json.specs.declared.paths.PathPart.{PathPart}
use Rattle.prop_values.specs.Data.{Data, text}
use Rattle.prop_values.specs.Faults.{no_faults}
use Rattle.prop_values.specs.declared.kinds.Item.TheVariants as items
use Rattle.prop_values.specs.declared.kinds.Kind.{Kind}
use Rattle.prop_values.specs.declared.kinds.Kind.TheVariants as kinds
use Rattle.prop_values.specs.declared.kinds.Want.{Want}
use Rattle.prop_values.specs.declared.kinds.Want.TheVariants as wants
use Rattle.prop_values.specs.declared.outcome.Curve.{Curve}
use Rattle.property_tables.specs.Fitting.{fit}
use Rattle.expr_syntax.specs.declared.expression.Operator.{Operator}
use Rattle.expr_syntax.specs.declared.expression.Operator.TheVariants as operators
use Rattle.expr_syntax.specs.declared.rows.Wanted.TheVariants.{Own, OfNode}
use Rattle.expr_syntax.specs.Operators.{want_of}
use Rattle.expr_syntax.specs.Term.{Term, literal, terms_of}
use Rattle.expr_types.specs.ArgumentPaths.{argument_path}
use Rattle.expr_types.specs.Fits.{fits}
use Rattle.expr_types.specs.Own.{owns, common_kind}
use Rattle.expr_types.specs.OwnTable.{own}
use Rattle.expr_types.specs.Typing.{TypedNodes, Typed, KindScope, fit_or, looked_at, is_sequence_of, argument_want, and_found}
use Rattle.expr_types.specs.Typing.{founds_of, kinds_in, all_may, all_places, then_found, finished, typed_as, typed, typings}
use Rattle.expr_types.specs.Typing.{literals}
use Rattle.expr_types.specs.declared.fault.TypeFault.{TypeFault}
use Rattle.legacy_functions.specs.Function.{Input, flag, number, word}
use Rattle.legacy_functions.specs.Function.{Way, even, curved, stepped}
use Rattle.legacy_functions.proofs.PieceViews.{Part, parts}
use Rattle.legacy_functions.proofs.SoundRules.{HasSome}
use Rattle.legacy_laws.proofs.FilterTerms.{two_terms, kind_term}
use Rattle.legacy_laws.proofs.FunctionValues.{ramp_taken}
use Rattle.legacy_laws.proofs.FunctionTerms.{property_term, part_term, token_term}
use Rattle.legacy_laws.proofs.FunctionTerms.{TermBranches, branch_inputs, branch_terms, way_curve}
use Rattle.legacy_laws.proofs.FunctionTerms.{ramp_term, step_term, way_term, case_term, input_data}
use Rattle.legacy_laws.proofs.FunctionTerms.{zoom_term}
use Rattle.legacy_laws.proofs.FunctionTerms.{named_term}
use Rattle.legacy_laws.proofs.TableRows.{is_text_want, is_ramp_want, MayGo}
use Rattle.legacy_laws.proofs.LiteralTyping.{IsOk, IsTypedUnder, MayFit, fit_is_ok, below_is_ok}
use Rattle.legacy_laws.proofs.LiteralTyping.{null_typed}

-- ---- a property

get_typed : (name : List ℕ) (want : Want) → IsTypedUnder want (property_term name)
get_typed name wants.Any scope path = tt
get_typed name wants.Shown scope path = tt
get_typed name wants.Boolean scope path = tt
get_typed name wants.Number scope path = tt
get_typed name wants.Text scope path = tt
get_typed name wants.Color scope path = tt
get_typed name wants.Object scope path = tt
get_typed name wants.Image scope path = tt
get_typed name (wants.List i n) scope path = tt
get_typed name (wants.Enum c) scope path = tt
get_typed name (wants.EnumList c) scope path = tt

pub property_typed : (property : Option (List ℕ)) (want : Want) → IsTypedUnder want (named_term property)
property_typed (Some name) want = get_typed name want
property_typed None want = null_typed want

-- tests of its kind, and whether it is an input
kind_typed : (property : Option (List ℕ)) (kind : List ℕ) → IsTypedUnder wants.Boolean (kind_term kind (named_term property))
kind_typed (Some name) kind scope path = tt
kind_typed None kind scope path = tt

pub equal_typed : (property : Option (List ℕ)) (i : Input)
    → IsTypedUnder wants.Boolean (two_terms operators.Equal (named_term property) (literal (input_data i)))
equal_typed (Some name) (flag b) scope path = tt
equal_typed (Some name) (number n) scope path = tt
equal_typed (Some name) (word s) scope path = tt
equal_typed None (flag b) scope path = tt
equal_typed None (number n) scope path = tt
equal_typed None (word s) scope path = tt

-- ---- arguments

abbrev pub Founds : Type 0
Founds = Result (List TypedNodes) TypeFault

pub argument_is_ok : (r : Typed) (path : List PathPart) (later : Founds) → IsOk r → IsOk later
    → IsOk (and_found (looked_at false r path) later)
argument_is_ok (Ok found) path (Ok founds) h k = tt
argument_is_ok (Ok found) path (Err f) h k = absurd k
argument_is_ok (Err f) path later h k = absurd h

-- ---- token texts

pub text_may_fit : (want : Want) (s : List ℕ) (e : Data) → fit want (text s) ≡ Ok e → MayFit (fits kinds.Text want)
text_may_fit wants.Any s e h = tt
text_may_fit wants.Shown s e h = tt
text_may_fit wants.Boolean s e h = absurd (cc)
text_may_fit wants.Number s e h = absurd (cc)
text_may_fit wants.Text s e h = tt
text_may_fit wants.Color s e h = tt
text_may_fit wants.Object s e h = absurd (cc)
text_may_fit wants.Image s e h = tt
text_may_fit (wants.List i n) s e h = absurd (cc)
text_may_fit (wants.Enum c) s e h = tt
text_may_fit (wants.EnumList c) s e h = absurd (cc)

-- a text fits what a row that takes token texts wants
pub text_wanted : (want : Want) → is_text_want want ≡ true → MayFit (fits kinds.Text want)
text_wanted wants.Shown h = tt
text_wanted wants.Image h = tt
text_wanted wants.Any h = absurd (cc)
text_wanted wants.Boolean h = absurd (cc)
text_wanted wants.Number h = absurd (cc)
text_wanted wants.Text h = absurd (cc)
text_wanted wants.Color h = absurd (cc)
text_wanted wants.Object h = absurd (cc)
text_wanted (wants.List i n) h = absurd (cc)
text_wanted (wants.Enum c) h = absurd (cc)
text_wanted (wants.EnumList c) h = absurd (cc)

parts_typed : (ps : List Part) (m k : ℕ) (want : Want) (scope : KindScope) (path : List PathPart)
    → IsOk (founds_of operators.Concat m k (typings (terms_of (map part_term ps))) want scope path)
parts_typed [] m k want scope path = tt
parts_typed ((false, s) ∷ ps) m k want scope path =
    argument_is_ok (typed (literal (text s)) wants.Any scope (argument_path operators.Concat m k path))
    (argument_path operators.Concat m k path)
    (founds_of operators.Concat m (k + 1) (typings (terms_of (map part_term ps))) want scope path)
    tt (parts_typed ps m (k + 1) want scope path)
parts_typed ((true, name) ∷ ps) m k want scope path =
    argument_is_ok (typed (property_term name) wants.Any scope (argument_path operators.Concat m k path))
    (argument_path operators.Concat m k path)
    (founds_of operators.Concat m (k + 1) (typings (terms_of (map part_term ps))) want scope path)
    tt (parts_typed ps m (k + 1) want scope path)

concat_is_ok : (ls : List (Option Data)) (founds : Founds) (want : Want) (path : List PathPart) → IsOk founds
    → MayFit (fits kinds.Text want)
    → IsOk (then_found founds (λ fs. finished operators.Concat want (own operators.Concat want ls (kinds_in fs)) fs path))
concat_is_ok ls (Ok fs) want path h may =
    below_is_ok (all_places fs) (fit_or (fits kinds.Text want) want (owns kinds.Text no_faults) (all_may fs) path)
    (fit_is_ok (fits kinds.Text want) want kinds.Text no_faults (all_may fs) path may)
concat_is_ok ls (Err f) want path h may = absurd h

pub tokens_typed : (want : Want) (s : List ℕ) → MayFit (fits kinds.Text want) → IsTypedUnder want (token_term s)
tokens_typed want s may scope path =
    let ts = terms_of (map part_term (parts s)) in
    concat_is_ok (literals ts) (founds_of operators.Concat (length (typings ts)) 0 (typings ts) want scope path) want path
    (parts_typed (parts s) (length (typings ts)) 0 want scope path) may

-- ---- nodes that hand their want to their outputs

pub case_is_ok : (ls : List (Option Data)) (founds : Founds) (want : Want) (path : List PathPart) → IsOk founds
    → IsOk (then_found founds (λ fs. finished operators.Case want (own operators.Case want ls (kinds_in fs)) fs path))
case_is_ok ls (Ok fs) want path h = tt
case_is_ok ls (Err f) want path h = absurd h

step_is_ok : (inputs : List ℤ) (ls : List (Option Data)) (founds : Founds) (want : Want) (path : List PathPart) → IsOk founds
    → IsOk (then_found founds (λ fs. finished (operators.Step inputs) want (own (operators.Step inputs) want ls (kinds_in fs)) fs path))
step_is_ok inputs ls (Ok fs) want path h = tt
step_is_ok inputs ls (Err f) want path h = absurd h

abbrev ramp_from : Curve → List ℤ → List (Option Data) → Want → List PathPart → Founds → Typed
ramp_from curve inputs ls want path founds =
    then_found founds (λ fs.
    finished (operators.Interpolate (curve, inputs)) want (own (operators.Interpolate (curve, inputs)) want ls (kinds_in fs)) fs path)

ramp_is_ok : (curve : Curve) (inputs : List ℤ) (ls : List (Option Data)) (founds : Founds) (want : Want) (path : List PathPart)
    → IsOk founds → is_ramp_want want ≡ true → IsOk (ramp_from curve inputs ls want path founds)
ramp_is_ok curve inputs ls (Err f) want path h ramps = absurd h
ramp_is_ok curve inputs ls (Ok fs) wants.Number path h ramps = tt
ramp_is_ok curve inputs ls (Ok fs) wants.Color path h ramps = tt
ramp_is_ok curve inputs ls (Ok fs) (wants.List items.Number (Some n)) path h ramps = tt
ramp_is_ok curve inputs ls (Ok fs) (wants.List items.Number None) path h ramps = absurd (cc)
ramp_is_ok curve inputs ls (Ok fs) (wants.List items.Any n) path h ramps = absurd (cc)
ramp_is_ok curve inputs ls (Ok fs) (wants.List items.Boolean n) path h ramps = absurd (cc)
ramp_is_ok curve inputs ls (Ok fs) (wants.List items.Text n) path h ramps = absurd (cc)
ramp_is_ok curve inputs ls (Ok fs) wants.Any path h ramps = absurd (cc)
ramp_is_ok curve inputs ls (Ok fs) wants.Shown path h ramps = absurd (cc)
ramp_is_ok curve inputs ls (Ok fs) wants.Boolean path h ramps = absurd (cc)
ramp_is_ok curve inputs ls (Ok fs) wants.Text path h ramps = absurd (cc)
ramp_is_ok curve inputs ls (Ok fs) wants.Object path h ramps = absurd (cc)
ramp_is_ok curve inputs ls (Ok fs) wants.Image path h ramps = absurd (cc)
ramp_is_ok curve inputs ls (Ok fs) (wants.Enum c) path h ramps = absurd (cc)
ramp_is_ok curve inputs ls (Ok fs) (wants.EnumList c) path h ramps = absurd (cc)

shown_fits : (k : Kind) → MayFit (fits k wants.Shown)
shown_fits kinds.Any = tt
shown_fits kinds.Boolean = tt
shown_fits kinds.Number = tt
shown_fits kinds.Text = tt
shown_fits kinds.Color = tt
shown_fits kinds.Object = tt
shown_fits kinds.Image = tt
shown_fits (kinds.List i n) = tt

pub coalesce_is_ok : (ls : List (Option Data)) (founds : Founds) (path : List PathPart) → IsOk founds
    → IsOk (then_found founds (λ fs. finished operators.Coalesce wants.Shown (own operators.Coalesce wants.Shown ls (kinds_in fs)) fs path))
coalesce_is_ok ls (Ok fs) path h =
    let k = common_kind (kinds_in fs) in
    below_is_ok (all_places fs) (fit_or (fits k wants.Shown) wants.Shown (owns k no_faults) (all_may fs) path)
    (fit_is_ok (fits k wants.Shown) wants.Shown k no_faults (all_may fs) path (shown_fits k))
coalesce_is_ok ls (Err f) path h = absurd h

-- ---- from stop to stop

abbrev pub AreTypedUnder : Want → TermBranches → Type 0
AreTypedUnder want [] = Unit {0}
AreTypedUnder want (x ∷ xs) = IsTypedUnder want x.1 × AreTypedUnder want xs

behind_first : (k : ℕ) → 0 < k → nat_eq k 0 ≡ false
behind_first k some = ne_eqb k 0 (λ p. omega (arith, some, p))

module _ (want : Want) (scope : KindScope) (path : List PathPart) where
  -- what is found of an argument, and of those after it
  abbrev and_later : Operator → ℕ → ℕ → Term → Founds → Founds
  and_later op m k e later =
      let inner = argument_path op m k path in
      and_found (looked_at (is_sequence_of op k) (typed_as e (is_sequence_of op k) (argument_want op m k want) scope inner) inner) later

  -- an argument whose want is known
  pub wanted_is_ok : (op : Operator) (m k : ℕ) (e : Term) (w : Want) (later : Founds) → argument_want op m k want ≡ w
      → is_sequence_of op k ≡ false → IsTypedUnder w e → IsOk later
      → IsOk (and_later op m k e later)
  wanted_is_ok op m k e w later is plain_one h rest =
      let inner = argument_path op m k path in
      let one : IsOk (typed e (argument_want op m k want) scope inner) =
      subst (λ v. IsOk (typed e v scope inner)) (sym is) (h scope inner) in
      subst (λ b. IsOk (and_found (looked_at b (typed_as e b (argument_want op m k want) scope inner) inner) later)) (sym plain_one)
      (argument_is_ok (typed e (argument_want op m k want) scope inner) inner later one rest)

  outputs_are_ok : (op : Operator) → ((m k : ℕ) → 0 < k → argument_want op m k want ≡ want)
      → ((k : ℕ) → is_sequence_of op k ≡ false) → (xs : TermBranches) → AreTypedUnder want xs → (m k : ℕ) → 0 < k
      → IsOk (founds_of op m k (typings (terms_of (branch_terms xs))) want scope path)
  outputs_are_ok op same plain_ones [] h m k some = tt
  outputs_are_ok op same plain_ones (x ∷ xs) h m k some =
      wanted_is_ok op m k x.1 want (founds_of op m (k + 1) (typings (terms_of (branch_terms xs))) want scope path)
      (same m k some) (plain_ones k) h.0 (outputs_are_ok op same plain_ones xs h.1 m (k + 1) (omega arith))

  step_wants : (inputs : List ℤ) (m k : ℕ) → 0 < k → argument_want (operators.Step inputs) m k want ≡ want
  step_wants inputs m k some = ap (λ b. want_of (if b then Own wants.Number else OfNode) want) (behind_first k some)

  ramp_wants : (curve : Curve) (inputs : List ℤ) → is_ramp_want want ≡ true → (m k : ℕ) → 0 < k
      → argument_want (operators.Interpolate (curve, inputs)) m k want ≡ want
  ramp_wants curve inputs ramps m k some =
      let taken = ramp_taken want ramps in
      let behind = behind_first k some in
      λ j. want_of (if behind j then Own wants.Number else OfNode) (taken j)

ramp_typed : (want : Want) (way : Way) (x : Term) (xs : TermBranches) → is_ramp_want want ≡ true
    → IsTypedUnder wants.Number x → AreTypedUnder want xs → IsTypedUnder want (ramp_term way x xs)
ramp_typed want way x xs ramps h k scope path =
    let op = operators.Interpolate (way_curve way, branch_inputs xs) in
    let ts = terms_of (x ∷ branch_terms xs) in
    let m = length (typings ts) in
    let later = founds_of op m 1 (typings (terms_of (branch_terms xs))) want scope path in
    let founds = founds_of op m 0 (typings ts) want scope path in
    let same = ramp_wants want scope path (way_curve way) (branch_inputs xs) ramps in
    let outputs = outputs_are_ok want scope path op same (λ i. refl) xs k m 1 (omega arith) in
    ramp_is_ok (way_curve way) (branch_inputs xs) (literals ts) founds want path
    (argument_is_ok (typed x wants.Number scope (argument_path op m 0 path)) (argument_path op m 0 path) later
    (h scope (argument_path op m 0 path)) outputs)
    ramps

step_typed : (want : Want) (x : Term) (xs : TermBranches) → IsTypedUnder wants.Number x → AreTypedUnder want xs
    → HasSome xs → IsTypedUnder want (step_term x xs)
step_typed want x [] h k some = absurd some
step_typed want x (b ∷ []) h k some = k.0
step_typed want x (b ∷ c ∷ bs) h k some = λ scope path.
    let op = operators.Step (branch_inputs (c ∷ bs)) in
    let ts = terms_of (x ∷ branch_terms (b ∷ c ∷ bs)) in
    let m = length (typings ts) in
    let later = founds_of op m 1 (typings (terms_of (branch_terms (b ∷ c ∷ bs)))) want scope path in
    let founds = founds_of op m 0 (typings ts) want scope path in
    let same = step_wants want scope path (branch_inputs (c ∷ bs)) in
    let outputs = outputs_are_ok want scope path op same (λ i. refl) (b ∷ c ∷ bs) k m 1 (omega arith) in
    step_is_ok (branch_inputs (c ∷ bs)) (literals ts) founds want path
    (argument_is_ok (typed x wants.Number scope (argument_path op m 0 path)) (argument_path op m 0 path) later
    (h scope (argument_path op m 0 path)) outputs)

pub way_typed : (want : Want) (way : Way) (x : Term) (xs : TermBranches) → MayGo want way → IsTypedUnder wants.Number x
    → AreTypedUnder want xs → HasSome xs → IsTypedUnder want (way_term way x xs)
way_typed want even x xs may h k some = ramp_typed want even x xs may h k
way_typed want (curved base) x xs may h k some = ramp_typed want (curved base) x xs may h k
way_typed want stepped x xs may h k some = step_typed want x xs h k some

-- ---- tests of a value's kind

pub case_typed : (property : Option (List ℕ)) (kind : List ℕ) (want : Want) (e default : Term) → IsTypedUnder want e
    → IsTypedUnder want default → IsTypedUnder want (case_term kind (named_term property) e default)
case_typed property kind want e default h k scope path =
    let op = operators.Case in
    let test = kind_term kind (named_term property) in
    let ts = terms_of (test ∷ e ∷ default ∷ []) in
    let at : ℕ → List PathPart = λ i. argument_path op 3 i path in
    let last : Founds = and_found (looked_at false (typed default want scope (at 2)) (at 2)) (Ok []) in
    let others : Founds = and_found (looked_at false (typed e want scope (at 1)) (at 1)) last in
    let founds : Founds = and_found (looked_at false (typed test wants.Boolean scope (at 0)) (at 0)) others in
    case_is_ok (literals ts) founds want path
    (argument_is_ok (typed test wants.Boolean scope (at 0)) (at 0) others (kind_typed property kind scope (at 0))
    (argument_is_ok (typed e want scope (at 1)) (at 1) last (h scope (at 1))
    (argument_is_ok (typed default want scope (at 2)) (at 2) (Ok []) (k scope (at 2)) tt)))

pub zoom_typed : IsTypedUnder wants.Number zoom_term
zoom_typed scope path = tt
