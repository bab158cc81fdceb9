-- Operators that stop at the argument that decides.
use Rattle.std.proofs.Common.{◌≡◌, ℕ, ◌+◌, ℤ, List, [], ◌∷◌, Bool, true, false, not, ◌||◌, Option, Some, None, Ok, Err, refl, subst, sym}
use Rattle.std.specs.Prelude.{is_some, option_map}
use Rattle.fixed_num.specs.declared.color.Color.{Color}
use Rattle.color_values.specs.ColorOf.{color_of}
use Rattle.prop_values.specs.Data.{Data, null, boolean, number, text, color, list, map}
use Rattle.prop_values.specs.declared.fault.EvalFault.TheVariants as faults
use Rattle.prop_values.specs.declared.fault.FaultSet.{FaultSet}
use Rattle.prop_values.specs.declared.kinds.Kind.{Kind}
use Rattle.prop_values.specs.declared.kinds.Kind.TheVariants as kinds
use Rattle.prop_values.specs.declared.kinds.Want.{Want}
use Rattle.prop_values.specs.declared.kinds.Want.TheVariants as wants
use Rattle.expr_syntax.specs.declared.expression.Operator.{Operator}
use Rattle.expr_syntax.specs.declared.expression.Operator.TheVariants as ops
use Rattle.expr_syntax.specs.Operators.{wanted_by, want_of}
use Rattle.expr_types.specs.Assertions.{own_asserted, is_color_text, some_color_text}
use Rattle.expr_types.specs.Fits.{same_kind}
use Rattle.expr_types.specs.Own.{some_kind, common_kind}
use Rattle.expr_types.specs.OwnTable.{own}
use Rattle.expr_types.specs.Typing.{is_sequence_of}
use Rattle.operator_values.specs.Conversions.{number_in, color_in}
use Rattle.operator_values.specs.Evaluated.{Evaluated, then_value}
use Rattle.eval_face.specs.Decisions.{if_boolean, if_number, if_text, if_object, if_color, if_readable, if_false, if_true, if_there, or_later, first_of}
use Rattle.eval_face.specs.Meanings.{Meaning, argument_of}
use Rattle.eval_face.specs.Names.{BoundOutcomes}
use Rattle.eval_face.specs.World.{World}
use Rattle.typing_laws.specs.OfKind.{is_of}
use Rattle.typing_laws.proofs.Sets.{within_if}
use Rattle.typing_laws.proofs.KindLaws.{kind_eq, Covers, covers_common}
use Rattle.typing_laws.proofs.Outcomes.{OutcomeOf, OwnIn}
use Rattle.typing_laws.proofs.Arguments.{LiteralIn, IsGiven, ArgumentOf, AreGiven}

-- a value that decides is of a kind
abbrev DecidedIn : Kind → Option Data → Type 0
DecidedIn k (Some d) = is_of k d ≡ true
DecidedIn k None = Unit {0}

-- no argument is one that surely decides
abbrev NoneSure : (Option Data → Kind → Bool) → List (Option Data) → List Kind → Type 0
NoneSure sure [] [] = Unit {0}
NoneSure sure (l ∷ ls) (j ∷ js) = (sure l j ≡ false) × NoneSure sure ls js
NoneSure sure _ _ = ⊥

-- ---- which arguments surely decide

or_false : (a b : Bool) → a ≡ false → b ≡ false → (a || b) ≡ false
or_false false b h g = g
or_false true b h g = absurd (cc)

not_true : (b : Bool) → b ≡ false → not b ≡ true
not_true false h = refl
not_true true h = absurd (cc)

or_none : (a b : Bool) → (a || b) ≡ false → (a ≡ false) × (b ≡ false)
or_none false b h = (refl, h)
or_none true b h = absurd (cc)

abbrev sure_of_kind : Kind → Option Data → Kind → Bool
sure_of_kind k l j = same_kind k j

abbrev sure_color : Option Data → Kind → Bool
sure_color l j = same_kind kinds.Color j || is_color_text l

abbrev sure_number : Option Data → Kind → Bool
sure_number l j = same_kind kinds.Number j || same_kind kinds.Boolean j

abbrev never_sure : Option Data → Kind → Bool
never_sure l j = false

none_of_kind : (k : Kind) (ls : List (Option Data)) (js : List Kind) → NoneSure (sure_of_kind k) ls js →
    some_kind k js ≡ false
none_of_kind k [] [] h = refl
none_of_kind k (l ∷ ls) (j ∷ js) h = or_false (same_kind k j) (some_kind k js) h.0 (none_of_kind k ls js h.1)
none_of_kind k [] (j ∷ js) h = absurd h
none_of_kind k (l ∷ ls) [] h = absurd h

no_color : (ls : List (Option Data)) (js : List Kind) → NoneSure sure_color ls js →
    (some_kind kinds.Color js || some_color_text ls) ≡ false
no_color ls js h = or_false (some_kind kinds.Color js) (some_color_text ls) (colors ls js h) (texts ls js h)
  where
    colors : (ls : List (Option Data)) (js : List Kind) → NoneSure sure_color ls js →
        some_kind kinds.Color js ≡ false
    colors [] [] h = refl
    colors (l ∷ ls) (j ∷ js) h = or_false (same_kind kinds.Color j) (some_kind kinds.Color js)
        (or_none _ _ h.0).0 (colors ls js h.1)
    colors [] (j ∷ js) h = absurd h
    colors (l ∷ ls) [] h = absurd h

    texts : (ls : List (Option Data)) (js : List Kind) → NoneSure sure_color ls js →
        some_color_text ls ≡ false
    texts [] [] h = refl
    texts (l ∷ ls) (j ∷ js) h = or_false (is_color_text l) (some_color_text ls) (or_none _ _ h.0).1
        (texts ls js h.1)
    texts [] (j ∷ js) h = absurd h
    texts (l ∷ ls) [] h = absurd h

no_number : (ls : List (Option Data)) (js : List Kind) → NoneSure sure_number ls js →
    (some_kind kinds.Number js || some_kind kinds.Boolean js) ≡ false
no_number ls js h = or_false (some_kind kinds.Number js) (some_kind kinds.Boolean js) (numbers ls js h)
    (booleans ls js h)
  where
    numbers : (ls : List (Option Data)) (js : List Kind) → NoneSure sure_number ls js →
        some_kind kinds.Number js ≡ false
    numbers [] [] h = refl
    numbers (l ∷ ls) (j ∷ js) h = or_false (same_kind kinds.Number j) (some_kind kinds.Number js)
        (or_none _ _ h.0).0 (numbers ls js h.1)
    numbers [] (j ∷ js) h = absurd h
    numbers (l ∷ ls) [] h = absurd h

    booleans : (ls : List (Option Data)) (js : List Kind) → NoneSure sure_number ls js →
        some_kind kinds.Boolean js ≡ false
    booleans [] [] h = refl
    booleans (l ∷ ls) (j ∷ js) h = or_false (same_kind kinds.Boolean j) (some_kind kinds.Boolean js)
        (or_none _ _ h.0).1 (booleans ls js h.1)
    booleans [] (j ∷ js) h = absurd h
    booleans (l ∷ ls) [] h = absurd h

-- ---- what decides

boolean_decided : (d : Data) → DecidedIn kinds.Boolean (if_boolean d)
boolean_decided (boolean b) = refl
boolean_decided _ = tt

number_decided : (d : Data) → DecidedIn kinds.Number (if_number d)
number_decided (number b) = refl
number_decided _ = tt

text_decided : (d : Data) → DecidedIn kinds.Text (if_text d)
text_decided (text b) = refl
text_decided _ = tt

object_decided : (d : Data) → DecidedIn kinds.Object (if_object d)
object_decided (map b) = refl
object_decided _ = tt

color_decided : (d : Data) → DecidedIn kinds.Color (if_color d)
color_decided d = by (color_in d)
  where
    by : (c : Option Color) → DecidedIn kinds.Color (option_map color c)
    by (Some c) = refl
    by None = tt

readable_decided : (d : Data) → DecidedIn kinds.Number (if_readable d)
readable_decided d = by (number_in d)
  where
    by : (z : Option ℤ) → DecidedIn kinds.Number (option_map number z)
    by (Some z) = refl
    by None = tt

false_decided : (d : Data) → DecidedIn kinds.Boolean (if_false d)
false_decided (boolean false) = refl
false_decided (boolean true) = tt
false_decided null = tt
false_decided (number z) = tt
false_decided (text s) = tt
false_decided (color c) = tt
false_decided (list ds) = tt
false_decided (map ps) = tt

true_decided : (d : Data) → DecidedIn kinds.Boolean (if_true d)
true_decided (boolean true) = refl
true_decided (boolean false) = tt
true_decided null = tt
true_decided (number z) = tt
true_decided (text s) = tt
true_decided (color c) = tt
true_decided (list ds) = tt
true_decided (map ps) = tt

-- ---- what surely decides

boolean_sure : (d : Data) → is_of kinds.Boolean d ≡ true → is_some (if_boolean d) ≡ true
boolean_sure (boolean b) h = refl
boolean_sure _ h = absurd (cc)

number_sure : (d : Data) → is_of kinds.Number d ≡ true → is_some (if_number d) ≡ true
number_sure (number b) h = refl
number_sure _ h = absurd (cc)

text_sure : (d : Data) → is_of kinds.Text d ≡ true → is_some (if_text d) ≡ true
text_sure (text b) h = refl
text_sure _ h = absurd (cc)

object_sure : (d : Data) → is_of kinds.Object d ≡ true → is_some (if_object d) ≡ true
object_sure (map b) h = refl
object_sure _ h = absurd (cc)

color_sure : (d : Data) → is_of kinds.Color d ≡ true → is_some (if_color d) ≡ true
color_sure (color c) h = refl
color_sure _ h = absurd (cc)

color_literal : (l : Option Data) (d : Data) → is_color_text l ≡ true → LiteralIn l wants.Any (Ok d) →
    is_some (if_color d) ≡ true
color_literal (Some (text s)) d h q = let same : d ≡ text s = cc in subst (λ x. is_some (if_color x) ≡ true)
    (sym same) (by (color_of s) h)
  where
    by : (c : Option Color) → is_some c ≡ true → is_some (option_map color c) ≡ true
    by (Some c) h = refl
    by None h = absurd (cc)
color_literal None d h q = absurd (cc)
color_literal (Some null) d h q = absurd (cc)
color_literal (Some (boolean b)) d h q = absurd (cc)
color_literal (Some (number z)) d h q = absurd (cc)
color_literal (Some (color c)) d h q = absurd (cc)
color_literal (Some (list ds)) d h q = absurd (cc)
color_literal (Some (map ps)) d h q = absurd (cc)

readable_number : (d : Data) → is_of kinds.Number d ≡ true → is_some (if_readable d) ≡ true
readable_number (number z) h = refl
readable_number _ h = absurd (cc)

readable_boolean : (d : Data) → is_of kinds.Boolean d ≡ true → is_some (if_readable d) ≡ true
readable_boolean (boolean true) h = refl
readable_boolean (boolean false) h = refl
readable_boolean null h = absurd (cc)
readable_boolean (number z) h = absurd (cc)
readable_boolean (text s) h = absurd (cc)
readable_boolean (color c) h = absurd (cc)
readable_boolean (list ds) h = absurd (cc)
readable_boolean (map ps) h = absurd (cc)

of_same : (k j : Kind) (d : Data) → same_kind k j ≡ true → is_of j d ≡ true → is_of k d ≡ true
of_same k j d q h = subst (λ x. is_of x d ≡ true) (sym (kind_eq k j q)) h

or_by : (P : Type 0) (a b : Bool) → (a || b) ≡ true → (a ≡ true → P) → (b ≡ true → P) → P
or_by P true b h f g = f refl
or_by P false b h f g = g h

module _ (S : FaultSet) where
  -- the sure arguments of an operator decide
  abbrev Sure : Operator → (Option Data → Kind → Bool) → (Data → Option Data) → Type 0
  Sure op sure decides =
      (m k : ℕ) (w : Want) (l : Option Data) (j : Kind) (d : Data) →
      IsGiven (want_of (wanted_by op m k) w) (is_sequence_of op k) l j d →
      sure l j ≡ true → is_some (decides d) ≡ true

  later_ok : (K : Kind) (x : Option Data) (b : Bool) (later : Evaluated) → DecidedIn K x →
      (b ≡ true → is_some x ≡ true) → (b ≡ false → OutcomeOf S wants.Any K later) →
      OutcomeOf S wants.Any K (or_later x later)
  later_ok K (Some d) b later h g next = (refl, h)
  later_ok K None true later h g next = let q = g refl in absurd (cc)
  later_ok K None false later h g next = next refl

  then_ok : (K : Kind) (op : Operator) (sure : Option Data → Kind → Bool) (decides : Data → Option Data)
      (m k : ℕ) (w : Want) (l : Option Data) (j : Kind) (o later : Evaluated) →
      ((d : Data) → DecidedIn K (decides d)) → Sure op sure decides →
      ArgumentOf S (want_of (wanted_by op m k) w) (is_sequence_of op k) l j o →
      (sure l j ≡ false → OutcomeOf S wants.Any K later) →
      OutcomeOf S wants.Any K (then_value o (λ d. or_later (decides d) later))
  then_ok K op sure decides m k w l j (Ok d) later decided sured h next = later_ok K (decides d) (sure l j)
      later (decided d) (λ q. sured m k w l j d h q) next
  then_ok K op sure decides m k w l j (Err f) later decided sured h next = h

  first_ok : (K : Kind) (op : Operator) (sure : Option Data → Kind → Bool) (decides : Data → Option Data)
      (none : Evaluated) (m k : ℕ) (w : Want) (names : BoundOutcomes) (world : World) (ls : List (Option Data))
      (js : List Kind) (ms : List Meaning) → ((d : Data) → DecidedIn K (decides d)) → Sure op sure decides →
      AreGiven S op m k w names world ls js ms → (NoneSure sure ls js → OutcomeOf S wants.Any K none) →
      OutcomeOf S wants.Any K (first_of decides none op m k ms w names world)
  first_ok K op sure decides none m k w names world [] [] [] decided sured h last = last tt
  first_ok K op sure decides none m k w names world (l ∷ ls) (j ∷ js) (me ∷ ms) decided sured h last =
      then_ok K op sure decides m k w l j (argument_of op m k me w names world)
      (first_of decides none op m (k + 1) ms w names world) decided sured h.0
      (λ q. first_ok K op sure decides none m (k + 1) w names world ls js ms decided sured h.1
      (λ rest. last (q, rest)))
  first_ok K op sure decides none m k w names world [] [] (me ∷ ms) decided sured h last = absurd h
  first_ok K op sure decides none m k w names world [] (j ∷ js) ms decided sured h last = absurd h
  first_ok K op sure decides none m k w names world (l ∷ ls) [] ms decided sured h last = absurd h
  first_ok K op sure decides none m k w names world (l ∷ ls) (j ∷ js) [] decided sured h last = absurd h

  -- what each of these operators gives
  abbrev pub Decides : Operator → (Data → Option Data) → Evaluated → Type 0
  Decides op decides none =
      (m : ℕ) (w : Want) (names : BoundOutcomes) (world : World) (ls : List (Option Data)) (js : List Kind)
      (ms : List Meaning) →
      AreGiven S op m 0 w names world ls js ms → OwnIn S wants.Any (own op w ls js)
      (first_of decides none op m 0 ms w names world)

  asserted : (K : Kind) (op : Operator) (decides : Data → Option Data) →
      ((d : Data) → DecidedIn K (decides d)) → ((d : Data) → is_of K d ≡ true → is_some (decides d) ≡ true) →
      (m : ℕ) (w : Want) (names : BoundOutcomes) (world : World) (ls : List (Option Data)) (js : List Kind)
      (ms : List Meaning) → AreGiven S op m 0 w names world ls js ms →
      OwnIn S wants.Any (own_asserted K js) (first_of decides (Err faults.WrongType) op m 0 ms w names world)
  asserted K op decides decided sured m w names world ls js ms h = λ none all.
      first_ok K op (sure_of_kind K) decides (Err faults.WrongType) m 0 w names world ls js ms decided
      (λ m k w l j d g q. sured d (of_same K j d q g.kind)) h
      (λ q. within_if S (not (some_kind K js)) faults.WrongType
      (not_true (some_kind K js) (none_of_kind K ls js q)) all)

  pub boolean_ok : Decides ops.Boolean if_boolean (Err faults.WrongType)
  boolean_ok = asserted kinds.Boolean ops.Boolean if_boolean boolean_decided boolean_sure

  pub number_ok : Decides ops.Number if_number (Err faults.WrongType)
  number_ok = asserted kinds.Number ops.Number if_number number_decided number_sure

  pub text_ok : Decides ops.String if_text (Err faults.WrongType)
  text_ok = asserted kinds.Text ops.String if_text text_decided text_sure

  pub object_ok : Decides ops.Object if_object (Err faults.WrongType)
  object_ok = asserted kinds.Object ops.Object if_object object_decided object_sure

  pub color_ok : Decides ops.ToColor if_color (Err faults.NotColor)
  color_ok m w names world ls js ms h = λ none all.
      first_ok kinds.Color ops.ToColor sure_color if_color (Err faults.NotColor) m 0 w names world ls js ms
      color_decided
      (λ m k w l j d g q. or_by (is_some (if_color d) ≡ true) (same_kind kinds.Color j) (is_color_text l) q
      (λ a. color_sure d (of_same kinds.Color j d a g.kind)) (λ b. color_literal l d b g.literal)) h
      (λ q. within_if S _ faults.NotColor (not_true _ (no_color ls js q)) all)

  pub readable_ok : Decides ops.ToNumber if_readable (Err faults.NotNumberText)
  readable_ok m w names world ls js ms h = λ none all.
      first_ok kinds.Number ops.ToNumber sure_number if_readable (Err faults.NotNumberText) m 0 w names world
      ls js ms readable_decided
      (λ m k w l j d g q. or_by (is_some (if_readable d) ≡ true) (same_kind kinds.Number j)
      (same_kind kinds.Boolean j) q (λ a. readable_number d (of_same kinds.Number j d a g.kind))
      (λ b. readable_boolean d (of_same kinds.Boolean j d b g.kind))) h
      (λ q. within_if S _ faults.NotNumberText (not_true _ (no_number ls js q)) all)

  pub all_ok : Decides ops.All if_false (Ok (boolean true))
  all_ok m w names world ls js ms h = λ none all. first_ok kinds.Boolean ops.All never_sure if_false
      (Ok (boolean true)) m 0 w names world ls js ms false_decided (λ m k w l j d g q. absurd (cc)) h
      (λ q. (refl, refl))

  pub any_ok : Decides ops.Any if_true (Ok (boolean false))
  any_ok m w names world ls js ms h = λ none all. first_ok kinds.Boolean ops.Any never_sure if_true
      (Ok (boolean false)) m 0 w names world ls js ms true_decided (λ m k w l j d g q. absurd (cc)) h
      (λ q. (refl, refl))

  -- `coalesce`: null is of the common kind, where an argument gave it

  there_ok : (K : Kind) (j : Kind) (d : Data) (later : Evaluated) →
      ((e : Data) → is_of j e ≡ true → is_of K e ≡ true) → is_of j d ≡ true →
      (is_of K null ≡ true → OutcomeOf S wants.Any K later) →
      OutcomeOf S wants.Any K (or_later (if_there d) later)
  there_ok K j null later cover h next = next (cover null h)
  there_ok K j (boolean b) later cover h next = (refl, cover (boolean b) h)
  there_ok K j (number z) later cover h next = (refl, cover (number z) h)
  there_ok K j (text s) later cover h next = (refl, cover (text s) h)
  there_ok K j (color c) later cover h next = (refl, cover (color c) h)
  there_ok K j (list ds) later cover h next = (refl, cover (list ds) h)
  there_ok K j (map ps) later cover h next = (refl, cover (map ps) h)

  then_there : (K : Kind) (op : Operator) (w : Want) (asked : Bool) (l : Option Data) (j : Kind)
      (o later : Evaluated) → ((e : Data) → is_of j e ≡ true → is_of K e ≡ true) →
      ArgumentOf S w asked l j o → (is_of K null ≡ true → OutcomeOf S wants.Any K later) →
      OutcomeOf S wants.Any K (then_value o (λ d. or_later (if_there d) later))
  then_there K op w asked l j (Ok d) later cover h next = there_ok K j d later cover h.kind next
  then_there K op w asked l j (Err f) later cover h next = h

  coalesced : (K : Kind) (m k : ℕ) (w : Want) (names : BoundOutcomes) (world : World) (ls : List (Option Data))
      (js : List Kind) (ms : List Meaning) → Covers K js →
      AreGiven S ops.Coalesce m k w names world ls js ms → (js ≡ [] → is_of K null ≡ true) →
      OutcomeOf S wants.Any K (first_of if_there (Ok null) ops.Coalesce m k ms w names world)
  coalesced K m k w names world [] [] [] cover h last = (refl, last refl)
  coalesced K m k w names world (l ∷ ls) (j ∷ js) (me ∷ ms) cover h last =
      then_there K ops.Coalesce (want_of (wanted_by ops.Coalesce m k) w) (is_sequence_of ops.Coalesce k) l j
      (argument_of ops.Coalesce m k me w names world)
      (first_of if_there (Ok null) ops.Coalesce m (k + 1) ms w names world) cover.0 h.0
      (λ q. coalesced K m (k + 1) w names world ls js ms cover.1 h.1 (λ r. q))
  coalesced K m k w names world [] [] (me ∷ ms) cover h last = absurd h
  coalesced K m k w names world [] (j ∷ js) ms cover h last = absurd h
  coalesced K m k w names world (l ∷ ls) [] ms cover h last = absurd h
  coalesced K m k w names world (l ∷ ls) (j ∷ js) [] cover h last = absurd h

  common_null : (js : List Kind) → js ≡ [] → is_of (common_kind js) null ≡ true
  common_null [] h = refl
  common_null (j ∷ js) h = absurd (cc)

  pub there : Decides ops.Coalesce if_there (Ok null)
  there m w names world ls js ms h = λ none all. coalesced (common_kind js) m 0 w names world ls js ms
      (covers_common js) h (common_null js)
