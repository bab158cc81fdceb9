-- Arguments whose outcomes are known, each under the want that its row says: an operator gives the same of them as
-- of their meanings.
use Rattle.std.proofs.Common.{◌≡◌, ℕ, ◌+◌, ◌-◌, ◌<◌, ◌%◌, zero, suc, ℤ, List, [], ◌∷◌, length, Bool, true, false, not, ◌||◌, nat_eq, Option, Some, unwrap_or, if◌then◌else◌, refl, arith, sym, ap, ◌∙◌}
use Rattle.std.proofs.lemmas.Bool.{eqb-true, eq-eqb, ne_eqb}
use Rattle.prop_values.specs.Data.{Data, text, pairs_of}
use Rattle.prop_values.specs.declared.kinds.Want.{Want}
use Rattle.prop_values.specs.declared.kinds.Want.TheVariants as wants
use Rattle.prop_values.specs.declared.outcome.Curve.{Curve}
use Rattle.interpolate_fixed.specs.Places.{input_at, place_of, count_not_above}
use Rattle.interpolate_fixed.specs.Warp.{warp_of}
use Rattle.interpolate_fixed.specs.declared.place.StopPlace.{StopPlace}
use Rattle.interpolate_fixed.specs.declared.place.StopPlace.TheVariants.{First, Last, Between}
use Rattle.property_tables.specs.Fitting.{fit}
use Rattle.expr_syntax.specs.Chosen.{output_of}
use Rattle.expr_syntax.specs.Operators.{wanted_by, want_of, ramp_want}
use Rattle.expr_syntax.specs.Rows.{is_last, is_even, wanted}
use Rattle.expr_syntax.specs.Term.{Terms, no_terms, literal, term}
use Rattle.expr_syntax.specs.declared.expression.Operator.{Operator}
use Rattle.expr_syntax.specs.declared.expression.Operator.TheVariants as operators
use Rattle.expr_syntax.specs.declared.parts.Labelled.{Labelled}
use Rattle.expr_syntax.specs.declared.rows.Wanted.TheVariants.{Own, OfNode}
use Rattle.expr_syntax.specs.declared.rows.Wants.TheVariants as wanting
use Rattle.operator_values.specs.Arithmetic.{then_number}
use Rattle.operator_values.specs.Evaluated.{Evaluated, then_value}
use Rattle.eval_face.specs.Branches.{branch, case_of, output_at, match_of, with_number, step_of, between_values, ramp_at, ramp_of}
use Rattle.eval_face.specs.Decisions.{or_later, first_of}
use Rattle.eval_face.specs.Lookups.{entry_at}
use Rattle.eval_face.specs.Meaning.{meaning_by, node_meaning, means}
use Rattle.eval_face.specs.Meanings.{Meaning, argument_of, then_values, and_values, values_of}
use Rattle.eval_face.specs.Names.{BoundOutcomes}
use Rattle.eval_face.specs.Rules.{Rule, each, deciding, cases, labels, stops, ramp, bindings, variable, rule_of}
use Rattle.eval_face.specs.World.{World}
use Rattle.expr_nodes.specs.Limits.{has_names}
use Rattle.expr_nodes.specs.Outcome.{all_known}
use Rattle.expr_nodes.specs.Resolving.{outputs_want, key_of, literal_key}

-- ---- rows agree with rules

-- what the row of an operator that chooses an output says of its arguments
abbrev pub RowAgrees : Rule → Operator → Type 0
RowAgrees cases op = (m k : ℕ) → wanted_by op m k ≡ wanted wanting.Conditions m k
RowAgrees (labels ls) op = (m k : ℕ) → wanted_by op m k ≡ wanted (wanting.Input wants.Any) m k
RowAgrees (stops inputs) op = (m k : ℕ) → wanted_by op m k ≡ wanted (wanting.Input wants.Number) m k
RowAgrees (ramp curve inputs) op = (m k : ℕ) → wanted_by op m k ≡ wanted (wanting.Input wants.Number) m k
RowAgrees _ op = Unit {0}

pub row_agrees : (op : Operator) → RowAgrees (rule_of op) op
row_agrees operators.Case = λ m k. refl
row_agrees (operators.Match ls) = λ m k. refl
row_agrees (operators.Step inputs) = λ m k. refl
row_agrees (operators.Interpolate r) = λ m k. refl
row_agrees _ = tt

-- conditions at even places, and outputs after them and at the end
conditions_want : (last even_place : Bool) → last ≡ false → even_place ≡ true → (want : Want) →
    want_of (if last || not even_place then OfNode else Own wants.Boolean) want ≡ wants.Boolean
conditions_want false true h g want = refl
conditions_want false false h g want = absurd (cc)
conditions_want true even_place h g want = absurd (cc)

last_want : (last even_place : Bool) → last ≡ true → (want : Want) →
    want_of (if last || not even_place then OfNode else Own wants.Boolean) want ≡ want
last_want true even_place h want = refl
last_want false even_place h want = absurd (cc)

output_want : (last even_place : Bool) → even_place ≡ false → (want : Want) →
    want_of (if last || not even_place then OfNode else Own wants.Boolean) want ≡ want
output_want true even_place h want = refl
output_want false false h want = refl
output_want false true h want = absurd (cc)

odd_after : (k : ℕ) → is_even k ≡ true → is_even (k + 1) ≡ false
odd_after k h = let q = eqb-true (k % 2) 0 h in ne_eqb ((k + 1) % 2) 0 (λ e. omega (arith, q, e))

even_after : (k : ℕ) → is_even k ≡ true → is_even (k + 1 + 1) ≡ true
even_after k h = let q = eqb-true (k % 2) 0 h in eq-eqb ((k + 1 + 1) % 2) 0 (omega (arith, q))

-- an output is at each place but the first
input_want : (first : Bool) → first ≡ false →
    (own want : Want) → want_of (if first then Own own else OfNode) want ≡ want
input_want false h own want = refl
input_want true h own want = absurd (cc)

outputs_of_input : (op : Operator) (m : ℕ) (own want : Want) →
    ((k : ℕ) → wanted_by op m k ≡ wanted (wanting.Input own) m k) →
    (k : ℕ) → 0 < k → want_of (wanted_by op m k) want ≡ want
outputs_of_input op m own want row k some =
    ap (λ w. want_of w want) (row k)
    ∙ input_want (nat_eq k 0) (ne_eqb k 0 (λ e. omega (arith, some, e))) own want

-- ---- the outcomes of arguments

-- the outcomes of the arguments from place k on, of m, where the outputs of the node are wanted as given
abbrev pub argument_outcomes : Operator → ℕ → ℕ → Want → List Meaning → BoundOutcomes → World → List Evaluated
argument_outcomes op m k outputs [] names world = []
argument_outcomes op m k outputs (meaning ∷ meanings) names world =
    meaning (want_of (wanted_by op m k) outputs) names world
    ∷ argument_outcomes op m (k + 1) outputs meanings names world

module _ (op : Operator) (m : ℕ) (names : BoundOutcomes) (world : World) where
  -- the arguments from place k on, known
  abbrev arguments : ℕ → Want → List Meaning → List Meaning
  arguments k outputs ms = all_known (argument_outcomes op m k outputs ms names world)

  argument_count : (k : ℕ) (outputs : Want) (ms : List Meaning) → length (arguments k outputs ms) ≡ length ms
  argument_count k outputs [] = refl
  argument_count k outputs (meaning ∷ ms) = ap suc (argument_count (k + 1) outputs ms)

  -- ---- operators that evaluate arguments from left to right

  values_known : (k : ℕ) (want : Want) (ms : List Meaning) →
      values_of op m k ms want names world ≡ values_of op m k (arguments k want ms) want [] world
  values_known k want [] = refl
  values_known k want (meaning ∷ ms) =
      ap (and_values (argument_of op m k meaning want names world)) (values_known (k + 1) want ms)

  first_known : (decides : Data → Option Data) (none : Evaluated) (k : ℕ) (want : Want) (ms : List Meaning) →
      first_of decides none op m k ms want names world
      ≡ first_of decides none op m k (arguments k want ms) want [] world
  first_known decides none k want [] = refl
  first_known decides none k want (meaning ∷ ms) =
      let later = first_known decides none (k + 1) want ms in
      λ i. then_value (argument_of op m k meaning want names world) (λ d. or_later (decides d) (later i))

  -- ---- operators that choose an output

  case_known : RowAgrees cases op → (k : ℕ) → is_even k ≡ true → (ms : List Meaning) → k + length ms ≡ m →
      (want : Want) →
      case_of ms want names world ≡ case_of (arguments k want ms) want [] world
  case_known row k even [] count want = refl
  case_known row k even (meaning ∷ []) count want =
      let last : is_last m k ≡ true = eq-eqb (k + 1) m (omega (arith, count)) in
      let own = ap (λ w. want_of w want) (row m k) ∙ last_want (is_last m k) (is_even k) last want in
      ap (λ w. meaning w names world) (sym own)
  case_known row k even (condition ∷ output ∷ ms) count want =
      let early : is_last m k ≡ false = ne_eqb (k + 1) m (λ e. omega (arith, count, e)) in
      let asked = ap (λ w. want_of w want) (row m k)
      ∙ conditions_want (is_last m k) (is_even k) early even want in
      let own = ap (λ w. want_of w want) (row m (k + 1))
      ∙ output_want (is_last m (k + 1)) (is_even (k + 1)) (odd_after k even) want in
      let later = case_known row (k + 1 + 1) (even_after k even) ms (omega (arith, count)) want in
      λ i. branch (condition (sym asked i) names world) (output (sym own i) names world) (later i)

  module _ (want : Want) (own : (k : ℕ) → 0 < k → want_of (wanted_by op m k) want ≡ want) where
    output_known : (k : ℕ) → 0 < k → (ms : List Meaning) (n : ℕ) →
        output_at ms n want names world ≡ output_at (arguments k want ms) n want [] world
    output_known k some [] n = refl
    output_known k some (meaning ∷ ms) zero = ap (λ w. meaning w names world) (sym (own k some))
    output_known k some (meaning ∷ ms) (suc n) = output_known (k + 1) (omega arith) ms n

    stop_known : (inputs : List ℤ) (ms : List Meaning) (x : ℤ) (place : StopPlace) →
        ramp_at inputs ms x place want names world ≡ ramp_at inputs (arguments 1 want ms) x place want [] world
    stop_known inputs ms x First = output_known 1 (omega arith) ms 0
    stop_known inputs ms x Last = output_known 1 (omega arith) ms (length inputs - 1)
    stop_known inputs ms x (Between k) =
        let before = output_known 1 (omega arith) ms k in
        let after = output_known 1 (omega arith) ms (k + 1) in
        λ i. between_values x (input_at inputs k) (input_at inputs (k + 1)) (before i) (after i)

  match_known : (ls : List Labelled) → RowAgrees (labels ls) op → (ms : List Meaning) (want : Want) →
      match_of ls ms want names world ≡ match_of ls (arguments 0 want ms) want [] world
  match_known ls row [] want = refl
  match_known ls row (input ∷ ms) want =
      let given : want_of (wanted_by op m 0) want ≡ wants.Any = ap (λ w. want_of w want) (row m 0) in
      let outputs = arguments 1 want ms in
      let own = outputs_of_input op m wants.Any want (row m) in
      λ i. then_value (input (sym given i) names world) (λ d.
      (output_known want own 1 (omega arith) ms (output_of ls d (length ms - 1))
      ∙ ap (λ n. output_at outputs (output_of ls d (n - 1)) want [] world) (sym (argument_count 1 want ms))) i)

  step_known : (inputs : List ℤ) → RowAgrees (stops inputs) op → (ms : List Meaning) (want : Want) →
      step_of inputs ms want names world ≡ step_of inputs (arguments 0 want ms) want [] world
  step_known inputs row [] want = refl
  step_known inputs row (input ∷ ms) want =
      let given : want_of (wanted_by op m 0) want ≡ wants.Number = ap (λ w. want_of w want) (row m 0) in
      let own = outputs_of_input op m wants.Number want (row m) in
      λ i. with_number (input (sym given i) names world)
      (λ x. output_known want own 1 (omega arith) ms (count_not_above x inputs) i)

  ramp_known : (curve : Curve) (inputs : List ℤ) → RowAgrees (ramp curve inputs) op →
      (ms : List Meaning) (want : Want) →
      ramp_of curve inputs ms want names world
      ≡ ramp_of curve inputs (arguments 0 (ramp_want want) ms) want [] world
  ramp_known curve inputs row [] want = refl
  ramp_known curve inputs row (input ∷ ms) want =
      let given : want_of (wanted_by op m 0) (ramp_want want) ≡ wants.Number =
      ap (λ w. want_of w (ramp_want want)) (row m 0) in
      let own = outputs_of_input op m wants.Number (ramp_want want) (row m) in
      λ i. with_number (input (sym given i) names world) (λ z. then_number (warp_of curve inputs z) (λ x.
      then_value (stop_known (ramp_want want) own inputs ms x (place_of inputs x) i) (fit want)))

-- ---- every operator without names

pub rule_known : (rule : Rule) (op : Operator) → RowAgrees rule op → has_names rule ≡ false →
    (ms : List Meaning)
    (want : Want) (names : BoundOutcomes) (world : World) →
    meaning_by rule op ms want names world
    ≡ meaning_by rule op
    (all_known (argument_outcomes op (length ms) 0 (outputs_want rule want) ms names world)) want [] world
rule_known (each apply) op row free ms want names world =
    let m = length ms in
    let ks = all_known (argument_outcomes op m 0 want ms names world) in
    ap (λ r. then_values r (λ ds. then_value (apply world ds) (fit want)))
    (values_known op m names world 0 want ms
    ∙ ap (λ n. values_of op n 0 ks want [] world) (sym (argument_count op m names world 0 want ms)))
rule_known (deciding decides none) op row free ms want names world =
    let m = length ms in
    let ks = all_known (argument_outcomes op m 0 want ms names world) in
    ap (λ outcome. then_value outcome (fit want))
    (first_known op m names world decides none 0 want ms
    ∙ ap (λ n. first_of decides none op n 0 ks want [] world) (sym (argument_count op m names world 0 want ms)))
rule_known cases op row free ms want names world =
    case_known op (length ms) names world row 0 refl ms (omega arith) want
rule_known (labels ls) op row free ms want names world = match_known op (length ms) names world ls row ms want
rule_known (stops inputs) op row free ms want names world =
    step_known op (length ms) names world inputs row ms want
rule_known (ramp curve inputs) op row free ms want names world =
    ramp_known op (length ms) names world curve inputs row ms want
rule_known (bindings bs) op row free ms want names world = absurd (cc)
rule_known (variable name) op row free ms want names world = absurd (cc)

-- ---- the property of a literal key

same_key : (s key : List ℕ) → Some s ≡ Some key → s ≡ key
same_key s key e = ap (λ o. unwrap_or o s) e

get_literal : (ts : Terms) (key : List ℕ) → literal_key ts ≡ Some key →
    (want : Want) (names : BoundOutcomes) (world : World) →
    node_meaning operators.Get (means ts) want names world ≡ fit want (entry_at key (pairs_of world.properties))
get_literal (term (literal (text s)) no_terms) key e want names world =
    ap (λ k. fit want (entry_at k (pairs_of world.properties))) (same_key s key e)
get_literal _ key e want names world = absurd (cc)

pub property_means : (op : Operator) (ts : Terms) (key : List ℕ) → key_of op ts ≡ Some key →
    (want : Want) (names : BoundOutcomes) (world : World) →
    node_meaning op (means ts) want names world ≡ fit want (entry_at key (pairs_of world.properties))
property_means operators.Get ts key e want names world = get_literal ts key e want names world
property_means _ ts key e want names world = absurd (cc)
