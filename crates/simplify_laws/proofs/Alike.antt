-- A node gives the same over arguments that give the same: by the rules of operators, in two contexts.
use Rattle.std.proofs.Common.{◌≡◌, ◌∙◌, ℕ, ◌+◌, ◌-◌, ◌<◌, ℤ, zero, suc, List, [], ◌∷◌, length, Bool, true, false, Option, Result, Ok, Err, refl, ap, subst, arith}
use Rattle.std.proofs.lemmas.Bool.{ne_eqb, eq-eqb, eqb-true}
use Rattle.std.specs.Prelude.{◌||◌, not, ◌%◌, nat_eq, if◌then◌else◌}
use Rattle.prop_values.specs.Data.{Data, text, map}
use Rattle.prop_values.specs.declared.fault.EvalFault.{EvalFault}
use Rattle.prop_values.specs.declared.fault.EvalFault.TheVariants.{WrongType}
use Rattle.prop_values.specs.declared.kinds.Want.{Want}
use Rattle.prop_values.specs.declared.kinds.Want.TheVariants as wants
use Rattle.prop_values.specs.declared.outcome.Curve.{Curve}
use Rattle.interpolate_fixed.specs.Places.{input_at, place_of, count_not_above}
use Rattle.interpolate_fixed.specs.Warp.{warp_of}
use Rattle.interpolate_fixed.specs.declared.place.StopPlace.{StopPlace}
use Rattle.interpolate_fixed.specs.declared.place.StopPlace.TheVariants.{First, Last, Between}
use Rattle.property_tables.specs.Fitting.{fit}
use Rattle.expr_syntax.specs.Chosen.{output_of}
use Rattle.expr_syntax.specs.Mentioned.{of_operator}
use Rattle.expr_syntax.specs.Names.{row}
use Rattle.expr_syntax.specs.Operators.{operator_name, wanted_by, want_of, ramp_want}
use Rattle.expr_syntax.specs.Rows.{is_even, is_last}
use Rattle.expr_syntax.specs.declared.expression.Operator.{Operator}
use Rattle.expr_syntax.specs.declared.expression.Operator.TheVariants.{Boolean, Number, String, Object, ToColor, ToNumber, Get, Has, Properties, Id, GeometryType, FeatureState, All, Any, Case, Match, Coalesce, Step, Interpolate, Let, Var, Zoom, Image, IsSupportedScript}
use Rattle.expr_syntax.specs.declared.parts.Labelled.{Labelled}
use Rattle.expr_syntax.specs.declared.rows.Wanted.TheVariants.{Own, OfNode}
use Rattle.expr_syntax.specs.declared.world_parts.Mentions.{Mentions}
use Rattle.operator_values.specs.Arithmetic.{then_number}
use Rattle.operator_values.specs.Evaluated.{Evaluated, then_value}
use Rattle.eval_face.specs.World.{World}
use Rattle.eval_face.specs.Names.{BoundOutcomes}
use Rattle.eval_face.specs.Meanings.{Meaning, argument_of, looked_at, is_sequence, values_of, and_values, then_values}
use Rattle.eval_face.specs.Lookups.{get_of, has_of}
use Rattle.eval_face.specs.Decisions.{first_of, or_later}
use Rattle.eval_face.specs.Branches.{branch, case_of, output_at, match_of, with_number, step_of, between_values, ramp_at, ramp_of}
use Rattle.eval_face.specs.Rules.{Rule, each, rule_of}
use Rattle.eval_face.specs.Meaning.{node_meaning}

-- the want of the outputs
abbrev pub given : Operator → Want → Want
given (Interpolate r) want = ramp_want want
given op want = want

-- the want of an argument
abbrev pub given_want : Operator → ℕ → ℕ → Want → Want
given_want op m k want = want_of (wanted_by op m k) (given op want)

abbrev pub any_read : Mentions → Bool
any_read m = m.zoom || (m.feature || (m.state || m.image))

-- it binds no name and asks for none
abbrev pub IsNameless : Operator → Type 0
IsNameless (Let bs) = ⊥
IsNameless (Var s) = ⊥
IsNameless op = Unit {0}

and_length : (a : Evaluated) (later : Result (List Data) EvalFault) (ds : List Data) (n : ℕ) → ((es : List Data) → later ≡ Ok es → n ≡ length es) → and_values a later ≡ Ok ds → suc n ≡ length ds
and_length (Ok d) (Ok es) ds n k h = let q : d ∷ es ≡ ds = cc in ap suc (k es refl) ∙ ap length q
and_length (Ok d) (Err f) ds n k h = absurd (cc)
and_length (Err f) later ds n k h = absurd (cc)

values_length : (op : Operator) (m k : ℕ) (ms : List Meaning) (want : Want) (names : BoundOutcomes) (world : World) (ds : List Data) → values_of op m k ms want names world ≡ Ok ds → length ms ≡ length ds
values_length op m k [] want names world ds h = let q : [] ≡ ds = cc in ap length q
values_length op m k (x ∷ ms) want names world ds h = and_length (argument_of op m k x want names world) (values_of op m (k + 1) ms want names world) ds (length ms) (values_length op m (k + 1) ms want names world) h

abbrev apply_in : Rule → World → List Data → Evaluated
apply_in (each apply) world ds = apply world ds
apply_in _ world ds = Err WrongType

then_same : (r : Result (List Data) EvalFault) (go stay : List Data → Evaluated) → ((ds : List Data) → r ≡ Ok ds → go ds ≡ stay ds) → then_values r go ≡ then_values r stay
then_same (Ok ds) go stay k = k ds refl
then_same (Err f) go stay k = refl

not_first : (k : ℕ) → 0 < k → nat_eq k 0 ≡ false
not_first k h = ne_eqb k 0 (λ e. omega (arith, h))

module _ (v w : World) where
  get_same : (n : ℕ) (ds : List Data) → n ≡ length ds → (any_read (of_operator Get n) ≡ true → v ≡ w) → get_of v.properties ds ≡ get_of w.properties ds
  get_same n [] l a = refl
  get_same n (text key ∷ []) l a =
      let b = subst (λ (m : ℕ). any_read (of_operator Get m) ≡ true → v ≡ w) l a in ap (λ x. get_of x.properties (text key ∷ [])) (b refl)
  get_same n (text key ∷ map es ∷ []) l a = refl
  get_same n _ l a = refl

  has_same : (n : ℕ) (ds : List Data) → n ≡ length ds → (any_read (of_operator Has n) ≡ true → v ≡ w) → has_of v.properties ds ≡ has_of w.properties ds
  has_same n [] l a = refl
  has_same n (text key ∷ []) l a =
      let b = subst (λ (m : ℕ). any_read (of_operator Has m) ≡ true → v ≡ w) l a in ap (λ x. has_of x.properties (text key ∷ [])) (b refl)
  has_same n (text key ∷ map es ∷ []) l a = refl
  has_same n _ l a = refl

module _ (want : Want) (names names' : BoundOutcomes) (v w : World) where
  -- arguments from place k on, under the wants of their places
  abbrev pub AreAlike : Operator → ℕ → ℕ → List Meaning → List Meaning → Type 0
  AreAlike op m k [] [] = Unit {0}
  AreAlike op m k [] (y ∷ ns) = ⊥
  AreAlike op m k (x ∷ ms) [] = ⊥
  AreAlike op m k (x ∷ ms) (y ∷ ns) = (x (given_want op m k want) names v ≡ y (given_want op m k want) names' w) × AreAlike op m (k + 1) ms ns

  pub alike_length : (op : Operator) (m k : ℕ) (ms ns : List Meaning) → AreAlike op m k ms ns → length ms ≡ length ns
  alike_length op m k [] [] h = refl
  alike_length op m k [] (y ∷ ns) h = absurd h
  alike_length op m k (x ∷ ms) [] h = absurd h
  alike_length op m k (x ∷ ms) (y ∷ ns) h = ap suc (alike_length op m (k + 1) ms ns h.1)

  argument_alike : (op : Operator) (m k : ℕ) (x y : Meaning) → given op want ≡ want → x (given_want op m k want) names v ≡ y (given_want op m k want) names' w →
      argument_of op m k x want names v ≡ argument_of op m k y want names' w
  argument_alike op m k x y own h =
      ap (looked_at (is_sequence (row (operator_name op)).sequence k)) (subst (λ u. x (want_of (wanted_by op m k) u) names v ≡ y (want_of (wanted_by op m k) u) names' w) own h)

  values_alike : (op : Operator) (m k : ℕ) (ms ns : List Meaning) → given op want ≡ want → AreAlike op m k ms ns → values_of op m k ms want names v ≡ values_of op m k ns want names' w
  values_alike op m k [] [] own h = refl
  values_alike op m k [] (y ∷ ns) own h = absurd h
  values_alike op m k (x ∷ ms) [] own h = absurd h
  values_alike op m k (x ∷ ms) (y ∷ ns) own h = λ i. and_values (argument_alike op m k x y own h.0 i) (values_alike op m (k + 1) ms ns own h.1 i)

  each_alike : (op : Operator) (ms ns : List Meaning) → given op want ≡ want → AreAlike op (length ms) 0 ms ns →
      ((ds : List Data) → length ms ≡ length ds → apply_in (rule_of op) v ds ≡ apply_in (rule_of op) w ds) →
      then_values (values_of op (length ms) 0 ms want names v) (λ ds. then_value (apply_in (rule_of op) v ds) (fit want)) ≡ then_values (values_of op (length ns) 0 ns want names' w) (λ ds. then_value (apply_in (rule_of op) w ds) (fit want))
  each_alike op ms ns own h k =
      then_same (values_of op (length ms) 0 ms want names v) (λ ds. then_value (apply_in (rule_of op) v ds) (fit want)) (λ ds. then_value (apply_in (rule_of op) w ds) (fit want))
      (λ ds q. ap (λ x. then_value x (fit want)) (k ds (values_length op (length ms) 0 ms want names v ds q)))
      ∙ (ap (λ r. then_values r (λ ds. then_value (apply_in (rule_of op) w ds) (fit want))) (values_alike op (length ms) 0 ms ns own h)
      ∙ ap (λ n. then_values (values_of op n 0 ns want names' w) (λ ds. then_value (apply_in (rule_of op) w ds) (fit want))) (alike_length op (length ms) 0 ms ns h))

  first_alike : (decides : Data → Option Data) (none : Evaluated) (op : Operator) (m k : ℕ) (ms ns : List Meaning) → given op want ≡ want → AreAlike op m k ms ns →
      first_of decides none op m k ms want names v ≡ first_of decides none op m k ns want names' w
  first_alike decides none op m k [] [] own h = refl
  first_alike decides none op m k [] (y ∷ ns) own h = absurd h
  first_alike decides none op m k (x ∷ ms) [] own h = absurd h
  first_alike decides none op m k (x ∷ ms) (y ∷ ns) own h =
      λ i. then_value (argument_alike op m k x y own h.0 i) (λ d. or_later (decides d) (first_alike decides none op m (k + 1) ms ns own h.1 i))

  deciding_alike : (decides : Data → Option Data) (none : Evaluated) (op : Operator) (ms ns : List Meaning) → given op want ≡ want → AreAlike op (length ms) 0 ms ns →
      then_value (first_of decides none op (length ms) 0 ms want names v) (fit want) ≡ then_value (first_of decides none op (length ns) 0 ns want names' w) (fit want)
  deciding_alike decides none op ms ns own h =
      ap (λ x. then_value x (fit want)) (first_alike decides none op (length ms) 0 ms ns own h
      ∙ ap (λ n. first_of decides none op n 0 ns want names' w) (alike_length op (length ms) 0 ms ns h))

  -- ---- all under one want

  abbrev AllAlike : Want → List Meaning → List Meaning → Type 0
  AllAlike u [] [] = Unit {0}
  AllAlike u [] (y ∷ ns) = ⊥
  AllAlike u (x ∷ ms) [] = ⊥
  AllAlike u (x ∷ ms) (y ∷ ns) = (x u names v ≡ y u names' w) × AllAlike u ms ns

  under_one : (op : Operator) (m k : ℕ) (u : Want) (ms ns : List Meaning) → ((j : ℕ) → 0 < j → given_want op m j want ≡ u) → 0 < k → AreAlike op m k ms ns → AllAlike u ms ns
  under_one op m k u [] [] one some h = tt
  under_one op m k u [] (y ∷ ns) one some h = absurd h
  under_one op m k u (x ∷ ms) [] one some h = absurd h
  under_one op m k u (x ∷ ms) (y ∷ ns) one some h =
      (subst (λ z. x z names v ≡ y z names' w) (one k some) h.0, under_one op m (k + 1) u ms ns one (omega arith) h.1)

  all_length : (u : Want) (ms ns : List Meaning) → AllAlike u ms ns → length ms ≡ length ns
  all_length u [] [] h = refl
  all_length u [] (y ∷ ns) h = absurd h
  all_length u (x ∷ ms) [] h = absurd h
  all_length u (x ∷ ms) (y ∷ ns) h = ap suc (all_length u ms ns h.1)

  output_alike : (u : Want) (ms ns : List Meaning) (k : ℕ) → AllAlike u ms ns → output_at ms k u names v ≡ output_at ns k u names' w
  output_alike u [] [] k h = refl
  output_alike u [] (y ∷ ns) k h = absurd h
  output_alike u (x ∷ ms) [] k h = absurd h
  output_alike u (x ∷ ms) (y ∷ ns) zero h = h.0
  output_alike u (x ∷ ms) (y ∷ ns) (suc k) h = output_alike u ms ns k h.1

  -- ---- `case`: conditions and outputs in turn, and the last output

  condition_want : (m k : ℕ) → is_even k ≡ true → (k + 1 < m) → given_want Case m k want ≡ wants.Boolean
  condition_want m k even less = ap (λ b. want_of (if b || not (is_even k) then OfNode else Own wants.Boolean) want) (ne_eqb (k + 1) m (λ e. omega (arith, e, less))) ∙ ap (λ b. want_of (if not b then OfNode else Own wants.Boolean) want) even

  output_want : (m k : ℕ) → is_even k ≡ false → given_want Case m k want ≡ want
  output_want m k odd = ap (λ b. want_of (if is_last m k || not b then OfNode else Own wants.Boolean) want) odd ∙ by (is_last m k)
    where
      by : (b : Bool) → want_of (if b || true then OfNode else Own wants.Boolean) want ≡ want
      by true = refl
      by false = refl

  last_want : (m k : ℕ) → k + 1 ≡ m → given_want Case m k want ≡ want
  last_want m k e = ap (λ b. want_of (if b || not (is_even k) then OfNode else Own wants.Boolean) want) (eq-eqb (k + 1) m e)

  even_later : (k : ℕ) → is_even k ≡ true → is_even (k + 1) ≡ false
  even_later k e = ne_eqb ((k + 1) % 2) 0 (λ z. let h : k % 2 ≡ 0 = eqb-true (k % 2) 0 e in omega (arith, h, z))

  even_after : (k : ℕ) → is_even k ≡ true → is_even (k + 1 + 1) ≡ true
  even_after k e = eq-eqb ((k + 1 + 1) % 2) 0 (let h : k % 2 ≡ 0 = eqb-true (k % 2) 0 e in omega (arith, h))

  case_alike : (m k : ℕ) (ms ns : List Meaning) → is_even k ≡ true → k + length ms ≡ m → AreAlike Case m k ms ns → case_of ms want names v ≡ case_of ns want names' w
  case_alike m k [] [] even all h = refl
  case_alike m k [] (y ∷ ns) even all h = absurd h
  case_alike m k (x ∷ ms) [] even all h = absurd h
  case_alike m k (x ∷ []) (y ∷ []) even all h = subst (λ u. x u names v ≡ y u names' w) (last_want m k all) h.0
  case_alike m k (x ∷ []) (y ∷ z ∷ ns) even all h = absurd h.1
  case_alike m k (x ∷ z ∷ ms) (y ∷ []) even all h = absurd h.1
  case_alike m k (x ∷ p ∷ ms) (y ∷ q ∷ ns) even all h =
      λ i. branch
      (subst (λ u. x u names v ≡ y u names' w) (condition_want m k even (omega (arith, all))) h.0 i)
      (subst (λ u. p u names v ≡ q u names' w) (output_want m (k + 1) (even_later k even)) h.1.0 i)
      (case_alike m (k + 1 + 1) ms ns (even_after k even) (omega (arith, all)) h.1.1 i)

  -- ---- what has an input

  match_alike : (ls : List Labelled) (m : ℕ) (ms ns : List Meaning) → AreAlike (Match ls) m 0 ms ns → match_of ls ms want names v ≡ match_of ls ns want names' w
  match_alike ls m [] [] h = refl
  match_alike ls m [] (y ∷ ns) h = absurd h
  match_alike ls m (x ∷ ms) [] h = absurd h
  match_alike ls m (x ∷ ms) (y ∷ ns) h =
      let rest = under_one (Match ls) m 1 want ms ns (λ j some. ap (λ b. want_of (if b then Own wants.Any else OfNode) want) (not_first j some)) (omega arith) h.1 in
      (λ i. then_value (h.0 i) (λ d. output_alike want ms ns (output_of ls d (length ms - 1)) rest i))
      ∙ ap (λ n. then_value (y wants.Any names' w) (λ d. output_at ns (output_of ls d (n - 1)) want names' w)) (all_length want ms ns rest)

  step_alike : (inputs : List ℤ) (m : ℕ) (ms ns : List Meaning) → AreAlike (Step inputs) m 0 ms ns → step_of inputs ms want names v ≡ step_of inputs ns want names' w
  step_alike inputs m [] [] h = refl
  step_alike inputs m [] (y ∷ ns) h = absurd h
  step_alike inputs m (x ∷ ms) [] h = absurd h
  step_alike inputs m (x ∷ ms) (y ∷ ns) h =
      let rest = under_one (Step inputs) m 1 want ms ns (λ j some. ap (λ b. want_of (if b then Own wants.Number else OfNode) want) (not_first j some)) (omega arith) h.1 in
      λ i. with_number (h.0 i) (λ z. output_alike want ms ns (count_not_above z inputs) rest i)

  stop_alike : (inputs : List ℤ) (u : Want) (ms ns : List Meaning) (x : ℤ) (place : StopPlace) → AllAlike u ms ns → ramp_at inputs ms x place u names v ≡ ramp_at inputs ns x place u names' w
  stop_alike inputs u ms ns x First h = output_alike u ms ns 0 h
  stop_alike inputs u ms ns x Last h = output_alike u ms ns (length inputs - 1) h
  stop_alike inputs u ms ns x (Between k) h = λ i. between_values x (input_at inputs k) (input_at inputs (k + 1)) (output_alike u ms ns k h i) (output_alike u ms ns (k + 1) h i)

  ramp_alike : (r : Curve × List ℤ) (m : ℕ) (ms ns : List Meaning) → AreAlike (Interpolate r) m 0 ms ns → ramp_of r.0 r.1 ms want names v ≡ ramp_of r.0 r.1 ns want names' w
  ramp_alike r m [] [] h = refl
  ramp_alike r m [] (y ∷ ns) h = absurd h
  ramp_alike r m (x ∷ ms) [] h = absurd h
  ramp_alike r m (x ∷ ms) (y ∷ ns) h =
      let rest = under_one (Interpolate r) m 1 (ramp_want want) ms ns (λ j some. ap (λ b. want_of (if b then Own wants.Number else OfNode) (ramp_want want)) (not_first j some)) (omega arith) h.1 in
      λ i. with_number (h.0 i) (λ z. then_number (warp_of r.0 r.1 z) (λ x. then_value (stop_alike r.1 (ramp_want want) ms ns x (place_of r.1 x) rest i) (fit want)))

  -- ---- nodes

  pub node_alike : (op : Operator) (ms ns : List Meaning) → IsNameless op → (any_read (of_operator op (length ms)) ≡ true → v ≡ w) → (op ≡ IsSupportedScript → v ≡ w) → AreAlike op (length ms) 0 ms ns →
      node_meaning op ms want names v ≡ node_meaning op ns want names' w
  node_alike Get ms ns plain reads script h = each_alike Get ms ns refl h (λ ds l. get_same v w (length ms) ds l reads)
  node_alike Has ms ns plain reads script h = each_alike Has ms ns refl h (λ ds l. has_same v w (length ms) ds l reads)
  node_alike Properties ms ns plain reads script h = each_alike Properties ms ns refl h (λ ds l. ap (λ x. apply_in (rule_of Properties) x ds) (reads refl))
  node_alike Id ms ns plain reads script h = each_alike Id ms ns refl h (λ ds l. ap (λ x. apply_in (rule_of Id) x ds) (reads refl))
  node_alike GeometryType ms ns plain reads script h = each_alike GeometryType ms ns refl h (λ ds l. ap (λ x. apply_in (rule_of GeometryType) x ds) (reads refl))
  node_alike FeatureState ms ns plain reads script h = each_alike FeatureState ms ns refl h (λ ds l. ap (λ x. apply_in (rule_of FeatureState) x ds) (reads refl))
  node_alike Zoom ms ns plain reads script h = each_alike Zoom ms ns refl h (λ ds l. ap (λ x. apply_in (rule_of Zoom) x ds) (reads refl))
  node_alike Image ms ns plain reads script h = each_alike Image ms ns refl h (λ ds l. ap (λ x. apply_in (rule_of Image) x ds) (reads refl))
  node_alike IsSupportedScript ms ns plain reads script h = each_alike IsSupportedScript ms ns refl h (λ ds l. ap (λ x. apply_in (rule_of IsSupportedScript) x ds) (script refl))
  node_alike Boolean ms ns plain reads script h = deciding_alike _ _ Boolean ms ns refl h
  node_alike Number ms ns plain reads script h = deciding_alike _ _ Number ms ns refl h
  node_alike String ms ns plain reads script h = deciding_alike _ _ String ms ns refl h
  node_alike Object ms ns plain reads script h = deciding_alike _ _ Object ms ns refl h
  node_alike ToColor ms ns plain reads script h = deciding_alike _ _ ToColor ms ns refl h
  node_alike ToNumber ms ns plain reads script h = deciding_alike _ _ ToNumber ms ns refl h
  node_alike All ms ns plain reads script h = deciding_alike _ _ All ms ns refl h
  node_alike Any ms ns plain reads script h = deciding_alike _ _ Any ms ns refl h
  node_alike Coalesce ms ns plain reads script h = deciding_alike _ _ Coalesce ms ns refl h
  node_alike Case ms ns plain reads script h = case_alike (length ms) 0 ms ns refl (omega arith) h
  node_alike (Match ls) ms ns plain reads script h = match_alike ls (length ms) ms ns h
  node_alike (Step inputs) ms ns plain reads script h = step_alike inputs (length ms) ms ns h
  node_alike (Interpolate r) ms ns plain reads script h = ramp_alike r (length ms) ms ns h
  node_alike (Let bs) ms ns plain reads script h = absurd plain
  node_alike (Var s) ms ns plain reads script h = absurd plain
  node_alike op ms ns plain reads script h = each_alike op ms ns refl h (λ ds l. refl)
