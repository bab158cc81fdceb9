-- What is not mentioned does not matter: by the rules of operators, and then by the form of the term.
use Rattle.std.proofs.Common.{◌≡◌, ℕ, ◌+◌, ◌-◌, ℤ, zero, suc, List, [], ◌∷◌, length, take, drop, Bool, true, false, ◌||◌, if◌then◌else◌, Option, Result, Ok, Err, refl, ap, subst, ◌∙◌, arith}
use Rattle.prop_values.specs.Data.{Data, null, boolean, number, text, map, pairs_of}
use Rattle.prop_values.specs.declared.fault.EvalFault.{EvalFault}
use Rattle.prop_values.specs.declared.fault.EvalFault.TheVariants.{WrongType}
use Rattle.prop_values.specs.declared.kinds.Want.{Want}
use Rattle.prop_values.specs.declared.kinds.Want.TheVariants as wants
use Rattle.prop_values.specs.declared.outcome.Curve.{Curve}
use Rattle.interpolate_fixed.specs.Places.{input_at, place_of, count_not_above}
use Rattle.interpolate_fixed.specs.Warp.{warp_of}
use Rattle.interpolate_fixed.specs.declared.place.StopPlace.{StopPlace}
use Rattle.interpolate_fixed.specs.declared.place.StopPlace.TheVariants.{First, Last, Between}
use Rattle.property_tables.specs.Fitting.{fit}
use Rattle.expr_syntax.specs.declared.expression.Operator.{Operator}
use Rattle.expr_syntax.specs.declared.expression.Operator.TheVariants.{Boolean, Number, String, Object, ToColor, ToNumber, Get, Has, Properties, Id, GeometryType, FeatureState, All, Any, Case, Match, Coalesce, Step, Interpolate, Let, Var, Zoom, Image, IsSupportedScript}
use Rattle.expr_syntax.specs.declared.parts.Labelled.{Labelled}
use Rattle.expr_syntax.specs.declared.world_parts.Mentions.{Mentions}
use Rattle.expr_syntax.specs.Chosen.{output_of}
use Rattle.expr_syntax.specs.Mentioned.{mentions, all_mentions, either, of_operator, count}
use Rattle.expr_syntax.specs.Names.{row}
use Rattle.expr_syntax.specs.Operators.{operator_name, wanted_by, want_of, ramp_want}
use Rattle.expr_syntax.specs.Term.{Term, literal, node, Terms, no_terms, term}
use Rattle.tile_reader.specs.ShapeName.{shape_name}
use Rattle.operator_values.specs.Arithmetic.{then_number}
use Rattle.operator_values.specs.Evaluated.{Evaluated, then_value}
use Rattle.eval_face.specs.World.{World}
use Rattle.eval_face.specs.Names.{BoundOutcomes, bound}
use Rattle.eval_face.specs.Meanings.{Meaning, argument_of, looked_at, is_sequence, values_of, and_values, then_values}
use Rattle.eval_face.specs.Lookups.{entry_at, get_of, has_of, state_at, id_value, image_of, script_of}
use Rattle.eval_face.specs.Decisions.{first_of, or_later}
use Rattle.eval_face.specs.Branches.{branch, case_of, output_at, match_of, with_number, step_of, between_values, ramp_at, ramp_of}
use Rattle.eval_face.specs.Bindings.{outcomes_of, body_of, let_of}
use Rattle.eval_face.specs.Rules.{Rule, each, rule_of}
use Rattle.eval_face.specs.Meaning.{node_meaning, mean, means}
use Rattle.eval_face.specs.Agreement.{AgreeOn, AgreeingWorldsGiveOneMeaning}

or_left : (a b : Bool) → a ≡ true → (a || b) ≡ true
or_left true b h = refl
or_left false b h = absurd (cc)

or_right : (a b : Bool) → b ≡ true → (a || b) ≡ true
or_right true b h = refl
or_right false b h = h

agree_left : (m n : Mentions) (v w : World) → AgreeOn (either m n) v w → AgreeOn m v w
agree_left m n v w a = record {
  zoom = λ h. a.zoom (or_left m.zoom n.zoom h);
  feature = λ h. a.feature (or_left m.feature n.feature h);
  state = λ h. a.state (or_left m.state n.state h);
  image = λ h. a.image (or_left m.image n.image h);
  script = a.script;
}

agree_right : (m n : Mentions) (v w : World) → AgreeOn (either m n) v w → AgreeOn n v w
agree_right m n v w a = record {
  zoom = λ h. a.zoom (or_right m.zoom n.zoom h);
  feature = λ h. a.feature (or_right m.feature n.feature h);
  state = λ h. a.state (or_right m.state n.state h);
  image = λ h. a.image (or_right m.image n.image h);
  script = a.script;
}

-- what is evaluated gives as many values as there are arguments
and_length : (a : Evaluated) (later : Result (List Data) EvalFault) (ds : List Data) (n : ℕ) → ((es : List Data) → later ≡ Ok es → n ≡ length es) → and_values a later ≡ Ok ds → suc n ≡ length ds
and_length (Ok d) (Ok es) ds n k h = let q : d ∷ es ≡ ds = cc in ap suc (k es refl) ∙ ap length q
and_length (Ok d) (Err f) ds n k h = absurd (cc)
and_length (Err f) later ds n k h = absurd (cc)

values_length : (op : Operator) (m k : ℕ) (ms : List Meaning) (want : Want) (names : BoundOutcomes) (world : World) (ds : List Data) → values_of op m k ms want names world ≡ Ok ds → length ms ≡ length ds
values_length op m k [] want names world ds h = let q : [] ≡ ds = cc in ap length q
values_length op m k (x ∷ ms) want names world ds h = and_length (argument_of op m k x want names world) (values_of op m (k + 1) ms want names world) ds (length ms) (values_length op m (k + 1) ms want names world) h

-- what the values of all arguments give, in a world
abbrev apply_in : Rule → World → List Data → Evaluated
apply_in (each apply) world ds = apply world ds
apply_in _ world ds = Err WrongType

then_same : (r : Result (List Data) EvalFault) (go stay : List Data → Evaluated) → ((ds : List Data) → r ≡ Ok ds → go ds ≡ stay ds) → then_values r go ≡ then_values r stay
then_same (Ok ds) go stay k = k ds refl
then_same (Err f) go stay k = refl

module _ (v w : World) where
  -- ---- meanings that are one in both worlds

  abbrev IsOne : Meaning → Type 0
  IsOne m = (want : Want) (names : BoundOutcomes) → m want names v ≡ m want names w

  abbrev AreOne : List Meaning → Type 0
  AreOne [] = Unit {0}
  AreOne (m ∷ ms) = IsOne m × AreOne ms

  argument_same : (op : Operator) (m k : ℕ) (meaning : Meaning) → IsOne meaning → IsOne (argument_of op m k meaning)
  argument_same op m k meaning h want names = ap (looked_at (is_sequence (row (operator_name op)).sequence k)) (h (want_of (wanted_by op m k) want) names)

  values_same : (op : Operator) (m k : ℕ) (ms : List Meaning) → AreOne ms → (want : Want) (names : BoundOutcomes) → values_of op m k ms want names v ≡ values_of op m k ms want names w
  values_same op m k [] h want names = refl
  values_same op m k (x ∷ ms) h want names = λ i. and_values (argument_same op m k x h.0 want names i) (values_same op m (k + 1) ms h.1 want names i)

  each_same : (op : Operator) (ms : List Meaning) → AreOne ms → ((ds : List Data) → length ms ≡ length ds → apply_in (rule_of op) v ds ≡ apply_in (rule_of op) w ds) → (want : Want) (names : BoundOutcomes) → then_values (values_of op (length ms) 0 ms want names v) (λ ds. then_value (apply_in (rule_of op) v ds) (fit want)) ≡ then_values (values_of op (length ms) 0 ms want names w) (λ ds. then_value (apply_in (rule_of op) w ds) (fit want))
  each_same op ms h k want names =
      ap (λ r. then_values r (λ ds. then_value (apply_in (rule_of op) v ds) (fit want))) (values_same op (length ms) 0 ms h want names)
      ∙ then_same (values_of op (length ms) 0 ms want names w) (λ ds. then_value (apply_in (rule_of op) v ds) (fit want)) (λ ds. then_value (apply_in (rule_of op) w ds) (fit want)) (λ ds q. ap (λ x. then_value x (fit want)) (k ds (values_length op (length ms) 0 ms want names w ds q)))

  first_same : (decides : Data → Option Data) (none : Evaluated) (op : Operator) (m k : ℕ) (ms : List Meaning) → AreOne ms → IsOne (first_of decides none op m k ms)
  first_same decides none op m k [] h want names = refl
  first_same decides none op m k (x ∷ ms) h want names = λ i. then_value (argument_same op m k x h.0 want names i) (λ d. or_later (decides d) (first_same decides none op m (k + 1) ms h.1 want names i))

  deciding_same : (decides : Data → Option Data) (none : Evaluated) (op : Operator) (ms : List Meaning) → AreOne ms → (want : Want) (names : BoundOutcomes) → then_value (first_of decides none op (length ms) 0 ms want names v) (fit want) ≡ then_value (first_of decides none op (length ms) 0 ms want names w) (fit want)
  deciding_same decides none op ms h want names = ap (λ x. then_value x (fit want)) (first_same decides none op (length ms) 0 ms h want names)

  case_same : (ms : List Meaning) → AreOne ms → IsOne (case_of ms)
  case_same [] h want names = refl
  case_same (m ∷ []) h want names = h.0 want names
  case_same (c ∷ m ∷ ms) h want names = λ i. branch (h.0 wants.Boolean names i) (h.1.0 want names i) (case_same ms h.1.1 want names i)

  output_same : (ms : List Meaning) (k : ℕ) → AreOne ms → IsOne (output_at ms k)
  output_same [] k h want names = refl
  output_same (m ∷ ms) zero h want names = h.0 want names
  output_same (m ∷ ms) (suc k) h want names = output_same ms k h.1 want names

  match_same : (ls : List Labelled) (ms : List Meaning) → AreOne ms → IsOne (match_of ls ms)
  match_same ls [] h want names = refl
  match_same ls (m ∷ ms) h want names = λ i. then_value (h.0 wants.Any names i) (λ d. output_same ms (output_of ls d (length ms - 1)) h.1 want names i)

  step_same : (inputs : List ℤ) (ms : List Meaning) → AreOne ms → IsOne (step_of inputs ms)
  step_same inputs [] h want names = refl
  step_same inputs (m ∷ ms) h want names = λ i. with_number (h.0 wants.Number names i) (λ x. output_same ms (count_not_above x inputs) h.1 want names i)

  stop_same : (inputs : List ℤ) (ms : List Meaning) (x : ℤ) (place : StopPlace) → AreOne ms → IsOne (ramp_at inputs ms x place)
  stop_same inputs ms x First h want names = output_same ms 0 h want names
  stop_same inputs ms x Last h want names = output_same ms (length inputs - 1) h want names
  stop_same inputs ms x (Between k) h want names = λ i. between_values x (input_at inputs k) (input_at inputs (k + 1)) (output_same ms k h want names i) (output_same ms (k + 1) h want names i)

  ramp_same : (curve : Curve) (inputs : List ℤ) (ms : List Meaning) → AreOne ms → IsOne (ramp_of curve inputs ms)
  ramp_same curve inputs [] h want names = refl
  ramp_same curve inputs (m ∷ ms) h want names = λ i. with_number (h.0 wants.Number names i) (λ z. then_number (warp_of curve inputs z) (λ x. then_value (stop_same inputs ms x (place_of inputs x) h.1 (ramp_want want) names i) (fit want)))

  outcomes_same : (ms : List Meaning) → AreOne ms → (names : BoundOutcomes) → outcomes_of ms names v ≡ outcomes_of ms names w
  outcomes_same [] h names = refl
  outcomes_same (m ∷ ms) h names = λ i. h.0 wants.Any names i ∷ outcomes_same ms h.1 names i

  take_same : (n : ℕ) (ms : List Meaning) → AreOne ms → AreOne (take n ms)
  take_same zero [] h = tt
  take_same zero (m ∷ ms) h = tt
  take_same (suc n) [] h = tt
  take_same (suc n) (m ∷ ms) h = (h.0, take_same n ms h.1)

  drop_same : (n : ℕ) (ms : List Meaning) → AreOne ms → AreOne (drop n ms)
  drop_same zero [] h = tt
  drop_same zero (m ∷ ms) h = h
  drop_same (suc n) [] h = tt
  drop_same (suc n) (m ∷ ms) h = drop_same n ms h.1

  body_same : (ms : List Meaning) → AreOne ms → IsOne (body_of ms)
  body_same [] h want names = refl
  body_same (m ∷ []) h want names = h.0 want names
  body_same (m ∷ n ∷ ms) h want names = refl

  let_same : (bs : List (List ℕ)) (ms : List Meaning) → AreOne ms → IsOne (let_of bs ms)
  let_same bs ms h want names =
      let n = length bs in
      ap (λ os. body_of (drop n ms) want (bound bs os ∷ names) v) (outcomes_same (take n ms) (take_same n ms h) names)
      ∙ body_same (drop n ms) (drop_same n ms h) want (bound bs (outcomes_of (take n ms) names w) ∷ names)

  -- ---- operators that read the world

  get_same : (n : ℕ) (ds : List Data) → n ≡ length ds → AgreeOn (of_operator Get n) v w → get_of v.properties ds ≡ get_of w.properties ds
  get_same n [] l a = refl
  get_same n (text key ∷ []) l a =
      let b = subst (λ (m : ℕ). AgreeOn (of_operator Get m) v w) l a in
      ap (λ ps. Ok (entry_at key (pairs_of ps))) (b.feature refl).2
  get_same n (text key ∷ map es ∷ []) l a = refl
  get_same n _ l a = refl

  has_same : (n : ℕ) (ds : List Data) → n ≡ length ds → AgreeOn (of_operator Has n) v w → has_of v.properties ds ≡ has_of w.properties ds
  has_same n [] l a = refl
  has_same n (text key ∷ []) l a =
      let b = subst (λ (m : ℕ). AgreeOn (of_operator Has m) v w) l a in
      ap (λ ps. has_of ps (text key ∷ [])) (b.feature refl).2
  has_same n (text key ∷ map es ∷ []) l a = refl
  has_same n _ l a = refl

  image_same : (ds : List Data) → ((s : List ℕ) → v.has_image s ≡ w.has_image s) → image_of v.has_image ds ≡ image_of w.has_image ds
  image_same [] h = refl
  image_same (text name ∷ []) h = ap (λ b. Ok (if b then text name else null)) (h name)
  image_same _ h = refl

  script_same : (ds : List Data) → ((s : List ℕ) → v.is_supported s ≡ w.is_supported s) → script_of v.is_supported ds ≡ script_of w.is_supported ds
  script_same [] h = refl
  script_same (text s ∷ []) h = ap (λ b. Ok (boolean b)) (h s)
  script_same _ h = refl

  -- ---- nodes and terms

  node_same : (op : Operator) (ms : List Meaning) → AgreeOn (of_operator op (length ms)) v w → AreOne ms → IsOne (node_meaning op ms)
  node_same Get ms a h = each_same Get ms h (λ ds l. get_same (length ms) ds l a)
  node_same Has ms a h = each_same Has ms h (λ ds l. has_same (length ms) ds l a)
  node_same Properties ms a h = each_same Properties ms h (λ ds l. ap (λ ps. Ok (map (pairs_of ps))) (a.feature refl).2)
  node_same Id ms a h = each_same Id ms h (λ ds l. ap (λ id. Ok (id_value id)) (a.feature refl).1)
  node_same GeometryType ms a h = each_same GeometryType ms h (λ ds l. ap (λ shape. Ok (text (shape_name shape))) (a.feature refl).0)
  node_same FeatureState ms a h = each_same FeatureState ms h (λ ds l. ap (λ state. state_at state ds) (a.state refl))
  node_same Zoom ms a h = each_same Zoom ms h (λ ds l. ap (λ zoom. Ok (number zoom)) (a.zoom refl))
  node_same Image ms a h = each_same Image ms h (λ ds l. image_same ds (a.image refl))
  node_same IsSupportedScript ms a h = each_same IsSupportedScript ms h (λ ds l. script_same ds a.script)
  node_same Boolean ms a h = deciding_same _ _ Boolean ms h
  node_same Number ms a h = deciding_same _ _ Number ms h
  node_same String ms a h = deciding_same _ _ String ms h
  node_same Object ms a h = deciding_same _ _ Object ms h
  node_same ToColor ms a h = deciding_same _ _ ToColor ms h
  node_same ToNumber ms a h = deciding_same _ _ ToNumber ms h
  node_same All ms a h = deciding_same _ _ All ms h
  node_same Any ms a h = deciding_same _ _ Any ms h
  node_same Coalesce ms a h = deciding_same _ _ Coalesce ms h
  node_same Case ms a h = case_same ms h
  node_same (Match ls) ms a h = match_same ls ms h
  node_same (Step inputs) ms a h = step_same inputs ms h
  node_same (Interpolate r) ms a h = ramp_same r.0 r.1 ms h
  node_same (Let names) ms a h = let_same names ms h
  node_same (Var name) ms a h = λ want names. refl
  node_same op ms a h = each_same op ms h (λ ds l. refl)

  count_means : (ts : Terms) → count ts ≡ length (means ts)
  count_means no_terms = refl
  count_means (term t ts) = let r = count_means ts in omega arith

  mutual
    mean_same : (t : Term) → AgreeOn (mentions t) v w → IsOne (mean t)
    mean_same (literal d) a = λ want names. refl
    mean_same (node op ts) a =
        node_same op (means ts)
        (subst (λ (n : ℕ). AgreeOn (of_operator op n) v w) (count_means ts) (agree_left (of_operator op (count ts)) (all_mentions ts) v w a))
        (means_same ts (agree_right (of_operator op (count ts)) (all_mentions ts) v w a))

    means_same : (ts : Terms) → AgreeOn (all_mentions ts) v w → AreOne (means ts)
    means_same no_terms a = tt
    means_same (term t ts) a =
        (mean_same t (agree_left (mentions t) (all_mentions ts) v w a), means_same ts (agree_right (mentions t) (all_mentions ts) v w a))

pub agreeing_worlds : AgreeingWorldsGiveOneMeaning
agreeing_worlds t want names v w a = mean_same v w t a want names
