-- `interpolate`.
use Rattle.std.proofs.Common.{◌≡◌, ℕ, ◌+◌, ◌-◌, ◌<◌, ◌%◌, zero, suc, ℤ, List, [], ◌∷◌, length, drop, Bool, true, false, not, ◌&&◌, ◌||◌, nat_eq, nat_le, Option, Some, None, Result, Ok, Err, if◌then◌else◌, refl, arith, sym, subst, ◌∙◌, ◌⊎◌, inl, inr}
use Rattle.std.specs.Prelude.{◌<ℤ◌}
use Rattle.std.proofs.lemmas.Bool.{leb-true, and_parts}
use Rattle.std.proofs.lemmas.Int.{ints}
use Rattle.fixed_num.specs.declared.fixed.Arith.{Arith}
use Rattle.prop_values.specs.Data.{Data, number, color, list, Items}
use Rattle.prop_values.specs.Faults.{holds, fault_of}
use Rattle.prop_values.specs.declared.fault.EvalFault.TheVariants as faults
use Rattle.prop_values.specs.declared.fault.FaultSet.{FaultSet}
use Rattle.prop_values.specs.declared.kinds.Item.{Item}
use Rattle.prop_values.specs.declared.kinds.Item.TheVariants as items
use Rattle.prop_values.specs.declared.kinds.Kind.{Kind}
use Rattle.prop_values.specs.declared.kinds.Kind.TheVariants as kinds
use Rattle.prop_values.specs.declared.kinds.Want.{Want}
use Rattle.prop_values.specs.declared.kinds.Want.TheVariants as wants
use Rattle.prop_values.specs.declared.outcome.Curve.{Curve}
use Rattle.prop_values.specs.declared.outcome.Curve.TheVariants.{Linear, Exponential}
use Rattle.property_tables.specs.Fitting.{fit, are_items, has_count}
use Rattle.interpolate_fixed.specs.Places.{input_at, place_of}
use Rattle.interpolate_fixed.specs.PlaceFacts.{IsAscending, IsBetween}
use Rattle.interpolate_fixed.specs.Warp.{warp_of}
use Rattle.interpolate_fixed.specs.declared.place.StopPlace.{StopPlace}
use Rattle.interpolate_fixed.specs.declared.place.StopPlace.TheVariants.{First, Last, Between}
use Rattle.interpolate_fixed.proofs.Counts.{place_is_between}
use Rattle.expr_syntax.specs.Operators.{ramp_want}
use Rattle.expr_syntax.specs.declared.expression.Operator.TheVariants as ops
use Rattle.expr_types.specs.Fits.{same_kind, branch_kind}
use Rattle.expr_types.specs.Own.{common_kind, faults_if}
use Rattle.expr_types.specs.OwnTable.{own}
use Rattle.expr_types.specs.declared.own.Own.{Own}
use Rattle.expr_types.specs.Ramping.{is_ramp_kind, is_interpolable, are_near, is_fitting, are_next_near, next_from, steps_are_near, is_linear, may_pass, unless_interpolable}
use Rattle.operator_values.specs.Arithmetic.{then_number}
use Rattle.operator_values.specs.Evaluated.{Evaluated, then_value}
use Rattle.eval_face.specs.Branches.{output_at, ramp_at, ramp_of}
use Rattle.eval_face.specs.Meanings.{Meaning}
use Rattle.eval_face.specs.Names.{BoundOutcomes}
use Rattle.eval_face.specs.World.{World}
use Rattle.typing_laws.specs.OfKind.{is_of}
use Rattle.typing_laws.proofs.Sets.{Within, within_one}
use Rattle.typing_laws.proofs.KindLaws.{kind_eq, covers_common}
use Rattle.typing_laws.proofs.Outcomes.{OutcomeOf, BranchIn}
use Rattle.typing_laws.proofs.Arguments.{LiteralIn, LiteralsOf, AreGiven, IsSoundNode}
use Rattle.typing_laws.proofs.NumberLaws.{OnlyOverflows}
use Rattle.typing_laws.proofs.BranchLaws.{outcome_of, later_place, want_unless_own, without_first, Outputs, outputs_ok, output_ok, with_number_ok}
use Rattle.typing_laws.proofs.WarpLaws.{warp_overflows}
use Rattle.typing_laws.proofs.BetweenLaws.{LineIn, SafeIn, between_outcomes}

module _ (S : FaultSet) where
  -- ---- at a place among the inputs

  place_ok : (Q : Kind) → is_ramp_kind Q ≡ true → (inputs : List ℤ) (ms : List Meaning) (x : ℤ)
      (place : StopPlace) (v : Want) (names : BoundOutcomes) (world : World) → length ms ≡ length inputs →
      0 < length inputs → ((i : ℕ) → i < length ms → OutcomeOf S wants.Any Q (output_at ms i v names world)) →
      ((i : ℕ) → place ≡ Between i → IsBetween inputs x i) → ((i : ℕ) (d e : Data) → IsBetween inputs x i →
      output_at ms i v names world ≡ Ok d → output_at ms (i + 1) v names world ≡ Ok e → SafeIn S x
      (input_at inputs i) d (input_at inputs (i + 1)) e) →
      OutcomeOf S wants.Any Q (ramp_at inputs ms x place v names world)
  place_ok Q r inputs ms x First v names world q some all at safe = all 0 (omega (arith, q, some))
  place_ok Q r inputs ms x Last v names world q some all at safe = all (length inputs - 1)
      (omega (arith, q, some))
  place_ok Q r inputs ms x (Between i) v names world q some all at safe =
      let here = at i refl in
      let inside : i + 1 < length inputs = here.within in
      between_outcomes S Q r x (input_at inputs i) (input_at inputs (i + 1)) (output_at ms i v names world)
      (output_at ms (i + 1) v names world)
      (all i (omega (arith, inside, q))) (all (i + 1) (omega (arith, inside, q)))
      (λ d e p p'. safe i d e here p p')

  -- ---- wants and kinds

  abbrev ramp_kind : Want → Kind → Kind
  ramp_kind wants.Number K = kinds.Number
  ramp_kind wants.Color K = kinds.Color
  ramp_kind (wants.List i n) K = kinds.List i n
  ramp_kind w K = K

  ramp_is : (w : Want) (K : Kind) → is_interpolable w K ≡ true → is_ramp_kind (ramp_kind w K) ≡ true
  ramp_is wants.Number K h = refl
  ramp_is wants.Color K h = refl
  ramp_is (wants.List items.Number (Some n)) K h = refl
  ramp_is wants.Any K h = h
  ramp_is wants.Shown K h = h
  ramp_is _ K h = absurd (cc)

  output_kind : (w : Want) (K : Kind) (o : Evaluated) → OutcomeOf S (ramp_want w) K o →
      OutcomeOf S wants.Any (ramp_kind w K) o
  output_kind w K (Err f) h = h
  output_kind wants.Number K (Ok d) h = (refl, h.0)
  output_kind wants.Color K (Ok d) h = (refl, h.0)
  output_kind (wants.List i n) K (Ok d) h = (refl, h.0)
  output_kind wants.Any K (Ok d) h = (refl, h.1)
  output_kind wants.Shown K (Ok d) h = (refl, h.1)
  output_kind _ K (Ok d) h = (refl, h.1)

  list_fits : (n : ℕ) (ds : Items) (b : Bool) → (has_count (Some n) ds && are_items items.Number ds) ≡ b →
      b ≡ true → OutcomeOf S (wants.List items.Number (Some n)) (kinds.List items.Number (Some n))
      (if b then Ok (list ds) else Err faults.WrongType)
  list_fits n ds true q h = (q, q)
  list_fits n ds false q h = absurd (cc)

  fit_ramp : (w : Want) (K : Kind) → is_interpolable w K ≡ true → (o : Evaluated) →
      OutcomeOf S wants.Any (ramp_kind w K) o → OutcomeOf S w (branch_kind w K) (then_value o (fit w))
  fit_ramp w K i (Err f) h = h
  fit_ramp wants.Any K i (Ok d) h = (refl, h.1)
  fit_ramp wants.Shown K i (Ok d) h = (refl, refl)
  fit_ramp wants.Number K i (Ok (number z)) h = (refl, refl)
  fit_ramp wants.Number K i (Ok _) h = absurd (let q = h.1 in cc)
  fit_ramp wants.Color K i (Ok (color c)) h = (refl, refl)
  fit_ramp wants.Color K i (Ok _) h = absurd (let q = h.1 in cc)
  fit_ramp (wants.List items.Number (Some n)) K i (Ok (list ds)) h = list_fits n ds
      (has_count (Some n) ds && are_items items.Number ds) refl h.1
  fit_ramp (wants.List items.Number (Some n)) K i (Ok _) h = absurd (let q = h.1 in cc)
  fit_ramp _ K i (Ok d) h = absurd (cc)

  -- ---- outputs that are literals

  -- a want under which a value that fits stays as it is
  abbrev Keeps : Want → Type 0
  Keeps v = (p d : Data) → fit v p ≡ Ok d → p ≡ d

  number_keeps : Keeps wants.Number
  number_keeps (number z) d h = cc
  number_keeps _ d h = absurd (cc)

  list_if_keeps : (b : Bool) (ds : Items) (d : Data) →
      (if b then Ok (list ds) else Err faults.WrongType) ≡ Ok d → list ds ≡ d
  list_if_keeps true ds d h = cc
  list_if_keeps false ds d h = absurd (cc)

  list_keeps : (i : Item) (n : Option ℕ) → Keeps (wants.List i n)
  list_keeps i n (list ds) d h = list_if_keeps (has_count n ds && are_items i ds) ds d h
  list_keeps i n _ d h = absurd (cc)

  any_keeps : Keeps wants.Any
  any_keeps p d h = cc

  next_near : (v : Want) → Keeps v → (x0 x1 : ℤ) (l l' : Option Data) (a b : Evaluated) (d e : Data) →
      are_next_near x0 l x1 l' ≡ true → LiteralIn l v a → LiteralIn l' v b → a ≡ Ok d → b ≡ Ok e →
      are_near x0 d x1 e ≡ true
  next_near v keeps x0 x1 (Some p) (Some q) a b d e near g g' k k' =
      let same : p ≡ d = keeps p d (sym g ∙ k) in let same' : q ≡ e = keeps q e (sym g' ∙ k') in
      subst (λ y. are_near x0 d x1 y ≡ true) same' (subst (λ y. are_near x0 y x1 q ≡ true) same near)
  next_near v keeps x0 x1 None l' a b d e near g g' k k' = absurd (cc)
  next_near v keeps x0 x1 (Some p) None a b d e near g g' k k' = absurd (cc)

  steps_near : (v : Want) → Keeps v → (names : BoundOutcomes) (world : World) (inputs : List ℤ)
      (ls : List (Option Data)) (ms : List Meaning) (i : ℕ) (d e : Data) → steps_are_near inputs v ls ≡ true →
      LiteralsOf ls ms → suc i < length inputs → output_at ms i v names world ≡ Ok d →
      output_at ms (suc i) v names world ≡ Ok e →
      are_near (input_at inputs i) d (input_at inputs (suc i)) e ≡ true
  steps_near v keeps names world [] ls ms i d e steps g within k k' = absurd (omega (arith, within))
  steps_near v keeps names world (x0 ∷ xs) [] ms i d e steps g within k k' = absurd (cc)
  steps_near v keeps names world (x0 ∷ xs) (l ∷ ls) [] i d e steps g within k k' = absurd g
  steps_near v keeps names world (x0 ∷ x1 ∷ xs) (l ∷ l' ∷ ls) (me ∷ me' ∷ ms) zero d e steps g within k k' =
      next_near v keeps x0 x1 l l' (me v names world) (me' v names world) d e
      ((and_parts (are_next_near x0 l x1 l') (steps_are_near (x1 ∷ xs) v (l' ∷ ls)) ((and_parts (is_fitting v
      l) (are_next_near x0 l x1 l' && steps_are_near (x1 ∷ xs) v (l' ∷ ls)) steps).1)).0)
      (g.0 v names world) (g.1.0 v names world) k k'
  steps_near v keeps names world (x0 ∷ []) (l ∷ ls) (me ∷ ms) zero d e steps g within k k' = absurd
      (omega (arith, within))
  steps_near v keeps names world (x0 ∷ x1 ∷ xs) (l ∷ []) (me ∷ []) zero d e steps g within k k' = absurd (cc)
  steps_near v keeps names world (x0 ∷ x1 ∷ xs) (l ∷ []) (me ∷ me' ∷ ms) zero d e steps g within k k' = absurd
      g.1
  steps_near v keeps names world (x0 ∷ x1 ∷ xs) (l ∷ l' ∷ ls) (me ∷ []) zero d e steps g within k k' = absurd
      g.1
  steps_near v keeps names world (x0 ∷ xs) (l ∷ ls) (me ∷ ms) (suc i) d e steps g within k k' =
      steps_near v keeps names world xs ls ms i d e
      ((and_parts (next_from (x0 ∷ xs) (l ∷ ls)) (steps_are_near xs v ls)
      ((and_parts (is_fitting v l) (next_from (x0 ∷ xs) (l ∷ ls) && steps_are_near xs v ls) steps).1)).1)
      g.1 (omega (arith, within)) k k'

  -- ---- whether Overflow is listed

  not_false : (b : Bool) → not b ≡ false → b ≡ true
  not_false true h = refl
  not_false false h = absurd (cc)

  or_split : (a b : Bool) → (a || b) ≡ true → (a ≡ true) ⊎ (b ≡ true)
  or_split true b h = inl refl
  or_split false b h = inr h

  near_in : (v : Want) → Keeps v → (names : BoundOutcomes) (world : World) (inputs : List ℤ) (ls : List (Option Data))
      (ms : List Meaning) (x : ℤ) (i : ℕ) (d e : Data) → steps_are_near inputs v ls ≡ true →
      LiteralsOf ls ms → IsBetween inputs x i → output_at ms i v names world ≡ Ok d →
      output_at ms (suc i) v names world ≡ Ok e → SafeIn S x (input_at inputs i) d (input_at inputs (suc i)) e
  near_in v keeps names world inputs ls ms x i d e steps g at k k' =
      let inside : i + 1 < length inputs = at.within in
      let next : i + 1 ≡ suc i = omega arith in
      let below : x <ℤ input_at inputs (suc i) = subst (λ (n : ℕ). x <ℤ input_at inputs n) next at.below_next
      in
      inr (inr (
        steps_near v keeps names world inputs ls ms i d e steps g (omega (arith, inside)) k k',
        (at.not_below, omega (arith, ints, below)),
      ))

  -- where neighbours are near, by the want of the outputs
  near_by : (w : Want) (K : Kind) → is_interpolable w K ≡ true → (names : BoundOutcomes) (world : World)
      (inputs : List ℤ) (ls : List (Option Data)) (ms : List Meaning) (x : ℤ) (i : ℕ) (d e : Data) →
      steps_are_near inputs (ramp_want w) ls ≡ true → LiteralsOf ls ms → IsBetween inputs x i →
      OutcomeOf S (ramp_want w) K (Ok d) → output_at ms i (ramp_want w) names world ≡ Ok d →
      output_at ms (suc i) (ramp_want w) names world ≡ Ok e →
      SafeIn S x (input_at inputs i) d (input_at inputs (suc i)) e
  near_by wants.Color K r names world inputs ls ms x i d e steps g at o k k' = inr (inl o.0)
  near_by wants.Number K r names world inputs ls ms x i d e steps g at o k k' = near_in wants.Number
      number_keeps names world inputs ls ms x i d e steps g at k k'
  near_by (wants.List j n) K r names world inputs ls ms x i d e steps g at o k k' = near_in (wants.List j n)
      (list_keeps j n) names world inputs ls ms x i d e steps g at k k'
  near_by wants.Any K r names world inputs ls ms x i d e steps g at o k k' = near_in wants.Any any_keeps names
      world inputs ls ms x i d e steps g at k k'
  near_by wants.Shown K r names world inputs ls ms x i d e steps g at o k k' = near_in wants.Any any_keeps
      names world inputs ls ms x i d e steps g at k k'
  near_by _ K r names world inputs ls ms x i d e steps g at o k k' = absurd (cc)

  safe_by : (b : Bool) (curve : Curve) (w : Want) (K : Kind) → is_interpolable w K ≡ true →
      (names : BoundOutcomes) (world : World) (inputs : List ℤ) (ls : List (Option Data)) (ms : List Meaning) →
      may_pass curve inputs (ramp_want w) ls K ≡ b → Within S (faults_if b faults.Overflow) →
      LiteralsOf ls ms → (x : ℤ) (i : ℕ) (d e : Data) → IsBetween inputs x i →
      OutcomeOf S (ramp_want w) K (Ok d) → output_at ms i (ramp_want w) names world ≡ Ok d →
      output_at ms (suc i) (ramp_want w) names world ≡ Ok e →
      SafeIn S x (input_at inputs i) d (input_at inputs (suc i)) e
  safe_by true curve w K r names world inputs ls ms q all g x i d e at o k k' = inl
      (within_one S faults.Overflow all)
  safe_by false curve w K r names world inputs ls ms q all g x i d e at o k k' =
      let passes = (and_parts (is_linear curve)
      (same_kind K kinds.Color || steps_are_near inputs (ramp_want w) ls) (not_false (is_linear curve &&
      (same_kind K kinds.Color || steps_are_near inputs (ramp_want w) ls)) q)).1 in
      elim (or_split (same_kind K kinds.Color) (steps_are_near inputs (ramp_want w) ls) passes) [
        | inl same ↦ inr (inl (subst (λ k. is_of k d ≡ true) (kind_eq K kinds.Color same) o.1))
        | inr steps ↦ near_by w K r names world inputs ls ms x i d e steps g at o k k'
      ]

  warp_by : (curve : Curve) (inputs : List ℤ) (v : Want) (ls : List (Option Data)) (K : Kind) (z : ℤ) →
      Within S (faults_if (may_pass curve inputs v ls K) faults.Overflow) → LineIn S (warp_of curve inputs z)
  warp_by Linear inputs v ls K z all = tt
  warp_by (Exponential base) inputs v ls K z all = moved (warp_of (Exponential base) inputs z)
      (warp_overflows (Exponential base) inputs z)
    where
      moved : (r : Result ℤ Arith) → OnlyOverflows r → LineIn S r
      moved (Ok x) h = tt
      moved (Err f) h = subst (λ g. holds S (fault_of g) ≡ true) (sym h) (within_one S faults.Overflow all)

  then_number_ok : (w : Want) (K : Kind) (r : Result ℤ Arith) (go : ℤ → Evaluated) → LineIn S r →
      ((x : ℤ) → OutcomeOf S w K (go x)) → OutcomeOf S w K (then_number r go)
  then_number_ok w K (Ok x) go h all = all x
  then_number_ok w K (Err f) go h all = h

  some_interpolable : (b : Bool) → unless_interpolable b ≡ None → b ≡ true
  some_interpolable true h = refl
  some_interpolable false h = absurd (cc)

  -- the outcomes of outputs, as values that are interpolated
  ramp_between : (curve : Curve) (inputs : List ℤ) (w : Want) (ls : List (Option Data)) (js : List Kind)
      (ms : List Meaning) (names : BoundOutcomes) (world : World) (x : ℤ) →
      is_interpolable w (common_kind js) ≡ true →
      Within S (faults_if (may_pass curve inputs (ramp_want w) ls (common_kind js)) faults.Overflow) →
      IsAscending inputs → length ms ≡ length inputs → 0 < length inputs → LiteralsOf ls ms →
      Outputs S (ramp_want w) names world js ms → OutcomeOf S w (branch_kind w (common_kind js))
      (then_value (ramp_at inputs ms x (place_of inputs x) (ramp_want w) names world) (fit w))
  ramp_between curve inputs w ls js ms names world x r all rising q some g outs =
      let K = common_kind js in let v = ramp_want w in
      fit_ramp w K r (ramp_at inputs ms x (place_of inputs x) v names world)
      (place_ok (ramp_kind w K) (ramp_is w K r) inputs ms x (place_of inputs x) v names world q some
      (λ i within. output_kind w K (output_at ms i v names world)
      (output_ok S K v names world js ms i within (covers_common js) outs))
      (λ i e. place_is_between inputs x i rising some e)
      (λ i d e at k k'.
      let inside : i + 1 < length inputs = at.within in
      let next : suc i ≡ i + 1 = omega arith in
      subst (λ (n : ℕ). SafeIn S x (input_at inputs i) d (input_at inputs n) e) next
      (safe_by (may_pass curve inputs v ls K) curve w K r names world inputs ls ms refl all g x i d e at
      (subst (λ o. OutcomeOf S v K o) k
      (output_ok S K v names world js ms i (omega (arith, inside, q)) (covers_common js) outs)) k
      (subst (λ (n : ℕ). output_at ms n v names world ≡ Ok e) (sym next) k'))))

  some_inputs : (r : Curve × List ℤ) (me : Meaning) (ms : List Meaning) →
      (nat_le 4 (length (me ∷ ms) + length r.1 + 1) && nat_eq ((length (me ∷ ms) + length r.1 + 1) % 2) 0) ≡
      true → length (me ∷ ms) ≡ length r.1 + 1 → 0 < length r.1
  some_inputs r me ms h e = let q = leb-true 4 (length (me ∷ ms) + length r.1 + 1) ((and_parts
      (nat_le 4 (length (me ∷ ms) + length r.1 + 1)) (nat_eq ((length (me ∷ ms) + length r.1 + 1) % 2) 0)
      h).0) in omega (arith, q, e)

  -- what `own_ramp` says, of the outputs alone
  abbrev outputs_own : Curve → List ℤ → Want → List (Option Data) → List Kind → Own
  outputs_own curve inputs w ls js = record {
    kind = common_kind js;
    code = unless_interpolable (is_interpolable w (common_kind js));
    faults = faults_if (may_pass curve inputs (ramp_want w) ls (common_kind js)) faults.Overflow;
  }

  ramp_outputs : (r : Curve × List ℤ) (ls : List (Option Data)) (me : Meaning) (ms : List Meaning) →
      LiteralsOf ls ms → (bound : List (List ℕ)) → IsSoundNode bound (ops.Interpolate r) (length (me ∷ ms)) →
      (w : Want) (names : BoundOutcomes) (world : World) (l : Option Data) (j : Kind) (js : List Kind) → AreGiven S
      (ops.Interpolate r) (length (me ∷ ms)) 0 (ramp_want w) names world (l ∷ ls) (j ∷ js) (me ∷ ms) →
      BranchIn S w (outputs_own r.0 r.1 w ls js) (ramp_of r.0 r.1 (me ∷ ms) w names world)
  ramp_outputs r ls me ms g bound sound w names world l j js h = λ none all.
      let parts : length (me ∷ ms) ≡ length r.1 + 1 = sound.parts.2 in
      with_number_ok S w j (branch_kind w (common_kind js)) (me wants.Number names world) (λ z. then_number
      (warp_of r.0 r.1 z)
      (λ x. then_value (ramp_at r.1 ms x (place_of r.1 x) (ramp_want w) names world) (fit w)))
      (outcome_of S wants.Number false l j (me wants.Number names world) h.0)
      (λ z. then_number_ok w (branch_kind w (common_kind js)) (warp_of r.0 r.1 z)
      (λ x. then_value (ramp_at r.1 ms x (place_of r.1 x) (ramp_want w) names world) (fit w))
      (warp_by r.0 r.1 (ramp_want w) ls (common_kind js) z all)
      (λ x. ramp_between r.0 r.1 w ls js ms names world x
      (some_interpolable (is_interpolable w (common_kind js)) none) all sound.parts.1
      (omega (arith, parts)) (some_inputs r me ms sound.arity parts) g
      (outputs_ok S (ops.Interpolate r) (length (me ∷ ms)) (ramp_want w) names world (λ k me. refl)
      (λ k after. want_unless_own (nat_eq k 0) wants.Number (ramp_want w) (later_place k after)) 1
      (omega arith) ls js ms h.1)))

  pub ramp_ok : (r : Curve × List ℤ) (ls : List (Option Data)) (ms : List Meaning) → LiteralsOf ls ms →
      (bound : List (List ℕ)) → IsSoundNode bound (ops.Interpolate r) (length ms) →
      (w : Want) (names : BoundOutcomes) (world : World) (js : List Kind) →
      AreGiven S (ops.Interpolate r) (length ms) 0 (ramp_want w) names world ls js ms →
      BranchIn S w (own (ops.Interpolate r) w ls js) (ramp_of r.0 r.1 ms w names world)
  ramp_ok r (l ∷ ls) (me ∷ ms) g bound sound w names world (j ∷ js) h =
      subst (λ ks. BranchIn S w (outputs_own r.0 r.1 w (drop 1 (l ∷ ls)) ks)
      (ramp_of r.0 r.1 (me ∷ ms) w names world)) (without_first Kind j js)
      (subst (λ ks. BranchIn S w (outputs_own r.0 r.1 w ks js) (ramp_of r.0 r.1 (me ∷ ms) w names world))
      (without_first (Option Data) l ls)
      (ramp_outputs r ls me ms g.1 bound sound w names world l j js h))
  ramp_ok r [] [] g bound sound w names world js h = λ none all. absurd
      (let parts = sound.parts.2 in omega (arith, parts))
  ramp_ok r [] (me ∷ ms) g bound sound w names world js h = absurd g
  ramp_ok r (l ∷ ls) [] g bound sound w names world js h = absurd g
  ramp_ok r (l ∷ ls) (me ∷ ms) g bound sound w names world [] h = absurd h
