-- Operators that choose an output: `case`, `match` and `step`.
use Rattle.std.proofs.Common.{◌≡◌, ℕ, ◌+◌, ◌-◌, ◌<◌, ◌≤◌, ◌%◌, zero, suc, ℤ, List, [], ◌∷◌, length, drop, Bool, true, false, not, ◌||◌, nat_eq, nat_le, Option, Ok, Err, if◌then◌else◌, refl, arith, sym, subst}
use Rattle.std.proofs.lemmas.Bool.{eqb-true, eq-eqb, ne_eqb, leb-true, and_parts, or_left, or_right}
use Rattle.std.proofs.lemmas.List.Sums.{count_by-le-length}
use Rattle.std.specs.Prelude.{int_le}
use Rattle.prop_values.specs.Data.{Data, null, boolean, number, text, color, list, map}
use Rattle.prop_values.specs.declared.fault.FaultSet.{FaultSet}
use Rattle.prop_values.specs.declared.kinds.Kind.{Kind}
use Rattle.prop_values.specs.declared.kinds.Want.{Want}
use Rattle.prop_values.specs.declared.kinds.Want.TheVariants as wants
use Rattle.interpolate_fixed.specs.Places.{count_not_above}
use Rattle.expr_syntax.specs.Chosen.{is_equal_to, output_of}
use Rattle.expr_syntax.specs.ReadTerms.{NameOutputs}
use Rattle.expr_syntax.specs.Rows.{is_last, is_even}
use Rattle.expr_syntax.specs.declared.expression.Operator.{Operator}
use Rattle.expr_syntax.specs.declared.expression.Operator.TheVariants as ops
use Rattle.expr_syntax.specs.declared.parts.Labelled.{Labelled}
use Rattle.expr_syntax.specs.declared.rows.Wanted.TheVariants.{Own as OwnWant, OfNode}
use Rattle.expr_syntax.specs.Operators.{wanted_by, want_of}
use Rattle.expr_types.specs.Own.{common_kind}
use Rattle.expr_types.specs.OwnTable.{own, output_kinds}
use Rattle.operator_values.specs.Evaluated.{Evaluated, then_value}
use Rattle.eval_face.specs.Branches.{branch, case_of, output_at, match_of, with_number, step_of}
use Rattle.eval_face.specs.Meanings.{Meaning, argument_of}
use Rattle.eval_face.specs.Names.{BoundOutcomes}
use Rattle.eval_face.specs.World.{World}
use Rattle.typing_laws.specs.OfKind.{is_of}
use Rattle.typing_laws.proofs.KindLaws.{Covers, covers_common}
use Rattle.typing_laws.proofs.Outcomes.{OutcomeOf, BranchIn, branch_ok}
use Rattle.typing_laws.proofs.Arguments.{ArgumentOf, AreGiven, IsSoundNode}
use Rattle.typing_laws.proofs.Nodes.{given_length}

-- ---- wants and outputs by their places

pub want_if_node : (b : Bool) (w v : Want) → b ≡ true → want_of (if b then OfNode else OwnWant w) v ≡ v
want_if_node true w v h = refl
want_if_node false w v h = absurd (cc)

pub want_if_own : (b : Bool) (w v : Want) → b ≡ false → want_of (if b then OfNode else OwnWant w) v ≡ w
want_if_own true w v h = absurd (cc)
want_if_own false w v h = refl

pub want_unless_own : (b : Bool) (w v : Want) → b ≡ false → want_of (if b then OwnWant w else OfNode) v ≡ v
want_unless_own true w v h = absurd (cc)
want_unless_own false w v h = refl

pub later_place : (k : ℕ) → 0 < k → nat_eq k 0 ≡ false
later_place k h = ne_eqb k 0 (λ e. omega (arith, h, e))

abbrev CoversOne : Kind → Kind → Type 0
CoversOne K j = (d : Data) → is_of j d ≡ true → is_of K d ≡ true

cover_output : (K : Kind) (b : Bool) (j : Kind) (js rest : List Kind) → b ≡ true →
    Covers K (if b then j ∷ js else rest) → CoversOne K j × Covers K js
cover_output K true j js rest h c = c
cover_output K false j js rest h c = absurd (cc)

cover_other : (K : Kind) (b : Bool) (j : Kind) (js rest : List Kind) → b ≡ false →
    Covers K (if b then j ∷ js else rest) → Covers K rest
cover_other K true j js rest h c = absurd (cc)
cover_other K false j js rest h c = c

-- ---- conditions and outputs take turns

odd_next : (k : ℕ) → is_even k ≡ true → is_even (k + 1) ≡ false
odd_next k h = let q = eqb-true (k % 2) 0 h in ne_eqb ((k + 1) % 2) 0 (λ e. omega (arith, q, e))

even_after : (k : ℕ) → is_even k ≡ true → is_even (k + 1 + 1) ≡ true
even_after k h = let q = eqb-true (k % 2) 0 h in eq-eqb ((k + 1 + 1) % 2) 0 (omega (arith, q))

even_not_odd : (k m : ℕ) → is_even k ≡ true → nat_eq (m % 2) 1 ≡ true → k ≡ m → ⊥
even_not_odd k m h g e = let q = eqb-true (k % 2) 0 h in let r = eqb-true (m % 2) 1 g in omega
    (arith, q, r, e)

not_output : (a b : Bool) → a ≡ false → b ≡ true → (a || not b) ≡ false
not_output false true h g = refl
not_output false false h g = absurd (cc)
not_output true b h g = absurd (cc)

odd_output : (a b : Bool) → b ≡ false → (a || not b) ≡ true
odd_output a false h = or_right a true refl
odd_output a true h = absurd (cc)

-- ---- `match` and `step` choose an output that is there

output_within : (labels : List Labelled) (d : Data) (last n outputs : ℕ) → NameOutputs n labels →
    n ≤ outputs → last < outputs → output_of labels d last < outputs
output_within [] d last n outputs h g q = q
output_within (l ∷ ls) d last n outputs h g q = pick (is_equal_to l.label d)
    (output_within ls d last n outputs h.1 g q)
  where
    pick : (b : Bool) → output_of ls d last < outputs →
        (if b then l.output else output_of ls d last) < outputs
    pick true rest = omega (arith, h.0, g)
    pick false rest = rest

pub not_above_within : (x : ℤ) (inputs : List ℤ) → count_not_above x inputs ≤ length inputs
unfolding count_not_above
not_above_within x inputs = count_by-le-length (λ input. int_le input x) inputs

-- a list without its first
pub without_first : (A : Type 0) (x : A) (xs : List A) → xs ≡ drop 1 (x ∷ xs)
without_first A x [] = refl
without_first A x (y ∷ xs) = refl

module _ (S : FaultSet) where
  pub outcome_of : (w : Want) (asked : Bool) (l : Option Data) (j : Kind) (o : Evaluated) →
      ArgumentOf S w asked l j o → OutcomeOf S w j o
  outcome_of w asked l j (Ok d) h = (h.wanted, h.kind)
  outcome_of w asked l j (Err f) h = h

  pub widen : (w : Want) (j K : Kind) (o : Evaluated) → OutcomeOf S w j o →
      ((d : Data) → is_of j d ≡ true → is_of K d ≡ true) → OutcomeOf S w K o
  widen w j K (Ok d) h cover = (h.0, cover d h.1)
  widen w j K (Err f) h cover = h

  -- ---- `case`

  one_branch : (w : Want) (K j : Kind) (o output later : Evaluated) → OutcomeOf S wants.Boolean j o →
      OutcomeOf S w K output → OutcomeOf S w K later → OutcomeOf S w K (branch o output later)
  one_branch w K j (Ok (boolean true)) output later h a b = a
  one_branch w K j (Ok (boolean false)) output later h a b = b
  one_branch w K j (Ok null) output later h a b = absurd (let q = h.0 in cc)
  one_branch w K j (Ok (number z)) output later h a b = absurd (let q = h.0 in cc)
  one_branch w K j (Ok (text s)) output later h a b = absurd (let q = h.0 in cc)
  one_branch w K j (Ok (color c)) output later h a b = absurd (let q = h.0 in cc)
  one_branch w K j (Ok (list ds)) output later h a b = absurd (let q = h.0 in cc)
  one_branch w K j (Ok (map ps)) output later h a b = absurd (let q = h.0 in cc)
  one_branch w K j (Err f) output later h a b = h

  -- an argument of `case`, where it is an output and where it is a condition
  output_given : (m k : ℕ) (v : Want) (names : BoundOutcomes) (world : World) (l : Option Data) (j : Kind)
      (me : Meaning) → (is_last m k || not (is_even k)) ≡ true → ArgumentOf S
      (want_of (wanted_by ops.Case m k) v) false l j (argument_of ops.Case m k me v names world) →
      OutcomeOf S v j (me v names world)
  output_given m k v names world l j me q h =
      outcome_of v false l j (me v names world) (subst (λ x. ArgumentOf S x false l j (me x names world))
      (want_if_node (is_last m k || not (is_even k)) wants.Boolean v q) h)

  condition_given : (m k : ℕ) (v : Want) (names : BoundOutcomes) (world : World) (l : Option Data) (j : Kind)
      (me : Meaning) → (is_last m k || not (is_even k)) ≡ false → ArgumentOf S
      (want_of (wanted_by ops.Case m k) v) false l j (argument_of ops.Case m k me v names world) →
      OutcomeOf S wants.Boolean j (me wants.Boolean names world)
  condition_given m k v names world l j me q h =
      outcome_of wants.Boolean false l j (me wants.Boolean names world) (subst
      (λ x. ArgumentOf S x false l j (me x names world))
      (want_if_own (is_last m k || not (is_even k)) wants.Boolean v q) h)

  case_given : (K : Kind) (m k : ℕ) (v : Want) (names : BoundOutcomes) (world : World) (ls : List (Option Data))
      (js : List Kind) (ms : List Meaning) → is_even k ≡ true → nat_eq (m % 2) 1 ≡ true → k + length ms ≡ m →
      Covers K (output_kinds m k js) → AreGiven S ops.Case m k v names world ls js ms →
      OutcomeOf S v K (case_of ms v names world)
  case_given K m k v names world [] [] [] even odd e cover h = absurd
      (even_not_odd k m even odd (omega (arith, e)))
  case_given K m k v names world (l ∷ []) (j ∷ []) (me ∷ []) even odd e cover h =
      let last : is_last m k ≡ true = eq-eqb (k + 1) m (omega (arith, e)) in
      let output : (is_last m k || not (is_even k)) ≡ true = or_left (is_last m k) (not (is_even k)) last in
      widen v j K (me v names world) (output_given m k v names world l j me output h.0)
      (cover_output K (is_last m k || not (is_even k)) j [] [] output cover).0
  case_given K m k v names world (l ∷ l' ∷ ls) (j ∷ j' ∷ js) (me ∷ me' ∷ ms) even odd e cover h =
      let middle : is_last m k ≡ false = ne_eqb (k + 1) m (λ q. omega (arith, e, q)) in
      let condition : (is_last m k || not (is_even k)) ≡ false = not_output (is_last m k) (is_even k) middle
      even in
      let output : (is_last m (k + 1) || not (is_even (k + 1))) ≡ true = odd_output (is_last m (k + 1))
      (is_even (k + 1)) (odd_next k even) in
      let cover' = cover_other K (is_last m k || not (is_even k)) j (output_kinds m (k + 1) (j' ∷ js))
      (output_kinds m (k + 1) (j' ∷ js)) condition cover in
      let covers = cover_output K (is_last m (k + 1) || not (is_even (k + 1))) j'
      (output_kinds m (k + 1 + 1) js) (output_kinds m (k + 1 + 1) js) output cover' in
      one_branch v K j (me wants.Boolean names world) (me' v names world) (case_of ms v names world)
      (condition_given m k v names world l j me condition h.0)
      (widen v j' K (me' v names world) (output_given m (k + 1) v names world l' j' me' output h.1.0)
      covers.0)
      (case_given K m (k + 1 + 1) v names world ls js ms (even_after k even) odd (omega (arith, e)) covers.1
      h.1.1)
  case_given K m k v names world [] [] (me ∷ ms) even odd e cover h = absurd h
  case_given K m k v names world [] (j ∷ js) ms even odd e cover h = absurd h
  case_given K m k v names world (l ∷ ls) [] ms even odd e cover h = absurd h
  case_given K m k v names world (l ∷ ls) (j ∷ js) [] even odd e cover h = absurd h
  case_given K m k v names world (l ∷ []) (j ∷ j' ∷ js) (me ∷ ms) even odd e cover h = absurd h.1
  case_given K m k v names world (l ∷ []) (j ∷ []) (me ∷ me' ∷ ms) even odd e cover h = absurd h.1
  case_given K m k v names world (l ∷ l' ∷ ls) (j ∷ []) (me ∷ ms) even odd e cover h = absurd h.1
  case_given K m k v names world (l ∷ l' ∷ ls) (j ∷ j' ∷ js) (me ∷ []) even odd e cover h = absurd h.1

  -- ---- one output after the input

  -- outputs under the want of the node
  abbrev pub Outputs : Want → BoundOutcomes → World → List Kind → List Meaning → Type 0
  Outputs v names world [] [] = Unit {0}
  Outputs v names world (j ∷ js) (me ∷ ms) = OutcomeOf S v j (me v names world) × Outputs v names world js ms
  Outputs v names world _ _ = ⊥

  pub outputs_ok : (op : Operator) (m : ℕ) (v : Want) (names : BoundOutcomes) (world : World) → ((k : ℕ)
      (me : Meaning) → argument_of op m k me v names world ≡ me (want_of (wanted_by op m k) v) names world) →
      ((k : ℕ) → 0 < k → want_of (wanted_by op m k) v ≡ v) → (k : ℕ) → 0 < k →
      (ls : List (Option Data)) (js : List Kind) (ms : List Meaning) →
      AreGiven S op m k v names world ls js ms → Outputs v names world js ms
  outputs_ok op m v names world plain same k after [] [] [] h = tt
  outputs_ok op m v names world plain same k after (l ∷ ls) (j ∷ js) (me ∷ ms) h =
      let o : OutcomeOf S (want_of (wanted_by op m k) v) j (argument_of op m k me v names world) = outcome_of
      (want_of (wanted_by op m k) v) _ l j (argument_of op m k me v names world) h.0 in (
        subst (λ x. OutcomeOf S x j (me x names world)) (same k after)
            (subst (λ x. OutcomeOf S (want_of (wanted_by op m k) v) j x) (plain k me) o),
        outputs_ok op m v names world plain same (k + 1) (omega arith) ls js ms h.1,
      )
  outputs_ok op m v names world plain same k after [] [] (me ∷ ms) h = absurd h
  outputs_ok op m v names world plain same k after [] (j ∷ js) ms h = absurd h
  outputs_ok op m v names world plain same k after (l ∷ ls) [] ms h = absurd h
  outputs_ok op m v names world plain same k after (l ∷ ls) (j ∷ js) [] h = absurd h

  pub output_ok : (K : Kind) (v : Want) (names : BoundOutcomes) (world : World) (js : List Kind) (ms : List Meaning)
      (i : ℕ) → i < length ms → Covers K js → Outputs v names world js ms →
      OutcomeOf S v K (output_at ms i v names world)
  output_ok K v names world [] [] i within cover h = absurd (omega (arith, within))
  output_ok K v names world (j ∷ js) (me ∷ ms) zero within cover h = widen v j K (me v names world) h.0
      cover.0
  output_ok K v names world (j ∷ js) (me ∷ ms) (suc i) within cover h = output_ok K v names world js ms i
      (omega (arith, within)) cover.1 h.1
  output_ok K v names world [] (me ∷ ms) i within cover h = absurd h
  output_ok K v names world (j ∷ js) [] i within cover h = absurd h

  -- what each of these operators gives, of at least one argument
  abbrev pub Branches : Operator → Meaning → List Meaning → Type 0
  Branches op meaning ms =
      (bound : List (List ℕ)) → IsSoundNode bound op (length ms) →
      (w : Want) (names : BoundOutcomes) (world : World) (ls : List (Option Data)) (js : List Kind) →
      AreGiven S op (length ms) 0 w names world ls js ms → BranchIn S w (own op w ls js)
      (meaning w names world)

  pub case_ok : (ms : List Meaning) → Branches ops.Case (case_of ms) ms
  case_ok ms bound sound w names world ls js h = λ none all.
      branch_ok S w (common_kind (output_kinds (length js) 0 js)) (case_of ms w names world) (case_given
      (common_kind (output_kinds (length js) 0 js)) (length ms) 0 w names world ls js ms refl
      ((and_parts (nat_le 3 (length ms)) (nat_eq (length ms % 2) 1) sound.arity).1) (omega arith)
      (same_cover ms js (given_length S ops.Case (length ms) 0 w names world ls js ms h)) h)
    where
      same_cover : (ms : List Meaning) (js : List Kind) → length ms ≡ length js →
          Covers (common_kind (output_kinds (length js) 0 js)) (output_kinds (length ms) 0 js)
      same_cover ms js e = subst
          (λ (m : ℕ). Covers (common_kind (output_kinds (length js) 0 js)) (output_kinds m 0 js)) (sym e)
          (covers_common (output_kinds (length js) 0 js))

  chosen_ok : (w v : Want) (j K : Kind) (o : Evaluated) (go : Data → Evaluated) → OutcomeOf S w j o →
      ((d : Data) → OutcomeOf S v K (go d)) → OutcomeOf S v K (then_value o go)
  chosen_ok w v j K (Ok d) go h all = all d
  chosen_ok w v j K (Err f) go h all = h

  pub with_number_ok : (v : Want) (j K : Kind) (o : Evaluated) (go : ℤ → Evaluated) →
      OutcomeOf S wants.Number j o → ((z : ℤ) → OutcomeOf S v K (go z)) → OutcomeOf S v K (with_number o go)
  with_number_ok v j K (Ok (number z)) go h all = all z
  with_number_ok v j K (Ok null) go h all = absurd (let q = h.0 in cc)
  with_number_ok v j K (Ok (boolean b)) go h all = absurd (let q = h.0 in cc)
  with_number_ok v j K (Ok (text s)) go h all = absurd (let q = h.0 in cc)
  with_number_ok v j K (Ok (color c)) go h all = absurd (let q = h.0 in cc)
  with_number_ok v j K (Ok (list ds)) go h all = absurd (let q = h.0 in cc)
  with_number_ok v j K (Ok (map ps)) go h all = absurd (let q = h.0 in cc)
  with_number_ok v j K (Err f) go h all = h

  -- ---- `match`

  match_some : (labels : List Labelled) (n : ℕ) → nat_le 4 (suc n + (suc n - 2)) ≡ true → 1 ≤ n
  match_some labels n h = let q = leb-true 4 (suc n + (suc n - 2)) h in omega (arith, q)

  pub match_ok : (labels : List Labelled) (ms : List Meaning) →
      Branches (ops.Match labels) (match_of labels ms) ms
  match_ok labels [] bound sound w names world ls js h = λ none all. absurd (let q = sound.arity in cc)
  match_ok labels (me ∷ ms) bound sound w names world (l ∷ ls) (j ∷ js) h = λ none all.
      let n = length ms in
      let some : 1 ≤ n = match_some labels n
      ((and_parts (nat_le 4 (suc n + (suc n - 2))) (nat_eq ((suc n + (suc n - 2)) % 2) 0) sound.arity).0)
      in
      branch_ok S w (common_kind js) (match_of labels (me ∷ ms) w names world)
      (chosen_ok wants.Any w j (common_kind js) (me wants.Any names world)
      (λ d. output_at ms (output_of labels d (n - 1)) w names world)
      (outcome_of wants.Any false l j (me wants.Any names world) h.0)
      (λ d. output_ok (common_kind js) w names world js ms (output_of labels d (n - 1))
      (output_within labels d (n - 1) (suc n - 2) n sound.parts.2 (omega arith) (omega (arith, some)))
      (covers_common js)
      (outputs_ok (ops.Match labels) (suc n) w names world (λ k me. refl)
      (λ k after. want_unless_own (nat_eq k 0) wants.Any w (later_place k after)) 1 (omega arith) ls js ms
      h.1)))
  match_ok labels (me ∷ ms) bound sound w names world [] [] h = absurd h
  match_ok labels (me ∷ ms) bound sound w names world [] (j ∷ js) h = absurd h
  match_ok labels (me ∷ ms) bound sound w names world (l ∷ ls) [] h = absurd h

  -- ---- `step`

  pub step_ok : (inputs : List ℤ) (ms : List Meaning) → Branches (ops.Step inputs) (step_of inputs ms) ms
  step_ok inputs [] bound sound w names world ls js h = λ none all. absurd (omega (arith, sound.parts.1))
  step_ok inputs (me ∷ ms) bound sound w names world (l ∷ ls) (j ∷ js) h = λ none all.
      branch_ok S w (common_kind (drop 1 (j ∷ js))) (step_of inputs (me ∷ ms) w names world)
      (with_number_ok w j (common_kind (drop 1 (j ∷ js))) (me wants.Number names world)
      (λ x. output_at ms (count_not_above x inputs) w names world)
      (outcome_of wants.Number false l j (me wants.Number names world) h.0)
      (λ x. output_ok (common_kind (drop 1 (j ∷ js))) w names world js ms (count_not_above x inputs)
      (let q = not_above_within x inputs in let r = sound.parts.1 in omega (arith, q, r))
      (subst (λ is. Covers (common_kind is) js) (without_first Kind j js) (covers_common js))
      (outputs_ok (ops.Step inputs) (length (me ∷ ms)) w names world (λ k me. refl)
      (λ k after. want_unless_own (nat_eq k 0) wants.Number w (later_place k after)) 1 (omega arith) ls js
      ms h.1)))
  step_ok inputs (me ∷ ms) bound sound w names world [] [] h = absurd h
  step_ok inputs (me ∷ ms) bound sound w names world [] (j ∷ js) h = absurd h
  step_ok inputs (me ∷ ms) bound sound w names world (l ∷ ls) [] h = absurd h
