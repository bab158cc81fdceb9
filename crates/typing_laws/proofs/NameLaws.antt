-- `let` and `var`.
use Rattle.std.proofs.Common.{◌≡◌, ℕ, ◌+◌, ◌<◌, ◌≤◌, zero, suc, List, [], ◌∷◌, length, take, drop, Bool, true, false, Option, Some, None, Ok, Err, if◌then◌else◌, refl, arith, subst}
use Rattle.std.proofs.lemmas.Bool.{eq-eqb, ne_eqb}
use Rattle.decimal_json.specs.declared.paths.PathPart.{PathPart}
use Rattle.prop_values.specs.Data.{Data}
use Rattle.prop_values.specs.Equality.{same_text}
use Rattle.prop_values.specs.Faults.{no_faults}
use Rattle.prop_values.specs.declared.fault.FaultSet.{FaultSet}
use Rattle.prop_values.specs.declared.kinds.Kind.{Kind}
use Rattle.prop_values.specs.declared.kinds.Want.{Want}
use Rattle.prop_values.specs.declared.kinds.Want.TheVariants as wants
use Rattle.expr_syntax.specs.declared.expression.Operator.TheVariants as ops
use Rattle.expr_syntax.specs.Operators.{wanted_by, want_of}
use Rattle.expr_syntax.specs.Rows.{is_last}
use Rattle.expr_types.specs.Typing.{TypedNodes, Typed, KindScope, Typing, argument_typed, founds_of, kinds_in, all_may, frame, or_own as typed_or_own, last_kind, or_outer as typed_or_outer, own_named, fitted, with_bindings, body_typed, let_typed}
use Rattle.expr_types.specs.declared.own.Own.{Own}
use Rattle.operator_values.specs.Evaluated.{Evaluated}
use Rattle.eval_face.specs.Bindings.{outcomes_of, body_of, let_of, var_of}
use Rattle.eval_face.specs.Meanings.{Meaning, argument_of}
use Rattle.eval_face.specs.Names.{BoundOutcomes, bound, or_own, last_named, or_outer, named}
use Rattle.eval_face.specs.World.{World}
use Rattle.typing_laws.proofs.Sets.{Within, within_left, within_right}
use Rattle.typing_laws.proofs.Outcomes.{OutcomeOf, NodeOf, ResultOf, OwnIn, branch_ok, finish_ok}
use Rattle.typing_laws.proofs.Arguments.{FrameOf, NamesOf, Agree, AllAgree, LiteralsOf, ArgumentOf, LookedIn, AreGiven, argument_ok, founds_ok, within_all, then_ok}
use Rattle.typing_laws.proofs.BranchLaws.{want_if_node, want_if_own, outcome_of}

pub take_within : (n : ℕ) (xs : List Meaning) → length (take n xs) ≤ n
take_within zero [] = omega arith
take_within zero (x ∷ xs) = omega arith
take_within (suc n) [] = omega arith
take_within (suc n) (x ∷ xs) = let q = take_within n xs in omega (arith, q)

module _ (S : FaultSet) where
  -- ---- a name asked for

  -- a name of a frame has a kind and an outcome, or neither
  abbrev FoundNames : Option Kind → Option Evaluated → Type 0
  FoundNames (Some k) (Some o) = OutcomeOf S wants.Any k o
  FoundNames None None = Unit {0}
  FoundNames _ _ = ⊥

  own_found : (x : Option Kind) (y : Option Evaluated) (a b : List ℕ) (k : Kind) (o : Evaluated)
      (asked : List ℕ) → a ≡ b → OutcomeOf S wants.Any k o → FoundNames x y →
      FoundNames (typed_or_own x a k asked) (or_own y b o asked)
  own_found (Some j) (Some p) a b k o asked e h g = g
  own_found None None a b k o asked e h g = subst (λ c. FoundNames
      (if same_text a asked then Some k else None) (if same_text c asked then Some o else None)) e
      (pick (same_text a asked))
    where
      pick : (t : Bool) → FoundNames (if t then Some k else None) (if t then Some o else None)
      pick true = h
      pick false = tt
  own_found (Some j) None a b k o asked e h g = absurd g
  own_found None (Some p) a b k o asked e h g = absurd g

  last_ok : (as_ : List (List ℕ × Kind)) (bs : List (List ℕ × Evaluated)) (asked : List ℕ) →
      FrameOf S as_ bs → FoundNames (last_kind as_ asked) (last_named bs asked)
  last_ok [] [] asked h = tt
  last_ok (a ∷ as_) (b ∷ bs) asked h = own_found (last_kind as_ asked) (last_named bs asked) a.0 b.0 a.1 b.1
      asked h.0 h.1 (last_ok as_ bs asked h.2)
  last_ok [] (b ∷ bs) asked h = absurd h
  last_ok (a ∷ as_) [] asked h = absurd h

  outer_ok : (x : Option Kind) (y : Option Evaluated) (own : Own) (o : Evaluated) → FoundNames x y →
      OwnIn S wants.Any own o → OwnIn S wants.Any (typed_or_outer x own) (or_outer y o)
  outer_ok (Some k) (Some p) own o h g = λ none all. h
  outer_ok None None own o h g = g
  outer_ok (Some k) None own o h g = absurd h
  outer_ok None (Some p) own o h g = absurd h

  named_ok : (scope : KindScope) (names : BoundOutcomes) (asked : List ℕ) → NamesOf S scope names →
      OwnIn S wants.Any (own_named scope asked) (named names asked)
  named_ok [] [] asked h = λ none. absurd (cc)
  named_ok (as_ ∷ scope) (bs ∷ names) asked h = outer_ok (last_kind as_ asked) (last_named bs asked)
      (own_named scope asked) (named names asked) (last_ok as_ bs asked h.0) (named_ok scope names asked h.1)
  named_ok [] (bs ∷ names) asked h = absurd h
  named_ok (as_ ∷ scope) [] asked h = absurd h

  pub var_ok : (asked : List ℕ) (w : Want) (scope : KindScope) (path : List PathPart) (names : BoundOutcomes)
      (world : World) → NamesOf S scope names →
      NodeOf S w (fitted w (own_named scope asked) no_faults path) (var_of asked w names world)
  var_ok asked w scope path names world n = finish_ok S w (own_named scope asked) no_faults path
      (named names asked) (λ all. named_ok scope names asked n)

  -- ---- bindings

  binding_given : (bs : List (List ℕ)) (m k : ℕ) (v : Want) (names : BoundOutcomes) (world : World) (l : Option Data)
      (j : Kind) (me : Meaning) → is_last m k ≡ false → ArgumentOf S (want_of (wanted_by (ops.Let bs) m k) v)
      false l j (argument_of (ops.Let bs) m k me v names world) →
      OutcomeOf S wants.Any j (me wants.Any names world)
  binding_given bs m k v names world l j me q h =
      outcome_of S wants.Any false l j (me wants.Any names world) (subst
      (λ x. ArgumentOf S x false l j (me x names world)) (want_if_own (is_last m k) wants.Any v q) h)

  -- names that are bound, with kinds and with outcomes
  pub frame_ok : (bs : List (List ℕ)) (xs : List (List ℕ)) (m k : ℕ) (v : Want) (names : BoundOutcomes) (world : World)
      (ls : List (Option Data)) (js : List Kind) (ms : List Meaning) → k + length ms < m →
      AreGiven S (ops.Let bs) m k v names world ls js ms →
      FrameOf S (frame xs js) (bound xs (outcomes_of ms names world))
  frame_ok bs [] m k v names world ls js ms within h = tt
  frame_ok bs (x ∷ xs) m k v names world [] [] [] within h = tt
  frame_ok bs (x ∷ xs) m k v names world (l ∷ ls) (j ∷ js) (me ∷ ms) within h = (
    refl,
    binding_given bs m k v names world l j me (ne_eqb (k + 1) m (λ e. omega (arith, within, e))) h.0,
    frame_ok bs xs m (k + 1) v names world ls js ms (omega (arith, within)) h.1,
  )
  frame_ok bs (x ∷ xs) m k v names world [] [] (me ∷ ms) within h = absurd h
  frame_ok bs (x ∷ xs) m k v names world [] (j ∷ js) ms within h = absurd h
  frame_ok bs (x ∷ xs) m k v names world (l ∷ ls) [] ms within h = absurd h
  frame_ok bs (x ∷ xs) m k v names world (l ∷ ls) (j ∷ js) [] within h = absurd h

  -- ---- the body

  looked_result : (w v : Want) (l : Option Data) (r : Typed) (o : Evaluated) → LookedIn S w false l r o →
      ResultOf S w r o
  looked_result w v l (Ok found) o h = λ all. outcome_of S w false l found.node.kind o (h all)
  looked_result w v l (Err e) o h = tt

  body_given : (bs : List (List ℕ)) (t : Typing) (me : Meaning) → Agree S t me →
      (w : Want) (scope : KindScope) (path : List PathPart) (names : BoundOutcomes) (world : World) →
      NamesOf S scope names →
      ResultOf S w (argument_typed (ops.Let bs) (length bs + 1) (length bs) t w scope path) (me w names world)
  body_given bs t me h w scope path names world n =
      let last : is_last (length bs + 1) (length bs) ≡ true = eq-eqb (length bs + 1) (length bs + 1) refl in
      let given : LookedIn S (want_of (wanted_by (ops.Let bs) (length bs + 1) (length bs)) w) false None
      (argument_typed (ops.Let bs) (length bs + 1) (length bs) t w scope path)
      (me (want_of (wanted_by (ops.Let bs) (length bs + 1) (length bs)) w) names world) =
      argument_ok S (ops.Let bs) (length bs + 1) (length bs) None t me h (λ w names world. tt) w scope
      path names world n in
      looked_result w w None (argument_typed (ops.Let bs) (length bs + 1) (length bs) t w scope path)
      (me w names world)
      (subst (λ x. LookedIn S x false None (argument_typed (ops.Let bs) (length bs + 1) (length bs) t w scope
      path) (me x names world)) (want_if_node (is_last (length bs + 1) (length bs)) wants.Any w last)
      given)

  with_ok : (w : Want) (founds : List TypedNodes) (r : Typed) (o : Evaluated) →
      (Within S (all_may founds) → ResultOf S w r o) → ResultOf S w (with_bindings w founds r) o
  with_ok w founds (Ok body) o h = λ all. branch_ok S w body.node.kind o (h
      (within_left S (all_may founds) body.node.may all) (within_right S (all_may founds) body.node.may all))
  with_ok w founds (Err e) o h = tt

  body_ok : (bs : List (List ℕ)) (ts : List Typing) (ms : List Meaning) → AllAgree S ts ms →
      (founds : List TypedNodes) (outcomes : List Evaluated) (w : Want) (scope : KindScope) (path : List PathPart)
      (names : BoundOutcomes) (world : World) → NamesOf S scope names →
      (Within S (all_may founds) → FrameOf S (frame bs (kinds_in founds)) (bound bs outcomes)) →
      ResultOf S w (body_typed bs ts founds w scope path) (body_of ms w (bound bs outcomes ∷ names) world)
  body_ok bs [] ms h founds outcomes w scope path names world n frames = tt
  body_ok bs (t ∷ []) (me ∷ []) h founds outcomes w scope path names world n frames =
      with_ok w founds (argument_typed (ops.Let bs) (length bs + 1) (length bs) t w
      (frame bs (kinds_in founds) ∷ scope) path) (me w (bound bs outcomes ∷ names) world)
      (λ all. body_given bs t me h.0 w (frame bs (kinds_in founds) ∷ scope) path (bound bs outcomes ∷ names)
      world (frames all, n))
  body_ok bs (t ∷ t' ∷ ts) ms h founds outcomes w scope path names world n frames = tt
  body_ok bs (t ∷ []) [] h founds outcomes w scope path names world n frames = absurd h
  body_ok bs (t ∷ []) (me ∷ me' ∷ ms) h founds outcomes w scope path names world n frames = absurd h.1

  pub take_agree : (n : ℕ) (ts : List Typing) (ms : List Meaning) → AllAgree S ts ms →
      AllAgree S (take n ts) (take n ms)
  take_agree zero [] [] h = tt
  take_agree zero (t ∷ ts) (me ∷ ms) h = tt
  take_agree (suc n) [] [] h = tt
  take_agree (suc n) (t ∷ ts) (me ∷ ms) h = (h.0, take_agree n ts ms h.1)
  take_agree n [] (me ∷ ms) h = absurd h
  take_agree n (t ∷ ts) [] h = absurd h

  drop_agree : (n : ℕ) (ts : List Typing) (ms : List Meaning) → AllAgree S ts ms →
      AllAgree S (drop n ts) (drop n ms)
  drop_agree zero [] [] h = tt
  drop_agree zero (t ∷ ts) (me ∷ ms) h = h
  drop_agree (suc n) [] [] h = tt
  drop_agree (suc n) (t ∷ ts) (me ∷ ms) h = drop_agree n ts ms h.1
  drop_agree n [] (me ∷ ms) h = absurd h
  drop_agree n (t ∷ ts) [] h = absurd h

  pub take_literals : (n : ℕ) (ls : List (Option Data)) (ms : List Meaning) → LiteralsOf ls ms →
      LiteralsOf (take n ls) (take n ms)
  take_literals zero [] [] h = tt
  take_literals zero (l ∷ ls) (me ∷ ms) h = tt
  take_literals (suc n) [] [] h = tt
  take_literals (suc n) (l ∷ ls) (me ∷ ms) h = (h.0, take_literals n ls ms h.1)
  take_literals n [] (me ∷ ms) h = absurd h
  take_literals n (l ∷ ls) [] h = absurd h

  pub let_ok : (bs : List (List ℕ)) (ls : List (Option Data)) (ts : List Typing) (ms : List Meaning) →
      length ts ≡ length bs + 1 → LiteralsOf ls ms → AllAgree S ts ms →
      (w : Want) (scope : KindScope) (path : List PathPart) (names : BoundOutcomes) (world : World) →
      NamesOf S scope names → ResultOf S w (let_typed bs ts w scope path) (let_of bs ms w names world)
  let_ok bs ls ts ms e g h w scope path names world n =
      let b = length bs in
      then_ok S (ops.Let bs) (length ts) 0 w w names world (take b ls) (take b ms)
      (founds_of (ops.Let bs) (length ts) 0 (take b ts) w scope path)
      (λ founds. body_typed bs (drop b ts) founds w scope path) (let_of bs ms w names world)
      (founds_ok S (ops.Let bs) (length ts) 0 (take b ls) (take b ts) (take b ms) (take_literals b ls ms g)
      (take_agree b ts ms h) w scope path names world n)
      (λ founds given. body_ok bs (drop b ts) (drop b ms) (drop_agree b ts ms h) founds
      (outcomes_of (take b ms) names world) w scope path names world n
      (λ all. frame_ok bs bs (length ts) 0 w names world (take b ls) (kinds_in founds) (take b ms)
      (let q = take_within b ms in omega (arith, q, e)) (given (within_all S founds all))))
