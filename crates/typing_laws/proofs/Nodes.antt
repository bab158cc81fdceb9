-- Nodes, by what their operator gives of the arguments.
use Rattle.std.proofs.Common.{◌≡◌, ℕ, ◌+◌, suc, List, [], ◌∷◌, length, Bool, true, false, Option, Result, Ok, Err, refl, ap, subst, ◌∙◌}
use Rattle.decimal_json.specs.declared.paths.PathPart.{PathPart}
use Rattle.prop_values.specs.Data.{Data}
use Rattle.prop_values.specs.Faults.{holds}
use Rattle.prop_values.specs.declared.fault.EvalFault.{EvalFault}
use Rattle.prop_values.specs.declared.fault.FaultSet.{FaultSet}
use Rattle.prop_values.specs.declared.kinds.Kind.{Kind}
use Rattle.prop_values.specs.declared.kinds.Want.{Want}
use Rattle.prop_values.specs.declared.kinds.Want.TheVariants as wants
use Rattle.property_tables.specs.Fitting.{fit}
use Rattle.expr_syntax.specs.declared.expression.Operator.{Operator}
use Rattle.expr_syntax.specs.Operators.{wanted_by, want_of}
use Rattle.expr_types.specs.OwnTable.{own}
use Rattle.expr_types.specs.Sequences.{sequence_fit}
use Rattle.expr_types.specs.Typing.{TypedNodes, KindScope, Typing, handed, unless_misfit, own_where, is_sequence_of, founds_of, kinds_in, all_may, finished, finished_node, is_branching, plain_typed, all_places}
use Rattle.expr_types.specs.declared.fits.Fit.{Fit}
use Rattle.expr_types.specs.declared.fits.Fit.TheVariants.{Always, Maybe, Never}
use Rattle.expr_types.specs.declared.own.Own.{Own}
use Rattle.operator_values.specs.Evaluated.{Evaluated, then_value}
use Rattle.eval_face.specs.Meanings.{Meaning, argument_of, then_values, and_values, values_of}
use Rattle.eval_face.specs.Names.{BoundOutcomes}
use Rattle.eval_face.specs.World.{World}
use Rattle.typing_laws.proofs.Sets.{Within}
use Rattle.typing_laws.proofs.Outcomes.{ResultOf, OwnIn, BranchIn, below_ok, finish_ok, branched_ok}
use Rattle.typing_laws.proofs.Arguments.{NamesOf, AllAgree, LiteralsOf, ArgumentOf, AreGiven, AllOf, FoundsIn, IsSoundNode, Applies, founds_ok, within_all, then_ok}

-- the values of all arguments, or a fault that is listed
abbrev ValuesIn : FaultSet → Operator → ℕ → ℕ → Want → List (Option Data) → List Kind →
    Result (List Data) EvalFault → Type 0
ValuesIn S op m k w ls js (Ok ds) = AllOf op m k w ls js ds
ValuesIn S op m k w ls js (Err f) = holds S f ≡ true

module _ (S : FaultSet) where
  pub agree_length : (ts : List Typing) (ms : List Meaning) → AllAgree S ts ms → length ts ≡ length ms
  agree_length [] [] h = refl
  agree_length (t ∷ ts) (me ∷ ms) h = ap suc (agree_length ts ms h.1)
  agree_length [] (me ∷ ms) h = absurd h
  agree_length (t ∷ ts) [] h = absurd h

  node_founds : (op : Operator) (ls : List (Option Data)) (ts : List Typing) (ms : List Meaning) →
      LiteralsOf ls ms → AllAgree S ts ms →
      (w : Want) (scope : KindScope) (path : List PathPart) (names : BoundOutcomes) (world : World) →
      NamesOf S scope names →
      FoundsIn S op (length ms) 0 (handed op w) names world ls ms (founds_of op (length ts) 0 ts w scope path)
  node_founds op ls ts ms g h w scope path names world n =
      subst (λ (m : ℕ). FoundsIn S op m 0 (handed op w) names world ls ms
      (founds_of op (length ts) 0 ts w scope path)) (agree_length ts ms h)
      (founds_ok S op (length ts) 0 ls ts ms g h w scope path names world n)

  -- ---- nodes, by what their operator gives of the arguments

  -- where a text or a list is asked, a node has a code more at most
  fit_kept : (f : Fit) (w : Want) (own' : Own) (o : Evaluated) → OwnIn S w own' o →
      OwnIn S w (unless_misfit f own') o
  fit_kept Always w own' o h = h
  fit_kept Maybe w own' o h = h
  fit_kept Never w own' o h = λ none. absurd (cc)

  own_kept : (asked : Bool) (w : Want) (own' : Own) (o : Evaluated) → OwnIn S w own' o →
      OwnIn S w (own_where asked own') o
  own_kept true w own' o h = fit_kept (sequence_fit own'.kind) w own' o h
  own_kept false w own' o h = h

  branch_fit_kept : (f : Fit) (w : Want) (own' : Own) (o : Evaluated) → BranchIn S w own' o →
      BranchIn S w (unless_misfit f own') o
  branch_fit_kept Always w own' o h = h
  branch_fit_kept Maybe w own' o h = h
  branch_fit_kept Never w own' o h = λ none. absurd (cc)

  branch_kept : (asked : Bool) (w : Want) (own' : Own) (o : Evaluated) → BranchIn S w own' o →
      BranchIn S w (own_where asked own') o
  branch_kept true w own' o h = branch_fit_kept (sequence_fit own'.kind) w own' o h
  branch_kept false w own' o h = h

  fitted_by : (b : Bool) → b ≡ false →
      (op : Operator) (w : Want) (own' : Own) (founds : List TypedNodes) (path : List PathPart) (o : Evaluated) →
      is_branching op ≡ b → (Within S (all_may founds) → OwnIn S wants.Any own' o) →
      ResultOf S w (finished op w own' founds path) (then_value o (fit w))
  fitted_by b q op w own' founds path o e h =
      below_ok S w (all_places founds) (finished_node op w own' (all_may founds) path) (then_value o (fit w))
      (rw (e, q) (finish_ok S w own' (all_may founds) path o h))

  branched_by : (b : Bool) → b ≡ true →
      (op : Operator) (w : Want) (own' : Own) (founds : List TypedNodes) (path : List PathPart) (o : Evaluated) →
      is_branching op ≡ b → (Within S (all_may founds) → BranchIn S w own' o) →
      ResultOf S w (finished op w own' founds path) o
  branched_by b q op w own' founds path o e h =
      below_ok S w (all_places founds) (finished_node op w own' (all_may founds) path) o
      (rw (e, q) (branched_ok S w own' (all_may founds) path o h))

  pub fitted_node : (op : Operator) → is_branching op ≡ false →
      (ls : List (Option Data)) (ts : List Typing) (ms : List Meaning) → LiteralsOf ls ms → AllAgree S ts ms →
      (asked : Bool) (w : Want) (scope : KindScope) (path : List PathPart) (names : BoundOutcomes) (world : World) →
      NamesOf S scope names → (o : Evaluated) → ((js : List Kind) → AreGiven S op (length ms) 0 (handed op w)
      names world ls js ms → OwnIn S wants.Any (own op w ls js) o) →
      ResultOf S w (plain_typed op ls ts asked w scope path) (then_value o (fit w))
  fitted_node op plain ls ts ms g h asked w scope path names world n o law =
      then_ok S op (length ms) 0 w (handed op w) names world ls ms
      (founds_of op (length ts) 0 ts w scope path)
      (λ founds. finished op w (own_where asked (own op w ls (kinds_in founds))) founds path) (then_value o (fit w))
      (node_founds op ls ts ms g h w scope path names world n)
      (λ founds given. fitted_by false refl op w (own_where asked (own op w ls (kinds_in founds))) founds path o
      plain (λ all. own_kept asked wants.Any (own op w ls (kinds_in founds)) o
      (law (kinds_in founds) (given (within_all S founds all)))))

  pub branched_node : (op : Operator) → is_branching op ≡ true →
      (ls : List (Option Data)) (ts : List Typing) (ms : List Meaning) → LiteralsOf ls ms → AllAgree S ts ms →
      (asked : Bool) (w : Want) (scope : KindScope) (path : List PathPart) (names : BoundOutcomes) (world : World) →
      NamesOf S scope names → (o : Evaluated) → ((js : List Kind) → AreGiven S op (length ms) 0 (handed op w)
      names world ls js ms → BranchIn S w (own op w ls js) o) →
      ResultOf S w (plain_typed op ls ts asked w scope path) o
  branched_node op branching ls ts ms g h asked w scope path names world n o law =
      then_ok S op (length ms) 0 w (handed op w) names world ls ms
      (founds_of op (length ts) 0 ts w scope path)
      (λ founds. finished op w (own_where asked (own op w ls (kinds_in founds))) founds path) o
      (node_founds op ls ts ms g h w scope path names world n)
      (λ founds given. branched_by true refl op w (own_where asked (own op w ls (kinds_in founds))) founds path o
      branching (λ all. branch_kept asked w (own op w ls (kinds_in founds)) o
      (law (kinds_in founds) (given (within_all S founds all)))))

  -- ---- all arguments evaluated

  and_values_ok : (op : Operator) (m k : ℕ) (w : Want) (l : Option Data) (ls : List (Option Data)) (j : Kind)
      (js : List Kind) (o : Evaluated) (os : Result (List Data) EvalFault) →
      ArgumentOf S (want_of (wanted_by op m k) w) (is_sequence_of op k) l j o →
      ValuesIn S op m (k + 1) w ls js os → ValuesIn S op m k w (l ∷ ls) (j ∷ js) (and_values o os)
  and_values_ok op m k w l ls j js (Ok d) (Ok ds) h g = (h, g)
  and_values_ok op m k w l ls j js (Ok d) (Err f) h g = g
  and_values_ok op m k w l ls j js (Err f) os h g = h

  values_ok : (op : Operator) (m k : ℕ) (w : Want) (names : BoundOutcomes) (world : World) (ls : List (Option Data))
      (js : List Kind) (ms : List Meaning) → AreGiven S op m k w names world ls js ms →
      ValuesIn S op m k w ls js (values_of op m k ms w names world)
  values_ok op m k w names world [] [] [] h = tt
  values_ok op m k w names world (l ∷ ls) (j ∷ js) (me ∷ ms) h = and_values_ok op m k w l ls j js
      (argument_of op m k me w names world) (values_of op m (k + 1) ms w names world) h.0
      (values_ok op m (k + 1) w names world ls js ms h.1)
  values_ok op m k w names world [] (j ∷ js) ms h = absurd h
  values_ok op m k w names world [] [] (me ∷ ms) h = absurd h
  values_ok op m k w names world (l ∷ ls) [] ms h = absurd h
  values_ok op m k w names world (l ∷ ls) (j ∷ js) [] h = absurd h

  pub given_length : (op : Operator) (m k : ℕ) (w : Want) (names : BoundOutcomes) (world : World)
      (ls : List (Option Data)) (js : List Kind) (ms : List Meaning) →
      AreGiven S op m k w names world ls js ms → length ms ≡ length js
  given_length op m k w names world [] [] [] h = refl
  given_length op m k w names world (l ∷ ls) (j ∷ js) (me ∷ ms) h = ap suc
      (given_length op m (k + 1) w names world ls js ms h.1)
  given_length op m k w names world [] (j ∷ js) ms h = absurd h
  given_length op m k w names world [] [] (me ∷ ms) h = absurd h
  given_length op m k w names world (l ∷ ls) [] ms h = absurd h
  given_length op m k w names world (l ∷ ls) (j ∷ js) [] h = absurd h

  all_length : (op : Operator) (m k : ℕ) (w : Want) (ls : List (Option Data)) (js : List Kind)
      (ds : List Data) → AllOf op m k w ls js ds → length js ≡ length ds
  all_length op m k w [] [] [] h = refl
  all_length op m k w (l ∷ ls) (j ∷ js) (d ∷ ds) h = ap suc (all_length op m (k + 1) w ls js ds h.1)
  all_length op m k w [] (j ∷ js) ds h = absurd h
  all_length op m k w [] [] (d ∷ ds) h = absurd h
  all_length op m k w (l ∷ ls) [] ds h = absurd h
  all_length op m k w (l ∷ ls) (j ∷ js) [] h = absurd h

  applied_ok : (op : Operator) (apply : World → List Data → Evaluated) → Applies S op apply →
      (bound : List (List ℕ)) (m : ℕ) → IsSoundNode bound op m →
      (w : Want) (world : World) (ls : List (Option Data)) (js : List Kind) → m ≡ length js →
      (r : Result (List Data) EvalFault) → ValuesIn S op m 0 w ls js r →
      OwnIn S wants.Any (own op w ls js) (then_values r (apply world))
  applied_ok op apply law bound m sound w world ls js q (Ok ds) h =
      let e : m ≡ length ds = q ∙ all_length op m 0 w ls js ds h in
      law bound w world ls js ds (subst (λ (n : ℕ). IsSoundNode bound op n) e sound)
      (subst (λ (n : ℕ). AllOf op n 0 w ls js ds) e h)
  applied_ok op apply law bound m sound w world ls js q (Err f) h = λ none all. h

  then_same : (r : Result (List Data) EvalFault) (apply : List Data → Evaluated) (w : Want) →
      then_value (then_values r apply) (fit w) ≡ then_values r (λ ds. then_value (apply ds) (fit w))
  then_same (Ok ds) apply w = refl
  then_same (Err f) apply w = refl

  pub each_node : (op : Operator) → is_branching op ≡ false → ((w : Want) → handed op w ≡ w) →
      (apply : World → List Data → Evaluated) → Applies S op apply →
      (bound : List (List ℕ)) (ls : List (Option Data)) (ts : List Typing) (ms : List Meaning) →
      IsSoundNode bound op (length ms) → LiteralsOf ls ms → AllAgree S ts ms →
      (asked : Bool) (w : Want) (scope : KindScope) (path : List PathPart) (names : BoundOutcomes) (world : World) →
      NamesOf S scope names → ResultOf S w (plain_typed op ls ts asked w scope path)
      (then_values (values_of op (length ms) 0 ms w names world) (λ ds. then_value (apply world ds) (fit w)))
  each_node op plain own_want apply law bound ls ts ms sound g h asked w scope path names world n =
      subst (λ o. ResultOf S w (plain_typed op ls ts asked w scope path) o)
      (then_same (values_of op (length ms) 0 ms w names world) (apply world) w)
      (fitted_node op plain ls ts ms g h asked w scope path names world n
      (then_values (values_of op (length ms) 0 ms w names world) (apply world))
      (λ js given.
      let given' = subst (λ v. AreGiven S op (length ms) 0 v names world ls js ms) (own_want w) given in
      applied_ok op apply law bound (length ms) sound w world ls js
      (given_length op (length ms) 0 w names world ls js ms given')
      (values_of op (length ms) 0 ms w names world)
      (values_ok op (length ms) 0 w names world ls js ms given')))
