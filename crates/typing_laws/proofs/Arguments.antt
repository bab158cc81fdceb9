-- The arguments of a node: what is known of each, and what each gives.
use Rattle.std.proofs.Common.{◌≡◌, ℕ, ◌+◌, List, [], ◌∷◌, length, Bool, true, false, nat_eq, Option, Some, None, Result, Ok, Err, refl, subst, arith}
use Rattle.decimal_json.specs.declared.paths.PathPart.{PathPart}
use Rattle.prop_values.specs.Data.{Data, text, list}
use Rattle.prop_values.specs.Faults.{holds, no_faults, one_fault, union}
use Rattle.prop_values.specs.declared.fault.EvalFault.TheVariants as faults
use Rattle.prop_values.specs.declared.fault.FaultSet.{FaultSet}
use Rattle.prop_values.specs.declared.kinds.Kind.{Kind}
use Rattle.prop_values.specs.declared.kinds.Kind.TheVariants as kinds
use Rattle.prop_values.specs.declared.kinds.Want.{Want}
use Rattle.prop_values.specs.declared.kinds.Want.TheVariants as wants
use Rattle.property_tables.specs.Fitting.{fit}
use Rattle.expr_syntax.specs.declared.expression.Operator.{Operator}
use Rattle.expr_syntax.specs.declared.rows.Wanted.{Wanted}
use Rattle.expr_syntax.specs.declared.rows.Wanted.TheVariants.{Own as OwnWant, OfNode}
use Rattle.expr_syntax.specs.Names.{row}
use Rattle.expr_syntax.specs.Operators.{operator_name, wanted_by, want_of}
use Rattle.expr_syntax.specs.ReadTerms.{elements_behind, HasSoundParts}
use Rattle.expr_syntax.specs.Rows.{allows}
use Rattle.expr_types.specs.ArgumentPaths.{argument_path}
use Rattle.expr_types.specs.Fits.{wanted_kind}
use Rattle.expr_types.specs.OwnTable.{own}
use Rattle.expr_types.specs.Sequences.{sequence_fit}
use Rattle.expr_types.specs.Typing.{TypedNodes, Typed, KindScope, Typing, handed, with_below, with_misfit, is_place, is_sequence_of, looked_at as typed_look, argument_typed, and_found, founds_of, kinds_in, may_after, all_may, then_found}
use Rattle.expr_types.specs.declared.fault.TypeFault.{TypeFault}
use Rattle.expr_types.specs.declared.fits.Fit.{Fit}
use Rattle.expr_types.specs.declared.fits.Fit.TheVariants.{Always, Maybe, Never}
use Rattle.expr_types.specs.declared.placed.Placed.{Placed}
use Rattle.expr_types.specs.declared.placed.Kinded.{Kinded}
use Rattle.operator_values.specs.Evaluated.{Evaluated, then_value}
use Rattle.eval_face.specs.Meanings.{Meaning, as_sequence, is_sequence, looked_at, argument_of}
use Rattle.eval_face.specs.Names.{BoundOutcomes}
use Rattle.eval_face.specs.World.{World}
use Rattle.typing_laws.specs.OfKind.{is_of}
use Rattle.typing_laws.proofs.Sets.{Within, within_left, within_right}
use Rattle.typing_laws.proofs.Outcomes.{OutcomeOf, ResultOf, OwnIn}

-- ---- what is said of scopes, and of expressions in them

-- the names of one `let`, with kinds and with outcomes
abbrev pub FrameOf : FaultSet → List (List ℕ × Kind) → List (List ℕ × Evaluated) → Type 0
FrameOf S [] [] = Unit {0}
FrameOf S (a ∷ as_) (b ∷ bs) = (a.0 ≡ b.0) × OutcomeOf S wants.Any a.1 b.1 × FrameOf S as_ bs
FrameOf S _ _ = ⊥

abbrev pub NamesOf : FaultSet → KindScope → BoundOutcomes → Type 0
NamesOf S [] [] = Unit {0}
NamesOf S (as_ ∷ scope) (bs ∷ names) = FrameOf S as_ bs × NamesOf S scope names
NamesOf S _ _ = ⊥

abbrev pub Agree : FaultSet → Typing → Meaning → Type 0
Agree S t m =
    (asked : Bool) (w : Want) (scope : KindScope) (path : List PathPart) (names : BoundOutcomes) (world : World) →
    NamesOf S scope names →
    ResultOf S w (t asked w scope path) (m w names world)

abbrev pub AllAgree : FaultSet → List Typing → List Meaning → Type 0
AllAgree S [] [] = Unit {0}
AllAgree S (t ∷ ts) (m ∷ ms) = Agree S t m × AllAgree S ts ms
AllAgree S _ _ = ⊥

-- the outcome of a literal is that value, fitted
abbrev pub LiteralIn : Option Data → Want → Evaluated → Type 0
LiteralIn None w o = Unit {0}
LiteralIn (Some d) w o = o ≡ fit w d

abbrev pub LiteralMeans : Option Data → Meaning → Type 0
LiteralMeans l m = (w : Want) (names : BoundOutcomes) (world : World) → LiteralIn l w (m w names world)

abbrev pub LiteralsOf : List (Option Data) → List Meaning → Type 0
LiteralsOf [] [] = Unit {0}
LiteralsOf (l ∷ ls) (m ∷ ms) = LiteralMeans l m × LiteralsOf ls ms
LiteralsOf _ _ = ⊥

-- ---- what an argument gives

abbrev pub is_text_or_list : Data → Bool
is_text_or_list (text s) = true
is_text_or_list (list ds) = true
is_text_or_list _ = false

abbrev Formed : Bool → Data → Type 0
Formed true d = is_text_or_list d ≡ true
Formed false d = Unit {0}

-- a value of an argument that is wanted as w, of kind k: is it a text or list where one is asked, and the
-- literal where there is one
pub record IsGiven (w : Want) (asked : Bool) (l : Option Data) (k : Kind) (d : Data) : Type 0 where
  pub wanted : is_of (wanted_kind w) d ≡ true
  pub kind : is_of k d ≡ true
  pub formed : Formed asked d
  pub literal : LiteralIn l w (Ok d)

abbrev pub ArgumentOf : FaultSet → Want → Bool → Option Data → Kind → Evaluated → Type 0
ArgumentOf S w asked l k (Ok d) = IsGiven w asked l k d
ArgumentOf S w asked l k (Err f) = holds S f ≡ true

abbrev pub LookedIn : FaultSet → Want → Bool → Option Data → Typed → Evaluated → Type 0
LookedIn S w asked l (Ok found) o = Within S found.node.may → ArgumentOf S w asked l found.node.kind o
LookedIn S w asked l (Err e) o = Unit {0}

-- all arguments from place k on, by their kinds and literals
abbrev pub AreGiven : FaultSet → Operator → ℕ → ℕ → Want → BoundOutcomes → World → List (Option Data) → List Kind →
    List Meaning → Type 0
AreGiven S op m k w names world [] [] [] = Unit {0}
AreGiven S op m k w names world (l ∷ ls) (j ∷ js) (me ∷ ms) =
    ArgumentOf S (want_of (wanted_by op m k) w) (is_sequence_of op k) l j
    (argument_of op m k me w names world)
    × AreGiven S op m (k + 1) w names world ls js ms
AreGiven S op m k w names world _ _ _ = ⊥

-- their values
abbrev pub AllOf : Operator → ℕ → ℕ → Want → List (Option Data) → List Kind → List Data → Type 0
AllOf op m k w [] [] [] = Unit {0}
AllOf op m k w (l ∷ ls) (j ∷ js) (d ∷ ds) = IsGiven (want_of (wanted_by op m k) w) (is_sequence_of op k) l j d
    × AllOf op m (k + 1) w ls js ds
AllOf op m k w _ _ _ = ⊥

abbrev pub WithinAll : FaultSet → List TypedNodes → Type 0
WithinAll S [] = Unit {0}
WithinAll S (found ∷ founds) = Within S found.node.may × WithinAll S founds

abbrev pub FoundsIn : FaultSet → Operator → ℕ → ℕ → Want → BoundOutcomes → World → List (Option Data) → List Meaning →
    Result (List TypedNodes) TypeFault → Type 0
FoundsIn S op m k w names world ls ms (Ok founds) = WithinAll S founds → AreGiven S op m k w names world ls
    (kinds_in founds) ms
FoundsIn S op m k w names world ls ms (Err e) = Unit {0}

-- a node of an expression that was read, with m arguments
pub record IsSoundNode (bound : List (List ℕ)) (op : Operator) (m : ℕ) : Type 0 where
  pub arity : allows (row (operator_name op)).arity (elements_behind op m) ≡ true
  pub parts : HasSoundParts bound op m

-- an operator all of whose arguments are evaluated, and what it gives of their values
abbrev pub Applies : FaultSet → Operator → (World → List Data → Evaluated) → Type 0
Applies S op apply =
    (bound : List (List ℕ)) (w : Want) (world : World) (ls : List (Option Data)) (js : List Kind)
    (ds : List Data) →
    IsSoundNode bound op (length ds) → AllOf op (length ds) 0 w ls js ds → OwnIn S wants.Any (own op w ls js)
    (apply world ds)

same_test : (a b : ℕ) → nat_eq a b ≡ nat_eq b a
same_test a b = grind arith

same_place : (p : Option ℕ) (k : ℕ) → is_place p k ≡ is_sequence p k
same_place (Some place) k = same_test k place
same_place None k = refl

module _ (S : FaultSet) where
  -- ---- a text or list

  abbrev FormIn : Fit → Data → Type 0
  FormIn Always d = is_text_or_list d ≡ true
  FormIn _ d = Unit {0}

  sequence_ok : (k : Kind) (d : Data) → is_of k d ≡ true → FormIn (sequence_fit k) d
  sequence_ok kinds.Text (text s) h = refl
  sequence_ok kinds.Text _ h = absurd (cc)
  sequence_ok (kinds.List i n) (list ds) h = refl
  sequence_ok (kinds.List i n) _ h = absurd (cc)
  sequence_ok _ d h = tt

  sequence_given : (w : Want) (l : Option Data) (k : Kind) (d : Data) → OutcomeOf S w k (Ok d) →
      LiteralIn l w (Ok d) → is_text_or_list d ≡ true → ArgumentOf S w true l k (as_sequence d)
  sequence_given w l k (text s) h g f = record { wanted = h.0; kind = h.1; formed = refl; literal = g }
  sequence_given w l k (list ds) h g f = record { wanted = h.0; kind = h.1; formed = refl; literal = g }
  sequence_given w l k _ h g f = absurd (cc)

  sequence_or : (w : Want) (l : Option Data) (k : Kind) (d : Data) → OutcomeOf S w k (Ok d) →
      LiteralIn l w (Ok d) → holds S faults.WrongType ≡ true → ArgumentOf S w true l k (as_sequence d)
  sequence_or w l k (text s) h g f = record { wanted = h.0; kind = h.1; formed = refl; literal = g }
  sequence_or w l k (list ds) h g f = record { wanted = h.0; kind = h.1; formed = refl; literal = g }
  sequence_or w l k _ h g f = f

  misfit_ok : (f : Fit) (w : Want) (l : Option Data) (k : Kinded) (below : List Placed) (path : List PathPart)
      (o : Evaluated) → ((d : Data) → is_of k.kind d ≡ true → FormIn f d) →
      (Within S k.may → OutcomeOf S w k.kind o) → LiteralIn l w o →
      LookedIn S w true l (with_below below (with_misfit f k path)) (then_value o as_sequence)
  misfit_ok Always w l k below path (Ok d) form h g = λ all. sequence_given w l k.kind d (h all) g
      (form d (h all).1)
  misfit_ok Always w l k below path (Err e) form h g = λ all. h all
  misfit_ok Maybe w l k below path (Ok d) form h g = λ all. sequence_or w l k.kind d
      (h (within_left S k.may (one_fault faults.WrongType) all)) g
      (within_right S k.may (one_fault faults.WrongType) all faults.WrongType refl)
  misfit_ok Maybe w l k below path (Err e) form h g = λ all. h
      (within_left S k.may (one_fault faults.WrongType) all)
  misfit_ok Never w l k below path o form h g = tt

  plain_given : (w : Want) (l : Option Data) (k : Kind) (o : Evaluated) → OutcomeOf S w k o →
      LiteralIn l w o → ArgumentOf S w false l k o
  plain_given w l k (Ok d) h g = record { wanted = h.0; kind = h.1; formed = tt; literal = g }
  plain_given w l k (Err f) h g = h

  looked_ok : (asked : Bool) (w : Want) (l : Option Data) (r : Typed) (path : List PathPart) (o : Evaluated) →
      ResultOf S w r o → LiteralIn l w o → LookedIn S w asked l (typed_look asked r path) (looked_at asked o)
  looked_ok true w l (Ok found) path o h g = misfit_ok (sequence_fit found.node.kind) w l found.node
      found.below path o (λ d q. sequence_ok found.node.kind d q) h g
  looked_ok true w l (Err e) path o h g = tt
  looked_ok false w l (Ok found) path o h g = λ all. plain_given w l found.node.kind o (h all) g
  looked_ok false w l (Err e) path o h g = tt

  -- ---- one argument, and all of them

  argument_by : (x y : Want) → x ≡ y → (a b : Bool) → a ≡ b → (l : Option Data) (t : Typing) (me : Meaning) →
      Agree S t me → LiteralMeans l me →
      (scope : KindScope) (path : List PathPart) (names : BoundOutcomes) (world : World) → NamesOf S scope names →
      LookedIn S y a l (typed_look a (t a x scope path) path) (looked_at b (me y names world))
  argument_by x y e a b q l t me h g scope path names world n =
      subst (λ c. LookedIn S y a l (typed_look a (t a x scope path) path) (looked_at c (me y names world))) q
      (subst (λ v. LookedIn S v a l (typed_look a (t a x scope path) path) (looked_at a (me v names world))) e
      (looked_ok a x l (t a x scope path) path (me x names world) (h a x scope path names world n)
      (g x names world)))

  pub argument_ok : (op : Operator) (m k : ℕ) (l : Option Data) (t : Typing) (me : Meaning) → Agree S t me →
      LiteralMeans l me → (w : Want) (scope : KindScope) (path : List PathPart) (names : BoundOutcomes) (world : World) →
      NamesOf S scope names → LookedIn S (want_of (wanted_by op m k) (handed op w)) (is_sequence_of op k) l
      (argument_typed op m k t w scope path) (argument_of op m k me (handed op w) names world)
  argument_ok op m k l t me h g w scope path names world n =
      argument_by (want_of (wanted_by op m k) (handed op w)) (want_of (wanted_by op m k) (handed op w))
      refl
      (is_sequence_of op k) (is_sequence (row (operator_name op)).sequence k)
      (same_place (row (operator_name op)).sequence k)
      l t me h g scope (argument_path op m k path) names world n

  found_step : (op : Operator) (m k : ℕ) (w : Want) (names : BoundOutcomes) (world : World) (l : Option Data)
      (ls : List (Option Data)) (me : Meaning) (ms : List Meaning) (r : Typed)
      (rs : Result (List TypedNodes) TypeFault) → LookedIn S (want_of (wanted_by op m k) w) (is_sequence_of op k) l
      r (argument_of op m k me w names world) → FoundsIn S op m (k + 1) w names world ls ms rs →
      FoundsIn S op m k w names world (l ∷ ls) (me ∷ ms) (and_found r rs)
  found_step op m k w names world l ls me ms (Ok found) (Ok founds) h g = λ all. (h all.0, g all.1)
  found_step op m k w names world l ls me ms (Ok found) (Err e) h g = tt
  found_step op m k w names world l ls me ms (Err e) rs h g = tt

  pub founds_ok : (op : Operator) (m k : ℕ) (ls : List (Option Data)) (ts : List Typing) (ms : List Meaning) →
      LiteralsOf ls ms → AllAgree S ts ms →
      (w : Want) (scope : KindScope) (path : List PathPart) (names : BoundOutcomes) (world : World) →
      NamesOf S scope names →
      FoundsIn S op m k (handed op w) names world ls ms (founds_of op m k ts w scope path)
  founds_ok op m k [] [] [] g h w scope path names world n = λ all. tt
  founds_ok op m k (l ∷ ls) (t ∷ ts) (me ∷ ms) g h w scope path names world n =
      found_step op m k (handed op w) names world l ls me ms (argument_typed op m k t w scope path)
      (founds_of op m (k + 1) ts w scope path)
      (argument_ok op m k l t me h.0 g.0 w scope path names world n)
      (founds_ok op m (k + 1) ls ts ms g.1 h.1 w scope path names world n)
  founds_ok op m k (l ∷ ls) _ [] g h w scope path names world n = absurd g
  founds_ok op m k [] _ (me ∷ ms) g h w scope path names world n = absurd g
  founds_ok op m k _ (t ∷ ts) [] g h w scope path names world n = absurd h
  founds_ok op m k _ [] (me ∷ ms) g h w scope path names world n = absurd h

  -- the faults of all arguments are those of each
  within_after : (may : FaultSet) (founds : List TypedNodes) → Within S (may_after may founds) →
      Within S may × WithinAll S founds
  within_after may [] all = (all, tt)
  within_after may (found ∷ founds) all =
      let rest = within_after (union may found.node.may) founds all in
      (within_left S may found.node.may rest.0, (within_right S may found.node.may rest.0, rest.1))

  pub within_all : (founds : List TypedNodes) → Within S (all_may founds) → WithinAll S founds
  within_all founds all = (within_after no_faults founds all).1

  pub then_ok : (op : Operator) (m k : ℕ) (w v : Want) (names : BoundOutcomes) (world : World)
      (ls : List (Option Data)) (ms : List Meaning) (rs : Result (List TypedNodes) TypeFault)
      (go : List TypedNodes → Typed) (o : Evaluated) → FoundsIn S op m k v names world ls ms rs →
      ((founds : List TypedNodes) → (WithinAll S founds → AreGiven S op m k v names world ls (kinds_in founds) ms)
      → ResultOf S w (go founds) o) → ResultOf S w (then_found rs go) o
  then_ok op m k w v names world ls ms (Ok founds) go o h g = g founds h
  then_ok op m k w v names world ls ms (Err e) go o h g = tt
