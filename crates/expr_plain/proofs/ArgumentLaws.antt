-- The arguments of a node, one after the other.
use Rattle.std.proofs.Common.{◌≡◌, ℕ, ◌+◌, ◌<◌, ◌≤◌, zero, suc, List, [], ◌∷◌, ◌++◌, length, drop, get_or, Bool, true, false, Option, Some, None, Result, Ok, Err, IsErrAnd, refl, arith, sym, ap, ◌∙◌, subst, append_assoc, append-nil}
use Rattle.std.specs.List.{slice_get}
use Rattle.prop_values.specs.Data.{Data}
use Rattle.prop_values.specs.View.{data_of}
use Rattle.prop_values.specs.ViewParts.{values_view}
use Rattle.prop_values.specs.declared.fault.EvalFault.{EvalFault}
use Rattle.prop_values.specs.declared.kinds.Want.{Want}
use Rattle.prop_values.specs.declared.value.Value.{Value}
use Rattle.property_tables.specs.Fitting.{fit}
use Rattle.expr_syntax.specs.Names.{row}
use Rattle.expr_syntax.specs.Operators.{operator_name, wanted_by, want_of}
use Rattle.expr_syntax.specs.TermView.{term_of}
use Rattle.expr_syntax.specs.declared.expression.Expr.{Expr}
use Rattle.expr_syntax.specs.declared.expression.Operator.{Operator}
use Rattle.halts.specs.declared.halt.Halt.{Halt}
use Rattle.halts.specs.declared.halt.Halt.TheVariants.{Fault, NoMemory}
use Rattle.operator_values.specs.Evaluated.{Evaluated, GivesValue, then_value}
use Rattle.eval_face.specs.World.{World}
use Rattle.eval_face.specs.Names.{BoundOutcomes}
use Rattle.eval_face.specs.Branches.{the_output}
use Rattle.eval_face.specs.Meanings.{Meaning, values_of, looked_at, is_sequence, as_sequence}
use Rattle.eval_face.specs.Meaning.{mean}
use Rattle.eval_face.specs.Rules.{rule_of}
use Rattle.operator_rules.specs.RuleParts.{argument_at, decided_by, each_of, deciding_of}
use Rattle.operator_rules.specs.ValueStack.{added, EndsAll}
use Rattle.operator_rules.proofs.Halts.{then_halted}
use Rattle.operator_rules.proofs.ArgumentLaws.{after, values_from, made_of, one_given, two_given, one_halted, two_halted, second_halted, values_halted_at, decision_from, decision_halted, decision_found}
use Rattle.expr_plain.specs.Evaluates.{Evaluates, EvaluatesAll}
use Rattle.expr_plain.specs.Frames.{names_of}
use Rattle.expr_plain.specs.Terms.{meanings}
use Rattle.expr_plain.specs.declared.evaluation.Evaluation.{Evaluation}
use Rattle.expr_plain.specs.declared.frames.Frames.{Frames}
use Rattle.expr_plain.proofs.Evaluating.{meant_in, values_in, as_meant, given, halted}

pub meanings_length : (es : List Expr) → length (meanings es) ≡ length es
meanings_length [] = refl
meanings_length (e ∷ es) = ap suc (meanings_length es)

pub meaning_at : (es : List Expr) (k : ℕ) (e : Expr) → e ≡ get_or es k e → k < length es → slice_get (meanings es) k ≡ Some (mean (term_of e))
meaning_at [] k e p h = absurd (omega arith)
meaning_at (x ∷ es) zero e p h = ap (λ y. Some (mean (term_of y))) (sym p)
meaning_at (x ∷ es) (suc k) e p h = meaning_at es k e p (omega arith)

-- an argument by its expression
pub argument_here : (op : Operator) (es : List Expr) (k : ℕ) (e : Expr) (own want : Want) (names : BoundOutcomes) (world : World) → e ≡ get_or es k e → k < length es → own ≡ want_of (wanted_by op (length es) k) want → looked_at (is_sequence (row (operator_name op)).sequence k) (mean (term_of e) own names world) ≡ argument_at op (meanings es) k want names world
argument_here op es k e own want names world p h w =
    let looked = λ (a : Evaluated). looked_at (is_sequence (row (operator_name op)).sequence k) a in
    let meant = λ (a : Option Meaning) (n : ℕ). looked (the_output a (want_of (wanted_by op n k) want) names world) in
    ap (λ x. looked (mean (term_of e) x names world)) w
    ∙ (ap (λ a. meant a (length es)) (sym (meaning_at es k e p h)) ∙ ap (λ n. meant (slice_get (meanings es) k) n) (sym (meanings_length es)))

-- ---- what is given of evaluated arguments

pub one_evaluates : {r : Result Value (Halt EvalFault)} {v : Value} (op : Operator) (es : List Expr) {want : Want} {frames : Frames} {world : World} {a : Evaluation} {b : Evaluation} → length es ≡ 1 → Evaluates (Ok v) (argument_at op (meanings es) 0) want frames world a b → GivesValue r (made_of op want world (data_of v ∷ [])) → Evaluates r (each_of op (meanings es)) want frames world a b
one_evaluates {r} {v} op es {want} {frames} {world} l h g =
    given (subst (GivesValue r) (one_given op (meanings es) want (names_of frames.scope.now world) world (data_of v) (meanings_length es ∙ l) h.meant) g) h.entered h.stands

pub one_halts : {r : Result Value (Halt EvalFault)} {h : (Halt EvalFault)} (op : Operator) (es : List Expr) {want : Want} {frames : Frames} {world : World} {a : Evaluation} {b : Evaluation} {c : Evaluation} {d : Evaluation} → length es ≡ 1 → Evaluates (Err h) (argument_at op (meanings es) 0) want frames world a b → IsErrAnd r (λ y. y ≡ h) → Evaluates r (each_of op (meanings es)) want frames world c d
one_halts {r} {h} op es {want} {frames} {world} l e k =
    halted _ k (one_halted h op (meanings es) want (names_of frames.scope.now world) world (meanings_length es ∙ l) e.meant)

pub two_evaluate : {r : Result Value (Halt EvalFault)} {v : Value} {w : Value} (op : Operator) (es : List Expr) {want : Want} {frames : Frames} {world : World} {a : Evaluation} {b : Evaluation} {c : Evaluation} → length es ≡ 2 → Evaluates (Ok v) (argument_at op (meanings es) 0) want frames world a b → Evaluates (Ok w) (argument_at op (meanings es) 1) want frames world b c → GivesValue r (made_of op want world (data_of v ∷ data_of w ∷ [])) → Evaluates r (each_of op (meanings es)) want frames world a c
two_evaluate {r} {v} {w} op es {want} {frames} {world} l h i g =
    given (subst (GivesValue r) (two_given op (meanings es) want (names_of frames.scope.now world) world (data_of v) (data_of w) (meanings_length es ∙ l) h.meant i.meant) g) i.entered (i.stands ∙ h.stands)

pub first_halts : {r : Result Value (Halt EvalFault)} {h : (Halt EvalFault)} (op : Operator) (es : List Expr) {want : Want} {frames : Frames} {world : World} {a : Evaluation} {b : Evaluation} {c : Evaluation} {d : Evaluation} → length es ≡ 2 → Evaluates (Err h) (argument_at op (meanings es) 0) want frames world a b → IsErrAnd r (λ y. y ≡ h) → Evaluates r (each_of op (meanings es)) want frames world c d
first_halts {r} {h} op es {want} {frames} {world} l e k =
    halted _ k (two_halted h op (meanings es) want (names_of frames.scope.now world) world (meanings_length es ∙ l) e.meant)

pub second_halts : {r : Result Value (Halt EvalFault)} {v : Value} {h : (Halt EvalFault)} (op : Operator) (es : List Expr) {want : Want} {frames : Frames} {world : World} {a : Evaluation} {b : Evaluation} {c : Evaluation} {d : Evaluation} {e : Evaluation} → length es ≡ 2 → Evaluates (Ok v) (argument_at op (meanings es) 0) want frames world a b → Evaluates (Err h) (argument_at op (meanings es) 1) want frames world b c → IsErrAnd r (λ y. y ≡ h) → Evaluates r (each_of op (meanings es)) want frames world d e
second_halts {r} {v} {h} op es {want} {frames} {world} l i e k =
    halted _ k (second_halted h op (meanings es) want (names_of frames.scope.now world) world (data_of v) (meanings_length es ∙ l) i.meant e.meant)

-- an argument before the end that halts, as `?` hands it on
pub values_halt : {A : Type 0} {r : Result A (Halt EvalFault)} {h : (Halt EvalFault)} (op : Operator) (ms : List Meaning) (old vs : List Value) {k : ℕ} {want : Want} {frames : Frames} {world : World} {a b c d : Evaluation} → k < length ms → after (added old vs) (values_in (values_from op ms k) want frames world) ≡ values_in (values_from op ms 0) want frames world → Evaluates (Err h) (argument_at op ms k) want frames world a b → IsErrAnd r (λ y. y ≡ h) → EvaluatesAll r (values_of op (length ms) 0 ms) want frames world c d
values_halt {r = Ok x} op ms old vs l q e p = absurd p
values_halt {r = Err y} {h} op ms old vs {k} {want} {frames} {world} l q e p = record {
  meant = subst (λ (z : Halt EvalFault). EndsAll z (values_in (values_from op ms 0) want frames world)) (sym p) (values_halted_at h op ms k want (names_of frames.scope.now world) world (added old vs) (values_in (values_from op ms 0) want frames world) l q e.meant);
  entered = tt;
  stands = tt;
}

-- an argument by its expression: as it is given, or looked at
pub argument_evaluates : {r : Result Value (Halt EvalFault)} (op : Operator) (es : List Expr) {k : ℕ} {e : Expr} {own : Want} {want : Want} {frames : Frames} {world : World} {a : Evaluation} {b : Evaluation} → e ≡ get_or es k e → k < length es → own ≡ want_of (wanted_by op (length es) k) want → false ≡ is_sequence (row (operator_name op)).sequence k → Evaluates r (mean (term_of e)) own frames world a b → Evaluates r (argument_at op (meanings es) k) want frames world a b
argument_evaluates {r} op es {k} {e} {own} {want} {frames} {world} p l w s h =
    let names = names_of frames.scope.now world in
    as_meant (ap (λ (x : Bool). looked_at x (mean (term_of e) own names world)) s ∙ argument_here op es k e own want names world p l w) refl h

-- what is made of the value of an argument that has to be a text or a list
looked : (op : Operator) (es : List Expr) {k : ℕ} {e : Expr} {own : Want} (want : Want) (names : BoundOutcomes) (world : World) (v : Value) → e ≡ get_or es k e → k < length es → own ≡ want_of (wanted_by op (length es) k) want → true ≡ is_sequence (row (operator_name op)).sequence k → mean (term_of e) own names world ≡ Ok (data_of v) → as_sequence (data_of v) ≡ argument_at op (meanings es) k want names world
looked op es {k} {e} {own} want names world v p l w s m =
    ap (λ x. then_value x as_sequence) (sym m)
    ∙ (ap (λ (x : Bool). looked_at x (mean (term_of e) own names world)) s ∙ argument_here op es k e own want names world p l w)

pub sequence_evaluates : {r : Result Value (Halt EvalFault)} {v : Value} (op : Operator) (es : List Expr) {k : ℕ} {e : Expr} {own : Want} {want : Want} {frames : Frames} {world : World} {a : Evaluation} {b : Evaluation} → e ≡ get_or es k e → k < length es → own ≡ want_of (wanted_by op (length es) k) want → true ≡ is_sequence (row (operator_name op)).sequence k → Evaluates (Ok v) (mean (term_of e)) own frames world a b → GivesValue r (as_sequence (data_of v)) → Evaluates r (argument_at op (meanings es) k) want frames world a b
sequence_evaluates {r} op es {want = want} {frames} {world} p l w s h g = given (subst (GivesValue r) (looked op es want (names_of frames.scope.now world) world _ p l w s h.meant) g) h.entered h.stands

pub sequence_halts : {r : Result Value (Halt EvalFault)} {h : (Halt EvalFault)} (op : Operator) (es : List Expr) {k : ℕ} {e : Expr} {own : Want} {want : Want} {frames : Frames} {world : World} {a : Evaluation} {b : Evaluation} {c : Evaluation} {d : Evaluation} → e ≡ get_or es k e → k < length es → own ≡ want_of (wanted_by op (length es) k) want → true ≡ is_sequence (row (operator_name op)).sequence k → Evaluates (Err h) (mean (term_of e)) own frames world a b → IsErrAnd r (λ y. y ≡ h) → Evaluates r (argument_at op (meanings es) k) want frames world c d
sequence_halts {r} {h} op es {k} {e} {own} {want} {frames} {world} p l w s i q =
    let names = names_of frames.scope.now world in
    halted _ q (subst (GivesValue (Err h)) (ap (λ (x : Bool). looked_at x (mean (term_of e) own names world)) s ∙ argument_here op es k e own want names world p l w) (then_halted h (mean (term_of e) own names world) as_sequence i.meant))

-- the first that decides
pub deciding_evaluates : {r : Result Value (Halt EvalFault)} {v : Value} (found : Value) (op : Operator) (ms : List Meaning) {k : ℕ} {want : Want} {frames : Frames} {world : World} {a : Evaluation} {b : Evaluation} {c : Evaluation} → k < length ms → meant_in (decision_from op ms k) want frames world ≡ meant_in (decision_from op ms 0) want frames world → b.values.items ≡ a.values.items → Evaluates (Ok v) (argument_at op ms k) want frames world b c → Some (data_of found) ≡ decided_by (rule_of op) (data_of v) → GivesValue r (fit want (data_of found)) → Evaluates r (deciding_of op ms) want frames world a c
deciding_evaluates {r} {v} found op ms {k} {want} {frames} {world} l q s h d g =
    given (subst (GivesValue r) (decision_found op ms k want (names_of frames.scope.now world) world (data_of v) (data_of found) l q h.meant (sym d)) g) h.entered (h.stands ∙ s)

pub deciding_halts : {r : Result Value (Halt EvalFault)} {h : (Halt EvalFault)} (op : Operator) (ms : List Meaning) {k : ℕ} {want : Want} {frames : Frames} {world : World} {a : Evaluation} {b : Evaluation} {c : Evaluation} {d : Evaluation} → k < length ms → meant_in (decision_from op ms k) want frames world ≡ meant_in (decision_from op ms 0) want frames world → Evaluates (Err h) (argument_at op ms k) want frames world a b → IsErrAnd r (λ y. y ≡ h) → Evaluates r (deciding_of op ms) want frames world c d
deciding_halts {r} {h} op ms {k} {want} {frames} {world} l q e p =
    halted _ p (decision_halted h op ms k want (names_of frames.scope.now world) world l q e.meant)
