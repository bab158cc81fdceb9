-- The arguments of a node, one after the other, by their meanings.
use Rattle.std.proofs.Common.{◌≡◌, ℕ, ◌+◌, ◌<◌, ◌≤◌, zero, suc, List, [], ◌∷◌, ◌++◌, length, drop, Bool, true, false, Option, Some, None, Result, Ok, Err, refl, arith, sym, ap, ◌∙◌, subst, append_assoc, append-nil}
use Rattle.std.proofs.lemmas.List.{drop_all, length-take, take-append-le, drop-append-le}
use Rattle.std.specs.List.{slice_get}
use Rattle.prop_values.specs.Data.{Data}
use Rattle.prop_values.specs.View.{data_of}
use Rattle.prop_values.specs.ViewParts.{values_view}
use Rattle.prop_values.specs.declared.fault.EvalFault.{EvalFault}
use Rattle.prop_values.specs.declared.kinds.Want.{Want}
use Rattle.prop_values.specs.declared.value.Value.{Value}
use Rattle.property_tables.specs.Fitting.{fit}
use Rattle.expr_syntax.specs.declared.expression.Operator.{Operator}
use Rattle.halts.specs.declared.halt.Halt.{Halt}
use Rattle.halts.specs.declared.halt.Halt.TheVariants.{Fault, NoMemory}
use Rattle.operator_values.specs.Evaluated.{Evaluated, GivesValue, then_value}
use Rattle.eval_face.specs.World.{World}
use Rattle.eval_face.specs.Names.{BoundOutcomes}
use Rattle.eval_face.specs.Branches.{the_output}
use Rattle.eval_face.specs.Decisions.{first_of, or_later}
use Rattle.eval_face.specs.Meanings.{Meaning, values_of, and_values, then_values}
use Rattle.eval_face.specs.Rules.{rule_of}
use Rattle.operator_rules.specs.RuleParts.{argument_at, applied_by, decided_by, undecided_by, each_of, deciding_of}
use Rattle.operator_rules.specs.ValueStack.{IsBelow, added, EndsAll}
use Rattle.operator_rules.proofs.Halts.{then_halted}

pub drop_at : (ms : List Meaning) (k : ℕ) → k < length ms → drop k ms ≡ the_output (slice_get ms k) ∷ drop (k + 1) ms
drop_at [] k h = absurd (omega arith)
drop_at (m ∷ ms) zero h = refl
drop_at (m ∷ ms) (suc k) h =
    let q : suc (k + 1) ≡ suc k + 1 = omega arith in
    subst (λ (n : ℕ). drop k ms ≡ the_output (slice_get ms k) ∷ drop n (m ∷ ms)) q (drop_at ms k (omega arith))

-- ---- operators that evaluate all their arguments

-- values before those that are left
abbrev pub after : List Data → Result (List Data) EvalFault → Result (List Data) EvalFault
after ds (Ok es) = Ok (ds ++ es)
after ds (Err fault) = Err fault

-- the values from place k on
abbrev pub values_from : Operator → List Meaning → ℕ → Want → BoundOutcomes → World → Result (List Data) EvalFault
values_from op ms k want names world = values_of op (length ms) k (drop k ms) want names world

pub values_next : (op : Operator) (ms : List Meaning) (k : ℕ) (want : Want) (names : BoundOutcomes) (world : World) → k < length ms → values_from op ms k want names world ≡ and_values (argument_at op ms k want names world) (values_from op ms (k + 1) want names world)
values_next op ms k want names world h = ap (λ xs. values_of op (length ms) k xs want names world) (drop_at ms k h)

pub no_values : (op : Operator) (ms : List Meaning) (k : ℕ) (want : Want) (names : BoundOutcomes) (world : World) → length ms ≤ k → values_from op ms k want names world ≡ Ok []
no_values op ms k want names world h = ap (λ xs. values_of op (length ms) k xs want names world) (drop_all k ms h)

pub one_then : (a : Evaluated) (rest : Result (List Data) EvalFault) (go : List Data → Evaluated) → rest ≡ Ok [] → then_values (and_values a rest) go ≡ then_value a (λ d. go (d ∷ []))
one_then (Ok d) rest go p = ap (λ r. then_values (and_values (Ok d) r) go) p
one_then (Err f) rest go p = refl

pub two_then : (a b : Evaluated) (rest : Result (List Data) EvalFault) (go : List Data → Evaluated) → rest ≡ Ok [] → then_values (and_values a (and_values b rest)) go ≡ then_value a (λ d. then_value b (λ e. go (d ∷ e ∷ [])))
two_then (Ok d) (Ok e) rest go p = ap (λ r. then_values (and_values (Ok d) (and_values (Ok e) r)) go) p
two_then (Ok d) (Err f) rest go p = refl
two_then (Err f) b rest go p = refl

-- what the operator makes of values
abbrev pub made_of : Operator → Want → World → List Data → Evaluated
made_of op want world ds = then_value (applied_by (rule_of op) world ds) (fit want)

-- a node of one argument, and of two, by the values of its arguments
pub each_one : (op : Operator) (ms : List Meaning) (want : Want) (names : BoundOutcomes) (world : World) → length ms ≡ 1 → then_value (argument_at op ms 0 want names world) (λ d. made_of op want world (d ∷ [])) ≡ each_of op ms want names world
each_one op ms want names world h =
    sym (ap (λ r. then_values r (made_of op want world)) (values_next op ms 0 want names world (omega arith))
    ∙ one_then (argument_at op ms 0 want names world) (values_from op ms 1 want names world) (made_of op want world) (no_values op ms 1 want names world (omega arith)))

pub each_two : (op : Operator) (ms : List Meaning) (want : Want) (names : BoundOutcomes) (world : World) → length ms ≡ 2 → then_value (argument_at op ms 0 want names world) (λ d. then_value (argument_at op ms 1 want names world) (λ e. made_of op want world (d ∷ e ∷ []))) ≡ each_of op ms want names world
each_two op ms want names world h =
    let first = argument_at op ms 0 want names world in
    let second = argument_at op ms 1 want names world in
    sym (ap (λ r. then_values r (made_of op want world)) (values_next op ms 0 want names world (omega arith))
    ∙ (ap (λ r. then_values (and_values first r) (made_of op want world)) (values_next op ms 1 want names world (omega arith))
    ∙ two_then first second (values_from op ms 2 want names world) (made_of op want world) (no_values op ms 2 want names world (omega arith))))

pub one_given : (op : Operator) (ms : List Meaning) (want : Want) (names : BoundOutcomes) (world : World) (d : Data) → length ms ≡ 1 → argument_at op ms 0 want names world ≡ Ok d → made_of op want world (d ∷ []) ≡ each_of op ms want names world
one_given op ms want names world d h a =
    ap (λ x. then_value x (λ y. made_of op want world (y ∷ []))) (sym a) ∙ each_one op ms want names world h

pub two_given : (op : Operator) (ms : List Meaning) (want : Want) (names : BoundOutcomes) (world : World) (d e : Data) → length ms ≡ 2 → argument_at op ms 0 want names world ≡ Ok d → argument_at op ms 1 want names world ≡ Ok e → made_of op want world (d ∷ e ∷ []) ≡ each_of op ms want names world
two_given op ms want names world d e h a b =
    let second = argument_at op ms 1 want names world in
    ap (λ x. then_value x (λ z. made_of op want world (d ∷ z ∷ []))) (sym b)
    ∙ (ap (λ x. then_value x (λ y. then_value second (λ z. made_of op want world (y ∷ z ∷ [])))) (sym a)
    ∙ each_two op ms want names world h)

-- or by the argument that halts
pub one_halted : (h : Halt EvalFault) (op : Operator) (ms : List Meaning) (want : Want) (names : BoundOutcomes) (world : World) → length ms ≡ 1 → GivesValue (Err h) (argument_at op ms 0 want names world) → GivesValue (Err h) (each_of op ms want names world)
one_halted h op ms want names world l g =
    subst (GivesValue (Err h)) (each_one op ms want names world l)
    (then_halted h (argument_at op ms 0 want names world) (λ d. made_of op want world (d ∷ [])) g)

pub two_halted : (h : Halt EvalFault) (op : Operator) (ms : List Meaning) (want : Want) (names : BoundOutcomes) (world : World) → length ms ≡ 2 → GivesValue (Err h) (argument_at op ms 0 want names world) → GivesValue (Err h) (each_of op ms want names world)
two_halted h op ms want names world l g =
    let second = argument_at op ms 1 want names world in
    subst (GivesValue (Err h)) (each_two op ms want names world l)
    (then_halted h (argument_at op ms 0 want names world) (λ d. then_value second (λ e. made_of op want world (d ∷ e ∷ []))) g)

pub second_halted : (h : Halt EvalFault) (op : Operator) (ms : List Meaning) (want : Want) (names : BoundOutcomes) (world : World) (d : Data) → length ms ≡ 2 → argument_at op ms 0 want names world ≡ Ok d → GivesValue (Err h) (argument_at op ms 1 want names world) → GivesValue (Err h) (each_of op ms want names world)
second_halted h op ms want names world d l a g =
    let second = argument_at op ms 1 want names world in
    subst (GivesValue (Err h))
    (ap (λ x. then_value x (λ y. then_value second (λ e. made_of op want world (y ∷ e ∷ [])))) (sym a) ∙ each_two op ms want names world l)
    (then_halted h second (λ e. made_of op want world (d ∷ e ∷ [])) g)

-- one value more
pub and_one : (ds : List Data) (d : Data) (rest : Result (List Data) EvalFault) → after (ds ++ d ∷ []) rest ≡ after ds (and_values (Ok d) rest)
and_one ds d (Ok es) = ap Ok (append_assoc ds (d ∷ []) es)
and_one ds d (Err f) = refl

pub below_length : (old vs : List Value) → IsBelow old vs → length old ≤ length vs
below_length old vs b = omega (arith, length-take (length old) vs, ap length b)

pub view_one : (vs : List Value) (v : Value) → values_view (vs ++ v ∷ []) ≡ values_view vs ++ data_of v ∷ []
view_one [] v = refl
view_one (w ∷ vs) v = ap (λ ds. data_of w ∷ ds) (view_one vs v)

pub added_one : (old vs : List Value) (v : Value) → IsBelow old vs → added old (vs ++ v ∷ []) ≡ added old vs ++ data_of v ∷ []
added_one old vs v b = ap values_view (drop-append-le (length old) vs (v ∷ []) (below_length old vs b)) ∙ view_one (drop (length old) vs) v

pub below_one : (old vs : List Value) (v : Value) → IsBelow old vs → IsBelow old (vs ++ v ∷ [])
below_one old vs v b = take-append-le (length old) vs (v ∷ []) (below_length old vs b) ∙ b

pub values_more : (op : Operator) (ms : List Meaning) (k : ℕ) (want : Want) (names : BoundOutcomes) (world : World) (old vs : List Value) (v : Value) (whole : Result (List Data) EvalFault) → k < length ms → IsBelow old vs → after (added old vs) (values_from op ms k want names world) ≡ whole → argument_at op ms k want names world ≡ Ok (data_of v) → after (added old (vs ++ v ∷ [])) (values_from op ms (k + 1) want names world) ≡ whole
values_more op ms k want names world old vs v whole h b q a =
    let rest = values_from op ms (k + 1) want names world in
    ap (λ ds. after ds rest) (added_one old vs v b)
    ∙ (and_one (added old vs) (data_of v) rest
    ∙ (ap (λ x. after (added old vs) (and_values x rest)) (sym a)
    ∙ (ap (after (added old vs)) (sym (values_next op ms k want names world h)) ∙ q)))

-- all values, where none is left
pub all_values : (op : Operator) (ms : List Meaning) (k : ℕ) (want : Want) (names : BoundOutcomes) (world : World) (ds : List Data) (whole : Result (List Data) EvalFault) → length ms ≤ k → after ds (values_from op ms k want names world) ≡ whole → whole ≡ Ok ds
all_values op ms k want names world ds whole h q = sym q ∙ (ap (after ds) (no_values op ms k want names world h) ∙ ap Ok (append-nil ds))

-- the values end at an argument that halts
pub end_halted : (h : Halt EvalFault) (ds : List Data) (a : Evaluated) (rest whole : Result (List Data) EvalFault) → after ds (and_values a rest) ≡ whole → GivesValue (Err h) a → EndsAll h whole
end_halted (Fault f) ds a rest whole q g = sym q ∙ ap (λ x. after ds (and_values x rest)) g
end_halted NoMemory ds a rest whole q g = tt

pub values_halted_at : (h : Halt EvalFault) (op : Operator) (ms : List Meaning) (k : ℕ) (want : Want) (names : BoundOutcomes) (world : World) (ds : List Data) (whole : Result (List Data) EvalFault) → k < length ms → after ds (values_from op ms k want names world) ≡ whole → GivesValue (Err h) (argument_at op ms k want names world) → EndsAll h whole
values_halted_at h op ms k want names world ds whole l q g =
    end_halted h ds (argument_at op ms k want names world) (values_from op ms (k + 1) want names world) whole (ap (after ds) (sym (values_next op ms k want names world l)) ∙ q) g

-- ---- operators that stop at the argument that decides

-- what the first that decides gives, from place k on
abbrev pub decision_from : Operator → List Meaning → ℕ → Want → BoundOutcomes → World → Evaluated
decision_from op ms k want names world =
    first_of (decided_by (rule_of op)) (undecided_by (rule_of op)) op (length ms) k (drop k ms) want names world

pub decision_next : (op : Operator) (ms : List Meaning) (k : ℕ) (want : Want) (names : BoundOutcomes) (world : World) → k < length ms → decision_from op ms k want names world ≡ then_value (argument_at op ms k want names world) (λ d. or_later (decided_by (rule_of op) d) (decision_from op ms (k + 1) want names world))
decision_next op ms k want names world h =
    ap (λ xs. first_of (decided_by (rule_of op)) (undecided_by (rule_of op)) op (length ms) k xs want names world) (drop_at ms k h)

-- an argument that halts, one that decides, and one that does not
pub decision_halted : (h : Halt EvalFault) (op : Operator) (ms : List Meaning) (k : ℕ) (want : Want) (names : BoundOutcomes) (world : World) → k < length ms → decision_from op ms k want names world ≡ decision_from op ms 0 want names world → GivesValue (Err h) (argument_at op ms k want names world) → GivesValue (Err h) (deciding_of op ms want names world)
decision_halted h op ms k want names world l q g =
    let later = λ (d : Data). or_later (decided_by (rule_of op) d) (decision_from op ms (k + 1) want names world) in
    subst (λ (a : Evaluated). GivesValue (Err h) (then_value a (fit want))) (sym (decision_next op ms k want names world l) ∙ q)
    (then_halted h (then_value (argument_at op ms k want names world) later) (fit want) (then_halted h (argument_at op ms k want names world) later g))

pub decision_with : (op : Operator) (ms : List Meaning) (k : ℕ) (want : Want) (names : BoundOutcomes) (world : World) (d : Data) → k < length ms → argument_at op ms k want names world ≡ Ok d → decision_from op ms k want names world ≡ or_later (decided_by (rule_of op) d) (decision_from op ms (k + 1) want names world)
decision_with op ms k want names world d l a =
    let later = decision_from op ms (k + 1) want names world in
    decision_next op ms k want names world l ∙ ap (λ x. then_value x (λ y. or_later (decided_by (rule_of op) y) later)) a

pub decision_found : (op : Operator) (ms : List Meaning) (k : ℕ) (want : Want) (names : BoundOutcomes) (world : World) (d found : Data) → k < length ms → decision_from op ms k want names world ≡ decision_from op ms 0 want names world → argument_at op ms k want names world ≡ Ok d → decided_by (rule_of op) d ≡ Some found → fit want found ≡ deciding_of op ms want names world
decision_found op ms k want names world d found l q a e =
    let later = decision_from op ms (k + 1) want names world in
    ap (λ x. then_value x (fit want)) (sym (ap (λ o. or_later o later) e) ∙ (sym (decision_with op ms k want names world d l a) ∙ q))

pub decision_later : (op : Operator) (ms : List Meaning) (k : ℕ) (want : Want) (names : BoundOutcomes) (world : World) (d : Data) → k < length ms → decision_from op ms k want names world ≡ decision_from op ms 0 want names world → argument_at op ms k want names world ≡ Ok d → decided_by (rule_of op) d ≡ None → decision_from op ms (k + 1) want names world ≡ decision_from op ms 0 want names world
decision_later op ms k want names world d l q a e =
    let later = decision_from op ms (k + 1) want names world in
    sym (ap (λ o. or_later o later) e) ∙ (sym (decision_with op ms k want names world d l a) ∙ q)

pub undecided : (op : Operator) (ms : List Meaning) (k : ℕ) (want : Want) (names : BoundOutcomes) (world : World) → length ms ≤ k → decision_from op ms k want names world ≡ decision_from op ms 0 want names world → then_value (undecided_by (rule_of op)) (fit want) ≡ deciding_of op ms want names world
undecided op ms k want names world l q =
    ap (λ x. then_value x (fit want)) (sym (ap (λ xs. first_of (decided_by (rule_of op)) (undecided_by (rule_of op)) op (length ms) k xs want names world) (drop_all k ms l)) ∙ q)
