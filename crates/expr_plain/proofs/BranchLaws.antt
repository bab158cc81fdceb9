-- What decides between outputs, as slices of the code have it.
use Rattle.std.proofs.Common.{◌≡◌, ℕ, ◌-◌, ◌≤◌, ◌<◌, ℤ, List, [], ◌∷◌, length, Bool, true, false, Result, Ok, Err, refl, zero, suc, sym, ap, ◌∙◌, subst, arith, get_or, take, drop, take_all}
use Rattle.prop_values.specs.Data.{Data}
use Rattle.prop_values.specs.declared.fault.EvalFault.{EvalFault}
use Rattle.prop_values.specs.declared.fault.EvalFault.TheVariants.{WrongType}
use Rattle.prop_values.specs.declared.kinds.Want.{Want}
use Rattle.prop_values.specs.declared.kinds.Want.TheVariants as wants
use Rattle.prop_values.specs.View.{data_of}
use Rattle.prop_values.specs.declared.outcome.Curve.{Curve}
use Rattle.prop_values.specs.declared.value.Value.{Value}
use Rattle.interpolate_fixed.specs.Places.{place_of}
use Rattle.interpolate_fixed.specs.Warp.{warp_of}
use Rattle.property_tables.specs.Fitting.{fit}
use Rattle.expr_syntax.specs.declared.expression.Expr.{Expr}
use Rattle.expr_syntax.specs.declared.parts.Labelled.{Labelled}
use Rattle.expr_syntax.specs.Chosen.{output_of}
use Rattle.expr_syntax.specs.Operators.{ramp_want}
use Rattle.expr_syntax.specs.TermView.{term_of}
use Rattle.expr_syntax.specs.TermView.{weight}
use Rattle.halts.specs.declared.halt.Halt.{Halt}
use Rattle.operator_values.specs.Arithmetic.{then_number}
use Rattle.operator_values.specs.Evaluated.{Evaluated, GivesValue, then_value, or_fault}
use Rattle.eval_face.specs.World.{World}
use Rattle.eval_face.specs.Names.{BoundOutcomes}
use Rattle.eval_face.specs.Branches.{branch, case_of, output_at, match_of, with_number, ramp_of, ramp_at}
use Rattle.eval_face.specs.Meaning.{mean}
use Rattle.operator_rules.specs.Inputs.{condition_in, number_in}
use Rattle.operator_rules.proofs.InputLaws.{by_flag, branch_by, by_number, number_with, moved_by}
use Rattle.expr_plain.specs.Terms.{meanings}
use Rattle.expr_plain.specs.Evaluates.{Evaluates}
use Rattle.expr_plain.specs.Frames.{names_of}
use Rattle.expr_plain.specs.declared.evaluation.Evaluation.{Evaluation}
use Rattle.expr_plain.specs.declared.frames.Frames.{Frames}
use Rattle.expr_plain.proofs.ArgumentLaws.{meanings_length}
use Rattle.expr_plain.proofs.Evaluating.{as_meant, given}

-- ---- `case`

-- what is left after the first condition and its output
abbrev pub rest_of : List Expr → List Expr
rest_of es = take (length es - 2) (drop 2 es)

-- a `case` by its first condition
case_first : (es : List Expr) (e f : Expr) (want : Want) (names : BoundOutcomes) (world : World) → e ≡ get_or es 0 e → f ≡ get_or es 1 f → 2 ≤ length es → case_of (meanings es) want names world ≡ branch (mean (term_of e) wants.Boolean names world) (mean (term_of f) want names world) (case_of (meanings (rest_of es)) want names world)
case_first [] e f want names world p q h = absurd (omega arith)
case_first (x ∷ []) e f want names world p q h = absurd (omega arith)
case_first (x ∷ y ∷ es) e f want names world p q h =
    ap (λ a. branch (mean (term_of a) wants.Boolean names world) (mean (term_of y) want names world) (case_of (meanings es) want names world)) (sym p)
    ∙ (ap (λ b. branch (mean (term_of e) wants.Boolean names world) (mean (term_of b) want names world) (case_of (meanings es) want names world)) (sym q)
    ∙ ap (λ zs. branch (mean (term_of e) wants.Boolean names world) (mean (term_of f) want names world) (case_of (meanings zs) want names world)) (sym (take_all (length (x ∷ y ∷ es) - 2) es (omega arith))))

pub case_by : (es : List Expr) (e f : Expr) (want : Want) (names : BoundOutcomes) (world : World) (d : Data) (flag : Result Bool EvalFault) → e ≡ get_or es 0 e → f ≡ get_or es 1 f → 2 ≤ length es → mean (term_of e) wants.Boolean names world ≡ Ok d → flag ≡ condition_in d → by_flag flag (mean (term_of f) want names world) (case_of (meanings (rest_of es)) want names world) ≡ case_of (meanings es) want names world
case_by es e f want names world d flag p q h m t =
    let rest = case_of (meanings (rest_of es)) want names world in
    let output = mean (term_of f) want names world in
    ap (λ x. by_flag x output rest) t
    ∙ sym (case_first es e f want names world p q h ∙ (ap (λ x. branch x output rest) m ∙ branch_by d output rest))

-- the rest has no more nodes
pub rest_weight : (es : List Expr) → 2 ≤ length es → weight (rest_of es) ≤ weight es
rest_weight [] h = absurd (omega arith)
rest_weight (x ∷ []) h = absurd (omega arith)
rest_weight (x ∷ y ∷ es) h = rw (take_all (length (x ∷ y ∷ es) - 2) es (omega arith)) (omega arith)

-- ---- outputs by their numbers

pub output_here : (es : List Expr) (k : ℕ) (e : Expr) (want : Want) (names : BoundOutcomes) (world : World) → e ≡ get_or es k e → k < length es → mean (term_of e) want names world ≡ output_at (meanings es) k want names world
output_here [] k e want names world p h = absurd (omega arith)
output_here (x ∷ es) zero e want names world p h = ap (λ y. mean (term_of y) want names world) p
output_here (x ∷ es) (suc k) e want names world p h = output_here es k e want names world p (omega arith)

pub output_none : (es : List Expr) (k : ℕ) (want : Want) (names : BoundOutcomes) (world : World) → length es ≤ k → output_at (meanings es) k want names world ≡ Err WrongType
output_none [] k want names world h = refl
output_none (x ∷ es) zero want names world h = absurd (omega arith)
output_none (x ∷ es) (suc k) want names world h = output_none es k want names world (omega arith)

-- ---- an input, and the outputs after it

abbrev pub outputs_in : List Expr → List Expr
outputs_in es = take (length es - 1) (drop 1 es)

input_first : (es : List Expr) (e : Expr) → e ≡ get_or es 0 e → 1 ≤ length es → mean (term_of e) ∷ meanings (outputs_in es) ≡ meanings es
input_first [] e p h = absurd (omega arith)
input_first (x ∷ es) e p h =
    ap (λ zs. mean (term_of e) ∷ meanings zs) (take_all (length (x ∷ es) - 1) es (omega arith))
    ∙ ap (λ a. mean (term_of a) ∷ meanings es) p

pub match_first : (labels : List Labelled) (es : List Expr) (e : Expr) (want : Want) (names : BoundOutcomes) (world : World) → e ≡ get_or es 0 e → 1 ≤ length es → then_value (mean (term_of e) wants.Any names world) (λ d. output_at (meanings (outputs_in es)) (output_of labels d (length (outputs_in es) - 1)) want names world) ≡ match_of labels (meanings es) want names world
match_first labels es e want names world p h =
    let outputs = outputs_in es in
    ap (λ n. then_value (mean (term_of e) wants.Any names world) (λ d. output_at (meanings outputs) (output_of labels d (n - 1)) want names world)) (sym (meanings_length outputs))
    ∙ ap (λ ms. match_of labels ms want names world) (input_first es e p h)

pub match_with : (labels : List Labelled) (es : List Expr) (e : Expr) (want : Want) (names : BoundOutcomes) (world : World) (d : Data) (place : ℕ) → e ≡ get_or es 0 e → 1 ≤ length es → mean (term_of e) wants.Any names world ≡ Ok d → place ≡ output_of labels d (length (outputs_in es) - 1) → output_at (meanings (outputs_in es)) place want names world ≡ match_of labels (meanings es) want names world
match_with labels es e want names world d place p h m s =
    let outputs = outputs_in es in
    ap (λ (n : ℕ). output_at (meanings outputs) n want names world) s
    ∙ (ap (λ x. then_value x (λ y. output_at (meanings outputs) (output_of labels y (length outputs - 1)) want names world)) (sym m)
    ∙ match_first labels es e want names world p h)

-- ---- `interpolate`

-- what is at an input that was moved, before it is fitted, and the ramp of a value
abbrev pub output_in : List ℤ → List Expr → Want → BoundOutcomes → World → ℤ → Evaluated
output_in inputs es want names world x = ramp_at inputs (meanings (outputs_in es)) x (place_of inputs x) (ramp_want want) names world

abbrev pub moved_to : Result ℤ EvalFault → (ℤ → Evaluated) → Want → Evaluated
moved_to at output want = by_number at (λ x. then_value (output x) (fit want))

abbrev pub ramp_from : Curve → List ℤ → List Expr → Want → BoundOutcomes → World → ℤ → Evaluated
ramp_from curve inputs es want names world v = then_number (warp_of curve inputs v) (λ x. then_value (output_in inputs es want names world x) (fit want))

ramp_first : (curve : Curve) (inputs : List ℤ) (es : List Expr) (e : Expr) (want : Want) (names : BoundOutcomes) (world : World) → e ≡ get_or es 0 e → 1 ≤ length es → with_number (mean (term_of e) wants.Number names world) (ramp_from curve inputs es want names world) ≡ ramp_of curve inputs (meanings es) want names world
ramp_first curve inputs es e want names world p h = ap (λ ms. ramp_of curve inputs ms want names world) (input_first es e p h)

pub ramp_with : (curve : Curve) (inputs : List ℤ) (es : List Expr) (e : Expr) (want : Want) (names : BoundOutcomes) (world : World) (d : Data) (x : Result ℤ EvalFault) → e ≡ get_or es 0 e → 1 ≤ length es → mean (term_of e) wants.Number names world ≡ Ok d → x ≡ number_in d → by_number x (ramp_from curve inputs es want names world) ≡ ramp_of curve inputs (meanings es) want names world
ramp_with curve inputs es e want names world d x p h m n =
    number_with (mean (term_of e) wants.Number names world) d x (ramp_from curve inputs es want names world) m n ∙ ramp_first curve inputs es e want names world p h

-- a ramp by the input that its curve moved
pub ramp_moved : (curve : Curve) (inputs : List ℤ) (es : List Expr) (e : Expr) (want : Want) (names : BoundOutcomes) (world : World) (d : Data) (z : ℤ) (at : Result ℤ EvalFault) → e ≡ get_or es 0 e → 1 ≤ length es → mean (term_of e) wants.Number names world ≡ Ok d → Ok z ≡ number_in d → at ≡ or_fault (warp_of curve inputs z) → moved_to at (output_in inputs es want names world) want ≡ ramp_of curve inputs (meanings es) want names world
ramp_moved curve inputs es e want names world d z at p h m n w =
    let go = λ (x : ℤ). then_value (output_in inputs es want names world x) (fit want) in
    ap (λ a. by_number a go) w
    ∙ (moved_by (warp_of curve inputs z) go ∙ ramp_with curve inputs es e want names world d (Ok z) p h m n)

-- ---- what is given of what decides and of the output that it chooses

pub match_evaluates : {r : Result Value (Halt EvalFault)} {v : Value} (labels : List Labelled) (es : List Expr) {e : Expr} {want : Want} {frames : Frames} {world : World} {a : Evaluation} {b : Evaluation} {c : Evaluation} {place : ℕ} → e ≡ get_or es 0 e → 1 ≤ length es → Evaluates (Ok v) (mean (term_of e)) wants.Any frames world a b → place ≡ output_of labels (data_of v) (length (outputs_in es) - 1) → Evaluates r (output_at (meanings (outputs_in es)) place) want frames world b c → Evaluates r (match_of labels (meanings es)) want frames world a c
match_evaluates {v = v} labels es {e} {want} {frames} {world} {place = place} p l h s i =
    as_meant (match_with labels es e want (names_of frames.scope.now world) world (data_of v) place p l h.meant s) h.stands i

-- the whole ramp, where what is at the input is evaluated
pub ramp_evaluates : {r : Result Value (Halt EvalFault)} {v : Value} {w : Value} {z : ℤ} {x : ℤ} (curve : Curve) (inputs : List ℤ) (es : List Expr) {e : Expr} {want : Want} {own : Want} {frames : Frames} {world : World} {a : Evaluation} {b : Evaluation} {c : Evaluation} → e ≡ get_or es 0 e → 1 ≤ length es → Evaluates (Ok v) (mean (term_of e)) wants.Number frames world a b → Ok z ≡ number_in (data_of v) → Ok x ≡ or_fault (warp_of curve inputs z) → own ≡ ramp_want want → Evaluates (Ok w) (ramp_at inputs (meanings (outputs_in es)) x (place_of inputs x)) own frames world b c → GivesValue r (fit want (data_of w)) → Evaluates r (ramp_of curve inputs (meanings es)) want frames world a c
ramp_evaluates {r} {v} {w} {z} {x} curve inputs es {e} {want} {own} {frames} {world} p l h n m o i g =
    let names = names_of frames.scope.now world in
    let at = ap (λ (y : Want). then_value (ramp_at inputs (meanings (outputs_in es)) x (place_of inputs x) y names world) (fit want)) o in
    given (subst (GivesValue r) (ap (λ y. then_value y (fit want)) (sym i.meant) ∙ (at ∙ ramp_moved curve inputs es e want names world (data_of v) z (Ok x) p l h.meant n m)) g) i.entered (i.stands ∙ h.stands)
