-- Outputs one after the other, and arguments that are not there.
use Rattle.std.specs.Prelude.{List, [], ◌∷◌, Bool, true, false, ◌&&◌, Option, Some, None}
use Rattle.std.proofs.Common.{◌≡◌, ◌≢◌, ◌<◌, ℕ, ℤ, ◌+◌, ◌∙◌, length, drop, get_or, drop-cons, refl, zero, suc, arith, ap, sym, subst}
use Rattle.prop_values.specs.declared.kinds.Want.{Want}
use Rattle.expr_syntax.specs.TermView.{term_of}
use Rattle.expr_syntax.specs.declared.expression.Expr.{Expr}
use Rattle.expr_types.specs.Arithmetics.{has_divisor}
use Rattle.expr_types.specs.LiteralView.{literals_of}
use Rattle.expr_types.specs.Ramping.{first_near, next_from, is_fitting, steps_are_near}
use Rattle.expr_types.specs.Typing.{literal_of}

pub no_divisor : (es : List Expr) → length es < 2 → has_divisor (literals_of es) ≡ false
no_divisor [] short = refl
no_divisor (e ∷ []) short = refl
no_divisor (e ∷ f ∷ es) short = absurd (omega arith)

pub no_first : (x0 x1 : ℤ) (es : List Expr) → length es < 2 → first_near x0 x1 (literals_of es) ≡ true
no_first x0 x1 [] short = refl
no_first x0 x1 (e ∷ []) short = refl
no_first x0 x1 (e ∷ f ∷ es) short = absurd (omega arith)

and_false : (b : Bool) → (b && false) ≡ false
and_false true = refl
and_false false = refl

pub unequal_steps : (xs : List ℤ) (want : Want) (es : List Expr) → length xs ≢ length es → steps_are_near xs want (literals_of es) ≡ false
unequal_steps [] want [] other = absurd (other refl)
unequal_steps [] want (e ∷ es) other = refl
unequal_steps (x ∷ xs) want [] other = refl
unequal_steps (x ∷ xs) want (e ∷ es) other =
    let rest = unequal_steps xs want es (λ same. other (ap suc same)) in
    ap (λ b. is_fitting want (literal_of (term_of e)) && (next_from (x ∷ xs) (literals_of (e ∷ es)) && b)) rest ∙
    (ap (λ b. is_fitting want (literal_of (term_of e)) && b) (and_false (next_from (x ∷ xs) (literals_of (e ∷ es)))) ∙ and_false (is_fitting want (literal_of (term_of e))))

step_at : (xs : List ℤ) (want : Want) (es : List Expr) (k : ℕ) (e : Expr) → e ≡ get_or es k e → k < length es → k < length xs → steps_are_near (drop k xs) want (literals_of (drop k es)) ≡ (is_fitting want (literal_of (term_of e)) && (next_from (drop k xs) (literals_of (drop k es)) && steps_are_near (drop (suc k) xs) want (literals_of (drop (suc k) es))))
step_at [] want es k e is there here = absurd (omega arith)
step_at (x ∷ xs) want [] k e is there here = absurd (omega arith)
step_at (x ∷ xs) want (f ∷ es) zero e is there here = ap (λ g. is_fitting want (literal_of (term_of g)) && (next_from (x ∷ xs) (literals_of (f ∷ es)) && steps_are_near xs want (literals_of es))) (sym is)
step_at (x ∷ xs) want (f ∷ es) (suc k) e is there here = step_at xs want es k e is (omega (arith, there)) (omega (arith, here))

pub steps_step : (xs : List ℤ) (want : Want) (es : List Expr) (k : ℕ) (e : Expr) → e ≡ get_or es k e → k < length es → length xs ≡ length es → steps_are_near (drop k xs) want (literals_of (drop k es)) ≡ (is_fitting want (literal_of (term_of e)) && (next_from (drop k xs) (literals_of (drop k es)) && steps_are_near (drop (k + 1) xs) want (literals_of (drop (k + 1) es))))
steps_step xs want es k e is there same =
    let one : suc k ≡ k + 1 = omega arith in
    subst (λ j. steps_are_near (drop k xs) want (literals_of (drop k es)) ≡ (is_fitting want (literal_of (term_of e)) && (next_from (drop k xs) (literals_of (drop k es)) && steps_are_near (drop j xs) want (literals_of (drop j es))))) one (step_at xs want es k e is there (omega (arith, there, same)))

and_left : (b c : Bool) → b ≡ false → (b && c) ≡ false
and_left b c misses = ap (λ d. d && c) misses

-- an output that is no literal that fits, and one after which the next is near
pub unfitting : (xs : List ℤ) (want : Want) (es : List Expr) (k : ℕ) (e : Expr) (all : Bool) → steps_are_near (drop k xs) want (literals_of (drop k es)) ≡ all → e ≡ get_or es k e → k < length es → length xs ≡ length es → is_fitting want (literal_of (term_of e)) ≡ false → false ≡ all
unfitting xs want es k e all inv is there same misses =
    sym (steps_step xs want es k e is there same ∙ and_left (is_fitting want (literal_of (term_of e))) (next_from (drop k xs) (literals_of (drop k es)) && steps_are_near (drop (k + 1) xs) want (literals_of (drop (k + 1) es))) misses) ∙ inv

pub next_turn : (xs : List ℤ) (want : Want) (es : List Expr) (k : ℕ) (e : Expr) (all : Bool) → steps_are_near (drop k xs) want (literals_of (drop k es)) ≡ all → e ≡ get_or es k e → k < length es → length xs ≡ length es → is_fitting want (literal_of (term_of e)) ≡ true → next_from (drop k xs) (literals_of (drop k es)) ≡ true → steps_are_near (drop (k + 1) xs) want (literals_of (drop (k + 1) es)) ≡ all
next_turn xs want es k e all inv is there same fits near =
    sym (steps_step xs want es k e is there same ∙ (ap (λ b. b && (next_from (drop k xs) (literals_of (drop k es)) && steps_are_near (drop (k + 1) xs) want (literals_of (drop (k + 1) es)))) fits ∙ ap (λ b. b && steps_are_near (drop (k + 1) xs) want (literals_of (drop (k + 1) es))) near)) ∙ inv
