-- The count of nodes, expression by expression.
use Rattle.std.proofs.Common.{◌≡◌, ℕ, ◌+◌, ◌<◌, ◌≤◌, zero, suc, List, [], ◌∷◌, length, drop, get_or, ap, sym, arith, ◌∙◌}
use Rattle.expr_syntax.specs.TermSize.{nodes}
use Rattle.expr_syntax.specs.TermView.{term_of, weight}
use Rattle.expr_syntax.specs.declared.expression.Expr.{Expr}

weight_from : (es : List Expr) (i : ℕ) (e : Expr) → e ≡ get_or es i e → i < length es →
    weight (drop i es) ≡ nodes (term_of e) + weight (drop (i + 1) es)
weight_from [] i e p h = absurd (omega arith)
weight_from (x ∷ []) zero e p h = let q = ap (λ y. nodes (term_of y)) p in omega arith
weight_from (x ∷ y ∷ es) zero e p h = let q = ap (λ y. nodes (term_of y)) p in omega arith
weight_from (x ∷ es) (suc i) e p h =
    let next : suc i + 1 ≡ suc (i + 1) = omega arith in
    weight_from es i e p (omega arith) ∙ ap (λ k. nodes (term_of e) + weight (drop k (x ∷ es))) (sym next)

pub count_step : (es : List Expr) (i : ℕ) (e : Expr) (total count next : ℕ) → e ≡ get_or es i e → i < length es →
    count ≡ nodes (term_of e) → next ≡ total + count → total + weight (drop i es) ≡ weight es →
    next + weight (drop (i + 1) es) ≡ weight es
count_step es i e total count next p h c n before = let q = weight_from es i e p h in omega arith

weight_none : (es : List Expr) (i : ℕ) → length es ≤ i → weight (drop i es) ≡ 0
weight_none [] zero h = omega arith
weight_none [] (suc i) h = omega arith
weight_none (x ∷ es) zero h = absurd (omega arith)
weight_none (x ∷ es) (suc i) h = weight_none es i (omega arith)

pub count_end : (es : List Expr) (i total : ℕ) → length es ≤ i → total + weight (drop i es) ≡ weight es → total ≡ weight es
count_end es i total h before = let q = weight_none es i h in omega arith
