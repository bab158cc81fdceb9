-- For callers: an argument is smaller than its node, which ends a recursion over an expression.
use Rattle.std.specs.Prelude.{◌≡◌, ℕ, ◌≤◌, ◌<◌, List, [], ◌∷◌, length}
use Rattle.std.proofs.Common.{arith, ap, get_or, zero, suc}
use Rattle.expr_syntax.specs.declared.expression.Expr.{Expr}
use Rattle.expr_syntax.specs.TermSize.{nodes}
use Rattle.expr_syntax.specs.TermView.{term_of, terms, weight}
use Rattle.expr_syntax.specs.Mentioned.{count}

-- an argument has no more nodes than all of them
pub argument_weight : (es : List Expr) (i : ℕ) (e : Expr) → e ≡ get_or es i e → i < length es → nodes (term_of e) ≤ weight es
argument_weight [] i e p h = absurd (omega arith)
argument_weight (x ∷ es) zero e p h = let q = ap (λ y. nodes (term_of y)) p in omega arith
argument_weight (x ∷ es) (suc i) e p h = let r = argument_weight es i e p (omega arith) in omega arith

pub count_terms : (es : List Expr) → count (terms es) ≡ length es
count_terms [] = omega arith
count_terms (e ∷ es) = let h = count_terms es in omega arith
