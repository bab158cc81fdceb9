-- Turns of the loop over the names of bindings.
use Rattle.std.proofs.Common.{◌≡◌, ◌∙◌, ℕ, suc, ◌+◌, ◌<◌, List, [], ◌∷◌, ◌++◌, length, drop, drop-cons, get_or, add-one, sym, ap, true, false}
use Rattle.std.specs.Prelude.{Option, None, if◌then◌else◌}
use Rattle.decimal_json.specs.Tree.{tree, text}
use Rattle.decimal_json.specs.View.{tree_of, trees}
use Rattle.decimal_json.specs.declared.tree.Json.{Json}
use Rattle.expr_syntax.specs.Elements.{taken}
use Rattle.expr_syntax.specs.Rows.{is_binder}
use Rattle.expr_syntax.specs.Parts.{binding_names, and_name, is_binding_name}
use Rattle.expr_syntax.proofs.InputLaws.{after_names, after_name}

-- the elements from a place on are that element and those after it
elements_from : (es : List Json) (i : ℕ) (e : Json) → i < length es → e ≡ get_or es i e → trees (drop i es) ≡ tree (tree_of e) (trees (drop (i + 1) es))
elements_from es i e within is =
    ap trees (drop-cons es i e within)
    ∙ (ap (λ d. trees (d ∷ drop (suc i) es)) (sym is)
    ∙ ap (λ k. trees (e ∷ drop k es)) (sym (add-one i)))

-- an element that is no name
pub name_skipped : (es : List Json) (i : ℕ) (e : Json) (ns : List (List ℕ)) (total : Option (List (List ℕ)))
    → i < length es → e ≡ get_or es i e → is_binder (length es) i ≡ false
    → after_names ns (binding_names (taken is_binder (length es) i (trees (drop i es)))) ≡ total
    → after_names ns (binding_names (taken is_binder (length es) (i + 1) (trees (drop (i + 1) es)))) ≡ total
name_skipped es i e ns total within is no_binder kept =
    let later = taken is_binder (length es) (i + 1) (trees (drop (i + 1) es)) in
    ap (λ b. after_names ns (binding_names (if b then tree_of e ∷ later else later))) (sym no_binder)
    ∙ (ap (λ ts. after_names ns (binding_names (taken is_binder (length es) i ts))) (sym (elements_from es i e within is)) ∙ kept)

-- a name
pub name_kept : (es : List Json) (i : ℕ) (e : Json) (ns ms : List (List ℕ)) (s : List ℕ) (total : Option (List (List ℕ)))
    → i < length es → e ≡ get_or es i e → is_binder (length es) i ≡ true
    → tree_of e ≡ text s → is_binding_name s ≡ true → ms ≡ ns ++ s ∷ []
    → after_names ns (binding_names (taken is_binder (length es) i (trees (drop i es)))) ≡ total
    → after_names ms (binding_names (taken is_binder (length es) (i + 1) (trees (drop (i + 1) es)))) ≡ total
name_kept es i e ns ms s total within is binder spelled named pushed kept =
    let later = taken is_binder (length es) (i + 1) (trees (drop (i + 1) es)) in
    ap (λ xs. after_names xs (binding_names later)) pushed
    ∙ (after_name ns s (binding_names later)
    ∙ (ap (λ b. after_names ns (if b then and_name s (binding_names later) else None)) (sym named)
    ∙ (ap (λ t. after_names ns (binding_names (t ∷ later))) (sym spelled)
    ∙ (ap (λ b. after_names ns (binding_names (if b then tree_of e ∷ later else later))) (sym binder)
    ∙ (ap (λ ts. after_names ns (binding_names (taken is_binder (length es) i ts))) (sym (elements_from es i e within is))
    ∙ kept)))))
