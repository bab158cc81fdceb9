-- What a walk over the nodes finds.
use Rattle.std.specs.Prelude.{List, [], ◌∷◌, ◌++◌, Bool, true, false, not, ◌&&◌, ◌||◌, Option, Some, None, if◌then◌else◌}
use Rattle.std.proofs.Common.{◌≡◌, ℕ, ◌+◌, ◌<◌, ◌≤◌, ◌∙◌, length, drop, get_or, drop-cons, ap, sym, refl, suc, arith, subst}
use Rattle.std.proofs.lemmas.List.{drop_all}
use Rattle.decimal_json.specs.declared.paths.PathPart.{PathPart}
use Rattle.expr_syntax.specs.TermView.{term_of, terms}
use Rattle.expr_syntax.specs.declared.expression.Expr.{Expr}
use Rattle.expr_syntax.specs.declared.expression.Operator.{Operator}
use Rattle.expr_types.specs.Allowed.{Allowed, first_unread, first_zoom_after, first_stray_zoom, is_input}
use Rattle.expr_types.specs.MisplacedReads.{first_path, path_if, noted_if, all_noted, none_noted}
use Rattle.expr_types.specs.ArgumentPaths.{argument_path}
use Rattle.expr_types.specs.Visits.{Visit, visits, visitings, all_visits, standing_of}
use Rattle.expr_types.specs.declared.standing.Standing.{Standing}
use Rattle.expr_types.specs.declared.misplaced_reads.MisplacedReads.{MisplacedReads}

pub noted_append : (allows : Allowed) (vs ws : List Visit) (s : MisplacedReads) → all_noted allows (vs ++ ws) s ≡ all_noted allows ws (all_noted allows vs s)
noted_append allows [] ws s = refl
noted_append allows (v ∷ vs) ws s = noted_append allows vs ws (noted_if (allows v.reads) v s)

-- a turn of the walk over the arguments of a node
pub visit_turn : (allows : Allowed) (op : Operator) (m k : ℕ) (es : List Expr) (e : Expr) (standing : Standing) (path : List PathPart) (s t : MisplacedReads) (all : MisplacedReads) → all_noted allows (all_visits op m k (visitings (terms (drop k es))) standing path) s ≡ all → e ≡ get_or es k e → k < length es → t ≡ all_noted allows (visits (term_of e) (standing_of standing op m k) (argument_path op m k path)) s → all_noted allows (all_visits op m (k + 1) (visitings (terms (drop (k + 1) es))) standing path) t ≡ all
visit_turn allows op m k es e standing path s t all inv is there next =
    let one : suc k ≡ k + 1 = omega arith in
    let here : drop k es ≡ e ∷ drop (k + 1) es = subst (λ j. drop k es ≡ e ∷ drop j es) one (drop-cons es k e there ∙ ap (λ x. x ∷ drop (suc k) es) (sym is)) in
    ap (λ u. all_noted allows (all_visits op m (k + 1) (visitings (terms (drop (k + 1) es))) standing path) u) next ∙
    (sym (noted_append allows (visits (term_of e) (standing_of standing op m k) (argument_path op m k path)) (all_visits op m (k + 1) (visitings (terms (drop (k + 1) es))) standing path) s) ∙
    (ap (λ xs. all_noted allows (all_visits op m k (visitings (terms xs)) standing path) s) (sym here) ∙ inv))

-- what was noted is what the definitions say
path_kept : (a b c : Option (List PathPart)) → first_path (first_path a b) c ≡ first_path a (first_path b c)
path_kept (Some p) b c = refl
path_kept None b c = refl

unread_step : (b : Bool) (path : List PathPart) (later : Option (List PathPart)) → first_path (path_if (not b) path) later ≡ (if b then later else Some path)
unread_step true path later = refl
unread_step false path later = refl

unread_from : (allows : Allowed) (vs : List Visit) (s : MisplacedReads) → (all_noted allows vs s).unread ≡ first_path s.unread (first_unread allows vs)
unread_from allows [] s = end s.unread
  where
    end : (o : Option (List PathPart)) → o ≡ first_path o None
    end (Some p) = refl
    end None = refl
unread_from allows (v ∷ vs) s =
    unread_from allows vs (noted_if (allows v.reads) v s) ∙
    (path_kept s.unread (path_if (not (allows v.reads)) v.path) (first_unread allows vs) ∙
    ap (λ o. first_path s.unread o) (unread_step (allows v.reads) v.path (first_unread allows vs)))

pub unread_found : (allows : Allowed) (vs : List Visit) → (all_noted allows vs none_noted).unread ≡ first_unread allows vs
unread_found allows vs = unread_from allows vs none_noted

-- a `zoom` is stray where another was met, or else where it is no input
abbrev pub zoom_from : Bool → List Visit → Option (List PathPart)
zoom_from met vs = if met then first_zoom_after vs else first_stray_zoom vs

zoom_step : (met zoom input : Bool) (path : List PathPart) (after stray : Option (List PathPart)) → first_path (path_if (zoom && (met || not input)) path) (if met || zoom then after else stray) ≡ (if met then (if zoom then Some path else after) else (if zoom then (if input then after else Some path) else stray))
zoom_step true true input path after stray = refl
zoom_step true false input path after stray = refl
zoom_step false true true path after stray = refl
zoom_step false true false path after stray = refl
zoom_step false false input path after stray = refl

zoom_walk : (allows : Allowed) (vs : List Visit) (s : MisplacedReads) → (all_noted allows vs s).zoom ≡ first_path s.zoom (zoom_from s.has_zoom vs)
zoom_walk allows [] s = end s.zoom s.has_zoom
  where
    end : (o : Option (List PathPart)) (b : Bool) → o ≡ first_path o (zoom_from b [])
    end (Some p) b = refl
    end None true = refl
    end None false = refl
zoom_walk allows (v ∷ vs) s =
    zoom_walk allows vs (noted_if (allows v.reads) v s) ∙
    (path_kept s.zoom (path_if (v.reads.zoom && (s.has_zoom || not (is_input v.standing))) v.path) (zoom_from (s.has_zoom || v.reads.zoom) vs) ∙
    ap (λ o. first_path s.zoom o) (zoom_step s.has_zoom v.reads.zoom (is_input v.standing) v.path (first_zoom_after vs) (first_stray_zoom vs)))

pub zoom_found : (allows : Allowed) (vs : List Visit) → (all_noted allows vs none_noted).zoom ≡ first_stray_zoom vs
zoom_found allows vs = zoom_walk allows vs none_noted

-- the end of the walk
pub visit_end : (allows : Allowed) (op : Operator) (m k : ℕ) (es : List Expr) (standing : Standing) (path : List PathPart) (s : MisplacedReads) (all : MisplacedReads) → all_noted allows (all_visits op m k (visitings (terms (drop k es))) standing path) s ≡ all → length es ≤ k → s ≡ all
visit_end allows op m k es standing path s all inv done = ap (λ xs. all_noted allows (all_visits op m k (visitings (terms xs)) standing path) s) (sym (drop_all k es done)) ∙ inv
