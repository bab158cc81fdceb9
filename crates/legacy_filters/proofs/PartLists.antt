-- Parts of a filter and values of a test, one after another.
use Rattle.std.proofs.Common.{◌≡◌, ◌∙◌, ℕ, zero, suc, ◌+◌, ◌<◌, ◌≤◌, List, [], ◌∷◌, ◌++◌, length, drop, get_or, refl, sym, ap, add-one, arith, append_assoc, rules}
use Rattle.std.specs.Prelude.{Option, Some, None, Result, Ok, Err, map, Vec, if◌then◌else◌}
use Rattle.std.proofs.lemmas.List.{map-append}
use Rattle.std.proofs.lemmas.Bool.{lt-ltb}
use Rattle.decimal_json.specs.Tree.{no_trees, tree}
use Rattle.decimal_json.specs.View.{tree_of, trees}
use Rattle.decimal_json.specs.declared.paths.PathPart.{PathPart}
use Rattle.decimal_json.specs.declared.paths.PathPart.TheVariants.{Index}
use Rattle.decimal_json.specs.declared.tree.Json.{Json}
use Rattle.legacy_filters.specs.declared.filter.Group.{Group}
use Rattle.legacy_filters.specs.declared.filter.Part.{Part, the_lemmas}
use Rattle.legacy_filters.specs.declared.filter.Part.TheVariants.{Group as GroupOf}
use Rattle.std.specs.declared.alloc.Global.{Global}
use Rattle.legacy_filters.specs.declared.filter.FilterFault.{FilterFault}
use Rattle.legacy_filters.specs.declared.filter.Key.{Key}
use Rattle.legacy_filters.specs.declared.scalars.Scalar.{Scalar}
use Rattle.legacy_filters.specs.Filter.{Filter, group, Filters, no_filters, filter, filters_of}
use Rattle.legacy_filters.specs.Form.{and_filter, and_scalar, form, forms, parts_form, grouped, group_form, ill_formed, scalar_form, scalars_form}
use Rattle.legacy_filters.specs.View.{part_filter}

-- filters, and then others
abbrev pub joined : List Filter → Filters → Filters
joined [] gs = gs
joined (f ∷ fs) gs = filter f (joined fs gs)

-- the parts so far, and then those to come
abbrev pub after_filters : List Filter → Result Filters FilterFault → Result Filters FilterFault
after_filters fs (Ok gs) = Ok (joined fs gs)
after_filters fs (Err fault) = Err fault

joined_push : (fs : List Filter) (f : Filter) (gs : Filters) → joined (fs ++ f ∷ []) gs ≡ joined fs (filter f gs)
joined_push [] f gs = refl
joined_push (g ∷ fs) f gs = ap (filter g) (joined_push fs f gs)

joined_none : (fs : List Filter) → joined fs no_filters ≡ filters_of fs
joined_none [] = refl
joined_none (f ∷ fs) = ap (filter f) (joined_none fs)

-- one part more
pub after_filter : (fs : List Filter) (f : Filter) (later : Result Filters FilterFault) → after_filters (fs ++ f ∷ []) later ≡ after_filters fs (and_filter (Ok f) later)
after_filter fs f (Ok gs) = ap Ok (joined_push fs f gs)
after_filter fs f (Err fault) = refl

-- no part is to come
pub after_last : (fs : List Filter) → after_filters fs (Ok no_filters) ≡ Ok (filters_of fs)
after_last fs = ap Ok (joined_none fs)

-- the elements from a place on are that element and those after it
elements_from : (es : List Json) (i : ℕ) (e : Json) → i < length es → e ≡ get_or es i e → trees (drop i es) ≡ tree (tree_of e) (trees (drop (suc i) es))
elements_from [] i e h p = absurd (omega arith)
elements_from (d ∷ es) zero e h p = ap (λ x. tree (tree_of x) (trees es)) (sym p)
elements_from (d ∷ es) (suc i) e h p = elements_from es i e (omega arith) p

-- a turn of the loop over the parts of a group
pub part_kept : (es : List Json) (i count : ℕ) (path : List PathPart) (e : Json) (ps qs : List Part) (p : Part) (total : Result Filters FilterFault)
    → i < length es → e ≡ get_or es i e → qs ≡ ps ++ p ∷ []
    → Ok (part_filter p) ≡ form (tree_of e) count (path ++ Index (i + 1) ∷ [])
    → after_filters (map part_filter ps) (parts_form (i + 1) (forms (trees (drop i es))) count path) ≡ total
    → after_filters (map part_filter qs) (parts_form (i + 1 + 1) (forms (trees (drop (i + 1) es))) count path) ≡ total
part_kept es i count path e ps qs p total within is pushed read kept =
    let later = parts_form (i + 1 + 1) (forms (trees (drop (i + 1) es))) count path in
    ap (λ xs. after_filters (map part_filter xs) later) pushed
    ∙ (ap (λ fs. after_filters fs later) (map-append part_filter ps (p ∷ []))
    ∙ (after_filter (map part_filter ps) (part_filter p) later
    ∙ (ap (λ r. after_filters (map part_filter ps) (and_filter r later)) read
    ∙ (ap (λ n. after_filters (map part_filter ps) (and_filter (form (tree_of e) count (path ++ Index (i + 1) ∷ [])) (parts_form (i + 1 + 1) (forms (trees (drop n es))) count path))) (add-one i)
    ∙ (ap (λ ts. after_filters (map part_filter ps) (parts_form (i + 1) (forms ts) count path)) (sym (elements_from es i e within is))
    ∙ kept)))))

none_from : (es : List Json) (i : ℕ) → length es ≤ i → trees (drop i es) ≡ no_trees
none_from [] zero h = refl
none_from [] (suc i) h = refl
none_from (e ∷ es) zero h = absurd (omega arith)
none_from (e ∷ es) (suc i) h = none_from es i (omega arith)

-- the filter of a group
pub group_filter : (g : Group) (parts : Vec Part Global) → part_filter (GroupOf g parts) ≡ group g (filters_of (map part_filter parts.items))
group_filter g parts = search (rules, the_lemmas)

-- the loop has read all parts
pub group_read : (g : Group) (es : List Json) (i count : ℕ) (path : List PathPart) (ps : List Part)
    → count < 24 → length es ≤ i
    → after_filters (map part_filter ps) (parts_form (i + 1) (forms (trees (drop i es))) (count + 1) path) ≡ parts_form 1 (forms (trees es)) (count + 1) path
    → Ok (group g (filters_of (map part_filter ps))) ≡ group_form g (forms (trees es)) count path
group_read g es i count path ps within done kept =
    let whole = parts_form 1 (forms (trees es)) (count + 1) path in
    ap (grouped g) (sym (after_last (map part_filter ps)))
    ∙ (ap (λ ts. grouped g (after_filters (map part_filter ps) (parts_form (i + 1) (forms ts) (count + 1) path))) (sym (none_from es i done))
    ∙ (ap (grouped g) kept
    ∙ ap (λ b. if b then grouped g whole else ill_formed path) (sym (lt-ltb count 24 within))))

-- the loop has met a part that is no filter
pub group_refused : (g : Group) (es : List Json) (i count : ℕ) (path : List PathPart) (e : Json) (ps : List Part) (fault : FilterFault)
    → count < 24 → i < length es → e ≡ get_or es i e
    → Err fault ≡ form (tree_of e) (count + 1) (path ++ Index (i + 1) ∷ [])
    → after_filters (map part_filter ps) (parts_form (i + 1) (forms (trees (drop i es))) (count + 1) path) ≡ parts_form 1 (forms (trees es)) (count + 1) path
    → Err fault ≡ group_form g (forms (trees es)) count path
group_refused g es i count path e ps fault within before is refused kept =
    let whole = parts_form 1 (forms (trees es)) (count + 1) path in
    let later = parts_form (i + 1 + 1) (forms (trees (drop (suc i) es))) (count + 1) path in
    ap (λ r. grouped g (after_filters (map part_filter ps) (and_filter r later))) refused
    ∙ (ap (λ ts. grouped g (after_filters (map part_filter ps) (parts_form (i + 1) (forms ts) (count + 1) path))) (sym (elements_from es i e before is))
    ∙ (ap (grouped g) kept
    ∙ ap (λ b. if b then grouped g whole else ill_formed path) (sym (lt-ltb count 24 within))))

-- the values so far, and then those to come
abbrev pub after_scalars : List Scalar → Option (List Scalar) → Option (List Scalar)
after_scalars vs (Some ws) = Some (vs ++ ws)
after_scalars vs None = None

pub after_scalar : (vs : List Scalar) (v : Scalar) (later : Option (List Scalar)) → after_scalars (vs ++ v ∷ []) later ≡ after_scalars vs (and_scalar (Some v) later)
after_scalar vs v (Some ws) = ap Some (append_assoc vs (v ∷ []) ws)
after_scalar vs v None = refl

-- a turn of the loop over the values of a test
pub scalar_kept : (key : Key) (es : List Json) (i : ℕ) (e : Json) (vs ws : List Scalar) (v : Scalar) (total : Option (List Scalar))
    → i < length es → e ≡ get_or es i e → ws ≡ vs ++ v ∷ [] → Some v ≡ scalar_form key (tree_of e)
    → after_scalars vs (scalars_form key (trees (drop i es))) ≡ total
    → after_scalars ws (scalars_form key (trees (drop (i + 1) es))) ≡ total
scalar_kept key es i e vs ws v total within is pushed read kept =
    let later = scalars_form key (trees (drop (i + 1) es)) in
    ap (λ xs. after_scalars xs later) pushed
    ∙ (after_scalar vs v later
    ∙ (ap (λ r. after_scalars vs (and_scalar r later)) read
    ∙ (ap (λ n. after_scalars vs (and_scalar (scalar_form key (tree_of e)) (scalars_form key (trees (drop n es))))) (add-one i)
    ∙ (ap (λ ts. after_scalars vs (scalars_form key ts)) (sym (elements_from es i e within is))
    ∙ kept))))
