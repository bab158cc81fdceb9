-- Paths that go on from a value in the same way.
use Rattle.std.proofs.Common.{◌≡◌, ◌∙◌, refl, sym, ap, ap₂, subst, ℕ, zero, suc, ◌+◌, ◌<◌, ◌≤◌, List, [], ◌∷◌, ◌++◌, map, drop, take, length, get_or, arith}
use Rattle.std.specs.Prelude.{Option, Some, None, option_map, unwrap_or, replicate, slice_get, Bool, true, false, if◌then◌else◌}
use Rattle.std.specs.Borrow.{Bor}
use Rattle.std.specs.Str.{bytes_eq}
use Rattle.std.proofs.Math.Seq.{drop-nil}
use Rattle.std.proofs.lemmas.List.{append_assoc, drop_all, length-map, map-append, take-append-drop}
use Rattle.decimal_json.specs.Tree.{Tree, null, boolean, number, text, list, object, Trees, no_trees, tree, Fields, no_fields, field}
use Rattle.decimal_json.specs.TreeSize.{nodes, trees_nodes, fields_nodes}
use Rattle.decimal_json.specs.declared.paths.PathPart.{PathPart}
use Rattle.decimal_json.specs.declared.paths.PathPart.TheVariants.{Key, Index}
use Rattle.text_places.specs.Skipping.{member_value, next_item, next_member}
use Rattle.text_places.specs.Starts.{AreAlike, first_part, lefts_below, paths_seen, step_at}
use Rattle.text_places.specs.TextPlace.{place_before, text_place}
use Rattle.text_places.specs.ValuePlace.{PlacedValue, item_at, member_at, part_at, place_below, whole_value}

-- ---- a part is smaller than the value

item_smaller : (i : ℕ) (ts : Trees) (b : List ℕ) (c : PlacedValue) → item_at i ts b ≡ Some c → nodes c.value ≤ trees_nodes ts
item_smaller i no_trees b c e = absurd (cc)
item_smaller zero (tree t ts) b c e =
    let same : record { value = t; name = b; at = b } ≡ c = cc in
    let size : nodes t ≡ nodes c.value = ap (λ (v : PlacedValue). nodes v.value) same in
    omega (arith, size)
item_smaller (suc i) (tree t ts) b c e = omega (arith, item_smaller i ts (next_item t b) c e)

first_or_later : (same : Bool) (t : Tree) (b : List ℕ) (later : Option PlacedValue) (c : PlacedValue) (n : ℕ)
    → (if same then Some (record { value = t; name = b; at = member_value b }) else later) ≡ Some c
    → (later ≡ Some c → nodes c.value ≤ n) → nodes c.value ≤ nodes t + n
first_or_later true t b later c n e go =
    let same : record { value = t; name = b; at = member_value b } ≡ c = cc in
    let size : nodes t ≡ nodes c.value = ap (λ (v : PlacedValue). nodes v.value) same in
    omega (arith, size)
first_or_later false t b later c n e go = omega (arith, go e)

member_smaller : (q : List ℕ) (fs : Fields) (b : List ℕ) (c : PlacedValue) → member_at q fs b ≡ Some c → nodes c.value ≤ fields_nodes fs
member_smaller q no_fields b c e = absurd (cc)
member_smaller q (field k t fs) b c e =
    first_or_later (bytes_eq k q) t b (member_at q fs (next_member t b)) c (fields_nodes fs) e (member_smaller q fs (next_member t b) c)

part_smaller : (part : PathPart) (t : Tree) (b : List ℕ) (c : PlacedValue) → part_at part t b ≡ Some c → nodes c.value < nodes t
part_smaller (Index i) (list ts) b c e = omega (arith, item_smaller i ts _ c e)
part_smaller (Key q) (object fs) b c e = omega (arith, member_smaller q fs _ c e)
part_smaller (Index i) null b c e = absurd (cc)
part_smaller (Index i) (boolean v) b c e = absurd (cc)
part_smaller (Index i) (number n) b c e = absurd (cc)
part_smaller (Index i) (text s) b c e = absurd (cc)
part_smaller (Index i) (object fs) b c e = absurd (cc)
part_smaller (Key q) null b c e = absurd (cc)
part_smaller (Key q) (boolean v) b c e = absurd (cc)
part_smaller (Key q) (number n) b c e = absurd (cc)
part_smaller (Key q) (text s) b c e = absurd (cc)
part_smaller (Key q) (list ts) b c e = absurd (cc)

pub step_smaller : (part : Option PathPart) (v c : PlacedValue) → step_at part v ≡ Some c → nodes c.value < nodes v.value
step_smaller (Some part) v c e = part_smaller part v.value v.at c e
step_smaller None v c e = absurd (cc)

-- ---- one step along a path

place_step : (p : List PathPart) (depth : ℕ) (v : PlacedValue)
    → place_below (drop depth p) v ≡ unwrap_or (option_map (place_below (drop (depth + 1) p)) (step_at (slice_get p depth) v)) v.name
place_step [] zero v = refl
place_step [] (suc depth) v = refl
place_step (x ∷ p) zero v = refl
place_step (x ∷ p) (suc depth) v =
    let next : suc (depth + 1) ≡ suc depth + 1 = omega arith in
    place_step p depth v
    ∙ ap (λ (n : ℕ). unwrap_or (option_map (place_below (drop n (x ∷ p))) (step_at (slice_get p depth) v)) v.name) next

one_goes : (p : List PathPart) (depth : ℕ) (v c : PlacedValue) (part : Option PathPart) → slice_get p depth ≡ part → step_at part v ≡ Some c
    → place_below (drop depth p) v ≡ place_below (drop (depth + 1) p) c
one_goes p depth v c part same e =
    place_step p depth v
    ∙ ap (λ (r : Option PlacedValue). unwrap_or (option_map (place_below (drop (depth + 1) p)) r) v.name) (ap (λ (x : Option PathPart). step_at x v) same ∙ e)

one_ends : (p : List PathPart) (depth : ℕ) (v : PlacedValue) (part : Option PathPart) → slice_get p depth ≡ part → step_at part v ≡ None
    → place_below (drop depth p) v ≡ v.name
one_ends p depth v part same e =
    place_step p depth v
    ∙ ap (λ (r : Option PlacedValue). unwrap_or (option_map (place_below (drop (depth + 1) p)) r) v.name) (ap (λ (x : Option PathPart). step_at x v) same ∙ e)

pub run_goes : (depth : ℕ) (v c : PlacedValue) (part : Option PathPart) (ps : List (List PathPart)) → AreAlike depth part ps → step_at part v ≡ Some c
    → lefts_below depth v ps ≡ lefts_below (depth + 1) c ps
run_goes depth v c part [] h e = refl
run_goes depth v c part (p ∷ ps) h e =
    ap₂ (λ (s : List ℕ) (ls : List ℕ). length s ∷ ls) (one_goes p depth v c part h.0 e) (run_goes depth v c part ps h.1 e)

pub run_ends : (depth : ℕ) (v : PlacedValue) (part : Option PathPart) (ps : List (List PathPart)) → AreAlike depth part ps → step_at part v ≡ None
    → lefts_below depth v ps ≡ replicate (length ps) (length v.name)
run_ends depth v part [] h e = refl
run_ends depth v part (p ∷ ps) h e =
    ap₂ (λ (s : List ℕ) (ls : List ℕ). length s ∷ ls) (one_ends p depth v part h.0 e) (run_ends depth v part ps h.1 e)

pub run_ends_here : (depth : ℕ) (v : PlacedValue) (part : Option PathPart) (ps : List (Bor (List PathPart))) → AreAlike depth part (paths_seen ps) → step_at part v ≡ None
    → lefts_below depth v (paths_seen ps) ≡ replicate (length ps) (length v.name)
run_ends_here depth v part ps h e =
    run_ends depth v part (paths_seen ps) h e ∙ ap (λ (n : ℕ). replicate n (length v.name)) (length-map ps (λ (p : Bor (List PathPart)). p.now))

-- ---- runs of paths

-- once no path is left, all are found
pub none_left : (depth : ℕ) (v : PlacedValue) (ps : List (Bor (List PathPart))) (at : ℕ) → length ps ≤ at → lefts_below depth v (paths_seen (drop at ps)) ≡ []
none_left depth v ps at h = ap (λ (qs : List (Bor (List PathPart))). lefts_below depth v (paths_seen qs)) (drop_all at ps h)

lefts_joined : (depth : ℕ) (v : PlacedValue) (run later : List (Bor (List PathPart)))
    → lefts_below depth v (paths_seen (run ++ later)) ≡ lefts_below depth v (paths_seen run) ++ lefts_below depth v (paths_seen later)
lefts_joined depth v run later =
    ap (lefts_below depth v) (map-append (λ (p : Bor (List PathPart)). p.now) run later)
    ∙ map-append (λ (p : List PathPart). length (place_below (drop depth p) v)) (paths_seen run) (paths_seen later)

dropped_twice : {A : Type 0} (n count : ℕ) (xs : List A) → drop (n + count) xs ≡ drop count (drop n xs)
dropped_twice zero count xs =
    let same : 0 + count ≡ count = omega arith in
    ap (λ (m : ℕ). drop m xs) same
dropped_twice {A} (suc n) count [] = drop-nil (suc n + count) ∙ sym (drop-nil {A = A} count)
dropped_twice (suc n) count (x ∷ xs) =
    let same : suc n + count ≡ suc (n + count) = omega arith in
    ap (λ (m : ℕ). drop m (x ∷ xs)) same ∙ dropped_twice n count xs

-- a run of paths is found, and those after it are left
pub run_found : (depth : ℕ) (v : PlacedValue) (ps : List (Bor (List PathPart))) (at count : ℕ) (old new : List ℕ)
    → new ≡ old ++ lefts_below depth v (paths_seen (take count (drop at ps)))
    → new ++ lefts_below depth v (paths_seen (drop (at + count) ps)) ≡ old ++ lefts_below depth v (paths_seen (drop at ps))
run_found depth v ps at count old new e =
    let below = λ (qs : List (Bor (List PathPart))). lefts_below depth v (paths_seen qs) in
    ap (λ (xs : List ℕ). xs ++ below (drop (at + count) ps)) e
    ∙ (append_assoc old (below (take count (drop at ps))) (below (drop (at + count) ps))
    ∙ ap (λ (xs : List ℕ). old ++ xs)
    (ap (λ (qs : List (Bor (List PathPart))). below (take count (drop at ps)) ++ below qs) (dropped_twice at count ps)
    ∙ (sym (lefts_joined depth v (take count (drop at ps)) (drop count (drop at ps)))
    ∙ ap below (take-append-drop count (drop at ps)))))

pub one_is_alike : (depth : ℕ) (ps : List (Bor (List PathPart))) → 0 < length ps → AreAlike depth (first_part depth (paths_seen ps)) (paths_seen (take 1 ps))
one_is_alike depth [] h = absurd (omega arith)
one_is_alike depth (p ∷ ps) h = (refl, tt)

pub first_is : (depth : ℕ) (ps : List (Bor (List PathPart))) (p : Bor (List PathPart)) → 0 < length ps → p ≡ get_or ps 0 p
    → first_part depth (paths_seen ps) ≡ slice_get p.now depth
first_is depth [] p h e = absurd (omega arith)
first_is depth (q ∷ ps) p h e = ap (λ (x : Bor (List PathPart)). slice_get x.now depth) (sym e)

alike_next : (depth : ℕ) (part : Option PathPart) (ps : List (Bor (List PathPart))) (n : ℕ) (p : Bor (List PathPart)) → n < length ps → p ≡ get_or ps n p
    → AreAlike depth part (paths_seen (take n ps)) → slice_get p.now depth ≡ part → AreAlike depth part (paths_seen (take (suc n) ps))
alike_next depth part [] n p h e alike same = absurd (omega arith)
alike_next depth part (q ∷ ps) zero p h e alike same = (ap (λ (x : Bor (List PathPart)). slice_get x.now depth) (sym e) ∙ same, tt)
alike_next depth part (q ∷ ps) (suc n) p h e alike same = (alike.0, alike_next depth part ps n p (omega (arith, h)) e alike.1 same)

pub alike_more : (depth : ℕ) (part : Option PathPart) (ps : List (Bor (List PathPart))) (n : ℕ) (p : Bor (List PathPart)) → n < length ps → p ≡ get_or ps n p
    → AreAlike depth part (paths_seen (take n ps)) → slice_get p.now depth ≡ part → AreAlike depth part (paths_seen (take (n + 1) ps))
alike_more depth part ps n p h e alike same =
    let next : suc n ≡ n + 1 = omega arith in
    subst (λ (m : ℕ). AreAlike depth part (paths_seen (take m ps))) next (alike_next depth part ps n p h e alike same)

-- ---- the places

pub places_of_lefts : (b : List ℕ) (t : Tree) (ps : List (List PathPart))
    → map (place_before b) (lefts_below 0 (whole_value t b) ps) ≡ map (text_place b t) ps
places_of_lefts b t [] = refl
places_of_lefts b t (p ∷ ps) = ap (λ (qs : List _). text_place b t p ∷ qs) (places_of_lefts b t ps)
