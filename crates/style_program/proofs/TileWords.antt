-- The tiles of words, one by one: of how many sources they are, and how many of each.
use Rattle.std.proofs.Common.{◌≡◌, ◌∙◌, ◌≤◌, ◌<◌, ℕ, ◌+◌, List, [], ◌∷◌, ◌++◌, length, filter, map, get_or, take, drop, refl, sym, ap, subst, arith}
use Rattle.std.specs.Prelude.{Bool, true, false, not, ◌&&◌, ◌||◌, nat_le, nat_eq, if◌then◌else◌}
use Rattle.std.specs.List.{list_all, list_any}
use Rattle.std.specs.Str.{bytes_eq}
use Rattle.std.proofs.lemmas.Bool.{leb-true, le-leb}
use Rattle.std.proofs.lemmas.List.{append-nil, append_assoc, length-append, map-append, take_more, take-append-drop}
use Rattle.std.proofs.lemmas.List.Elements.{filter-append}
use Rattle.std.proofs.lemmas.List.Folds.{list_all-append}
use Rattle.std.proofs.lemmas.Slice.Eq.{bytes_eq-Decides}
use Rattle.style_program.specs.Words.{TileWord, is_of, count_of, sources_of, most_sources, most_tiles, are_allowed}

-- ---- counts

abbrev pub one_if : Bool → ℕ
one_if holds = if holds then 1 else 0

counted_one : (source : List ℕ) (t : TileWord) (same : Bool) → is_of source t ≡ same → count_of source (t ∷ []) ≡ one_if same
counted_one source t true h = ap (λ b. length (if b then t ∷ [] else [])) h
counted_one source t false h = ap (λ b. length (if b then t ∷ [] else [])) h

counted_next : (source : List ℕ) (ts : List TileWord) (t : TileWord) → count_of source (ts ++ t ∷ []) ≡ count_of source ts + one_if (is_of source t)
counted_next source ts t =
    ap length (filter-append (is_of source) ts (t ∷ []))
    ∙ (length-append (filter (is_of source) ts) (filter (is_of source) (t ∷ []))
    ∙ ap (λ n. count_of source ts + n) (counted_one source t (is_of source t) refl))

any_step : (same : Bool) (t : TileWord) (of_it : List TileWord) (any : Bool) → any ≡ not (nat_eq (length of_it) 0)
    → (same || any) ≡ not (nat_eq (length (if same then t ∷ of_it else of_it)) 0)
any_step true t of_it any h = grind arith
any_step false t of_it any h = h

any_counted : (source : List ℕ) (ts : List TileWord) → list_any (is_of source) ts ≡ not (nat_eq (count_of source ts) 0)
any_counted source [] = refl
any_counted source (t ∷ ts) = any_step (is_of source t) t (filter (is_of source) ts) (list_any (is_of source) ts) (any_counted source ts)

-- ---- the sources with one tile more

same_test : (r s : Bool) → (r ≡ true → s ≡ true) → (s ≡ true → r ≡ true) → r ≡ s
same_test true s f g = sym (f refl)
same_test false true f g = g refl
same_test false false f g = refl

either_way : (a b : List ℕ) → bytes_eq a b ≡ bytes_eq b a
either_way a b =
    same_test (bytes_eq a b) (bytes_eq b a)
    (λ h. (bytes_eq-Decides b a).1 (sym ((bytes_eq-Decides a b).0 h)))
    (λ h. (bytes_eq-Decides a b).1 (sym ((bytes_eq-Decides b a).0 h)))

-- the source of a tile, where it is not known yet
abbrev new_source : List ℕ → Bool → List (List ℕ)
new_source source known = if known then [] else source ∷ []

none_kept : (source : List ℕ) (same : Bool) → [] ≡ new_source source (same || true)
none_kept source true = refl
none_kept source false = refl

one_kept : (source : List ℕ) (same : Bool) → (if not same then source ∷ [] else []) ≡ new_source source (same || false)
one_kept source true = refl
one_kept source false = refl

kept_new : (x source : List ℕ) (known : Bool)
    → filter (λ s. not (bytes_eq s x)) (new_source source known) ≡ new_source source (bytes_eq x source || known)
kept_new x source true = none_kept source (bytes_eq x source)
kept_new x source false = ap (λ b. if not b then source ∷ [] else []) (either_way source x) ∙ one_kept source (bytes_eq x source)

sources_next : (ts : List TileWord) (t : TileWord) → sources_of (ts ++ t ∷ []) ≡ sources_of ts ++ new_source t.0 (list_any (is_of t.0) ts)
sources_next [] t = refl
sources_next (x ∷ ts) t =
    let others : List ℕ → Bool = λ s. not (bytes_eq s x.0) in
    let new = new_source t.0 (list_any (is_of t.0) ts) in
    ap (λ ss. x.0 ∷ filter others ss) (sources_next ts t)
    ∙ ap (λ ss. x.0 ∷ ss)
    (filter-append others (sources_of ts) new ∙ ap (λ ss. filter others (sources_of ts) ++ ss) (kept_new x.0 t.0 (list_any (is_of t.0) ts)))

new_length : (source : List ℕ) (none known : Bool) → known ≡ not none → length (new_source source known) ≡ one_if none
new_length source true known h = ap (λ b. length (new_source source b)) h
new_length source false known h = ap (λ b. length (new_source source b)) h

-- a tile is of a new source, where there is none of its source before it
pub source_counted : (ts : List TileWord) (t : TileWord)
    → length (sources_of (ts ++ t ∷ [])) ≡ length (sources_of ts) + one_if (nat_eq (count_of t.0 ts) 0)
source_counted ts t =
    ap length (sources_next ts t)
    ∙ (length-append (sources_of ts) (new_source t.0 (list_any (is_of t.0) ts))
    ∙ ap (λ n. length (sources_of ts) + n) (new_length t.0 (nat_eq (count_of t.0 ts) 0) (list_any (is_of t.0) ts) (any_counted t.0 ts)))

-- ---- what is allowed of the tiles up to one

-- each of some tiles is of a source with few enough among all
abbrev each_few : (all some : List TileWord) → Bool
each_few all some = list_all (λ (x : TileWord). nat_le (count_of x.0 all) most_tiles) some

left : (a b : Bool) → (a && b) ≡ true → a ≡ true
left true b h = refl
left false b h = h

right : (a b : Bool) → (a && b) ≡ true → b ≡ true
right true b h = h
right false b h = absurd (cc)

both : (a b : Bool) → a ≡ true → b ≡ true → (a && b) ≡ true
both true b h k = k
both false b h k = h

more_by : (same : Bool) (n : ℕ) → n ≤ n + one_if same
more_by true n = omega arith
more_by false n = omega arith

le_plus_none : (n : ℕ) → n ≤ most_tiles → n + 0 ≤ most_tiles
le_plus_none n h = omega arith

few_by : (same : Bool) (n : ℕ) → n ≤ most_tiles → (same ≡ true → n < most_tiles) → n + one_if same ≤ most_tiles
few_by true n h k = let below = k refl in omega arith
few_by false n h k = le_plus_none n h

each_less : (all : List TileWord) (t : TileWord) (some : List TileWord) → each_few (all ++ t ∷ []) some ≡ true → each_few all some ≡ true
each_less all t [] h = refl
each_less all t (x ∷ xs) h =
    let here = nat_le (count_of x.0 (all ++ t ∷ [])) most_tiles in
    let rest = each_few (all ++ t ∷ []) xs in
    let few = leb-true (count_of x.0 (all ++ t ∷ [])) most_tiles (left here rest h) in
    let more = more_by (is_of x.0 t) (count_of x.0 all) in
    both (nat_le (count_of x.0 all) most_tiles) (each_few all xs)
    (le-leb (count_of x.0 all) most_tiles (omega (arith, few, more, counted_next x.0 all t)))
    (each_less all t xs (right here rest h))

each_more : (all : List TileWord) (t : TileWord) (some : List TileWord) → count_of t.0 all < most_tiles
    → each_few all some ≡ true → each_few (all ++ t ∷ []) some ≡ true
each_more all t [] k h = refl
each_more all t (x ∷ xs) k h =
    let here = nat_le (count_of x.0 all) most_tiles in
    let rest = each_few all xs in
    let few = leb-true (count_of x.0 all) most_tiles (left here rest h) in
    let own : is_of x.0 t ≡ true → count_of x.0 all < most_tiles =
    λ same. subst (λ s. count_of s all < most_tiles) ((bytes_eq-Decides t.0 x.0).0 same) k in
    both (nat_le (count_of x.0 (all ++ t ∷ [])) most_tiles) (each_few (all ++ t ∷ []) xs)
    (le-leb (count_of x.0 (all ++ t ∷ [])) most_tiles
    (omega (arith, few_by (is_of x.0 t) (count_of x.0 all) few own, counted_next x.0 all t)))
    (each_more all t xs k (right here rest h))

last_few : (all : List TileWord) (t : TileWord) → each_few all (t ∷ []) ≡ true → count_of t.0 all ≤ most_tiles
last_few all t h = leb-true (count_of t.0 all) most_tiles (left (nat_le (count_of t.0 all) most_tiles) true h)

few_last : (all : List TileWord) (t : TileWord) → count_of t.0 all ≤ most_tiles → each_few all (t ∷ []) ≡ true
few_last all t h = both (nat_le (count_of t.0 all) most_tiles) true (le-leb (count_of t.0 all) most_tiles h) refl

module _ (ts : List TileWord) (t : TileWord) where
  abbrev next : List TileWord
  next = ts ++ t ∷ []

  abbrev few_sources : List TileWord → Bool
  few_sources tiles = nat_le (length (sources_of tiles)) most_sources

  own_counted : count_of t.0 next ≡ count_of t.0 ts + 1
  own_counted = counted_next t.0 ts t ∙ ap (λ b. count_of t.0 ts + one_if b) ((bytes_eq-Decides t.0 t.0).1 refl)

  -- one tile more is allowed
  allowed_next : are_allowed ts ≡ true → length (sources_of next) ≤ most_sources → count_of t.0 ts < most_tiles → are_allowed next ≡ true
  allowed_next h few k =
      let each = right (few_sources ts) (each_few ts ts) h in
      let own = few_last next t (omega (arith, own_counted, k)) in
      both (few_sources next) (each_few next next) (le-leb (length (sources_of next)) most_sources few)
      (list_all-append (λ (x : TileWord). nat_le (count_of x.0 next) most_tiles) ts (t ∷ [])
      ∙ both (each_few next ts) (each_few next (t ∷ [])) (each_more ts t ts k each) own)

  each_before : are_allowed next ≡ true → (each_few next ts && each_few next (t ∷ [])) ≡ true
  each_before h =
      sym (list_all-append (λ (x : TileWord). nat_le (count_of x.0 next) most_tiles) ts (t ∷ []))
      ∙ right (few_sources next) (each_few next next) h

  sources_few : are_allowed next ≡ true → length (sources_of next) ≤ most_sources
  sources_few h = leb-true (length (sources_of next)) most_sources (left (few_sources next) (each_few next next) h)

  tiles_few : are_allowed next ≡ true → count_of t.0 ts < most_tiles
  tiles_few h =
      let own = last_few next t (right (each_few next ts) (each_few next (t ∷ [])) (each_before h)) in
      omega (arith, own, own_counted)

  -- where tiles are allowed, so are those before the last
  allowed_before : are_allowed next ≡ true → are_allowed ts ≡ true
  allowed_before h =
      let more = more_by (nat_eq (count_of t.0 ts) 0) (length (sources_of ts)) in
      both (few_sources ts) (each_few ts ts)
      (le-leb (length (sources_of ts)) most_sources (omega (arith, sources_few h, source_counted ts t, more)))
      (each_less ts t ts (left (each_few next ts) (each_few next (t ∷ [])) (each_before h)))

allowed_front : (ts later : List TileWord) → are_allowed (ts ++ later) ≡ true → are_allowed ts ≡ true
allowed_front ts [] h = sym (ap are_allowed (append-nil ts)) ∙ h
allowed_front ts (t ∷ later) h =
    allowed_before ts t (allowed_front (ts ++ t ∷ []) later (ap are_allowed (append_assoc ts (t ∷ []) later) ∙ h))

-- ---- the tiles of a list up to a place

refused_with : (ts later : List TileWord) (allowed : Bool) → are_allowed (ts ++ later) ≡ allowed → (are_allowed ts ≡ true → ⊥) → allowed ≡ false
refused_with ts later true h never = absurd (never (allowed_front ts later h))
refused_with ts later false h never = refl

module _ {X : Type 0} (tile_of : X → TileWord) (xs : List X) (i : ℕ) (other : X) (below : i < length xs) where
  abbrev x : X
  x = get_or xs i other

  abbrev front : List TileWord
  front = map tile_of (take i xs)

  abbrev with_next : List TileWord
  with_next = map tile_of (take (i + 1) xs)

  pub is_next : with_next ≡ front ++ tile_of x ∷ []
  is_next =
      ap (map tile_of) (take_more xs i other below) ∙ map-append tile_of (take i xs) (x ∷ [])

  counted : length (sources_of with_next) ≡ length (sources_of front) + one_if (nat_eq (count_of (tile_of x).0 front) 0)
  counted = ap (λ ts. length (sources_of ts)) is_next ∙ source_counted front (tile_of x)

  pub total : (sources new before : ℕ) → sources ≡ length (sources_of front) → before ≡ count_of (tile_of x).0 front
      → new ≡ one_if (nat_eq before 0) → sources + new ≡ length (sources_of with_next)
  total sources new before h k m =
      ap (λ n. n + new) h ∙ (ap (λ n. length (sources_of front) + n) (m ∙ ap (λ n. one_if (nat_eq n 0)) k) ∙ sym counted)

  pub allowed : are_allowed front ≡ true → length (sources_of with_next) ≤ most_sources → count_of (tile_of x).0 front < most_tiles
      → are_allowed with_next ≡ true
  allowed h few k =
      ap are_allowed is_next
      ∙ allowed_next front (tile_of x) h (subst (λ ts. length (sources_of ts) ≤ most_sources) is_next few) k

  refused : (are_allowed with_next ≡ true → ⊥) → are_allowed (map tile_of xs) ≡ false
  refused never =
      refused_with with_next (map tile_of (drop (i + 1) xs)) (are_allowed (map tile_of xs))
      (sym (ap are_allowed (map-append tile_of (take (i + 1) xs) (drop (i + 1) xs)))
      ∙ ap (λ ys. are_allowed (map tile_of ys)) (take-append-drop (i + 1) xs))
      never

  pub many_sources : most_sources < length (sources_of with_next) → are_allowed (map tile_of xs) ≡ false
  many_sources many = refused (λ h.
      let few = sources_few front (tile_of x) (sym (ap are_allowed is_next) ∙ h) in
      let same = ap (λ ts. length (sources_of ts)) is_next in
      omega arith)

  pub many_tiles : most_tiles ≤ count_of (tile_of x).0 front → are_allowed (map tile_of xs) ≡ false
  many_tiles many = refused (λ h.
      let few = tiles_few front (tile_of x) (sym (ap are_allowed is_next) ∙ h) in
      omega arith)
