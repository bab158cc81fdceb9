-- An index of names, one name after another.
use Rattle.std.proofs.Common.{◌≡◌, ◌<◌, ◌+◌, List, [], ◌∷◌, ℕ, suc, length, get_or, drop, drop-cons, add-one, refl, ap, sym, subst, ◌∙◌, true, false, arith}
use Rattle.std.specs.Prelude.{Bool, ◌||◌, Option, Some, None, IfSome, is_some, if◌then◌else◌}
use Rattle.std.specs.Str.{bytes_eq}
use Rattle.expr_syntax.specs.BoundNames.{is_among}
use Rattle.expr_syntax.specs.NameIndex.{or_last, last_place}
use Rattle.expr_syntax.specs.TextNumbers.{TextNumbers, number_of_text, NotesText}

-- the places of the names to come and then those of the map are the last of all
abbrev pub ArePlacesWith : TextNumbers → ℕ → List (List ℕ) → List (List ℕ) → Type 0
ArePlacesWith places i later names = (s : List ℕ) → or_last (last_place i later s) (number_of_text places s) ≡ last_place 0 names s

step : (later old : Option ℕ) (b : Bool) (i : ℕ) → or_last later (if b then Some i else old) ≡ or_last (or_last later (if b then Some i else None)) old
step (Some j) old b i = refl
step None old true i = refl
step None old false i = refl

pub places_more : (new old : TextNumbers) (n : List ℕ) (i : ℕ) (later names : List (List ℕ)) → NotesText n i old new → ArePlacesWith old i (n ∷ later) names → ArePlacesWith new (i + 1) later names
places_more new old n i later names noted h s =
    ap (or_last (last_place (i + 1) later s)) (noted s)
    ∙ (step (last_place (i + 1) later s) (number_of_text old s) (bytes_eq n s) i ∙ h s)

pub next_name : (names : List (List ℕ)) (i : ℕ) (n : List ℕ) → i < length names → n ≡ get_or names i n → drop i names ≡ n ∷ drop (i + 1) names
next_name names i n h is = drop-cons names i n h ∙ (ap (λ x. x ∷ drop (suc i) names) (sym is) ∙ ap (λ k. n ∷ drop k names) (sym (add-one i)))

-- a name has a last place exactly where it is among the names
or_some : (later : Option ℕ) (b : Bool) (i : ℕ) → is_some (or_last later (if b then Some i else None)) ≡ (b || is_some later)
or_some (Some j) true i = refl
or_some (Some j) false i = refl
or_some None true i = refl
or_some None false i = refl

place_known : (i : ℕ) (names : List (List ℕ)) (s : List ℕ) → is_some (last_place i names s) ≡ is_among names s
place_known i [] s = refl
place_known i (n ∷ names) s =
    or_some (last_place (i + 1) names s) (bytes_eq n s) i ∙ ap (λ b. bytes_eq n s || b) (place_known (i + 1) names s)

pub place_of_known : (names : List (List ℕ)) (s : List ℕ) → is_some (last_place 0 names s) ≡ is_among names s
place_of_known names s = place_known 0 names s

-- it is a place of the names
or_below : (later : Option ℕ) (b : Bool) (i m : ℕ) → i < m → IfSome later (λ k. k < m) → IfSome (or_last later (if b then Some i else None)) (λ k. k < m)
or_below (Some j) b i m l h = h
or_below None true i m l h = l
or_below None false i m l h = tt

place_below : (i m : ℕ) (names : List (List ℕ)) (s : List ℕ) → i + length names ≡ m → IfSome (last_place i names s) (λ k. k < m)
place_below i m [] s e = tt
place_below i m (n ∷ names) s e =
    or_below (last_place (i + 1) names s) (bytes_eq n s) i m (omega arith) (place_below (i + 1) m names s (omega arith))

pub last_within : (names : List (List ℕ)) (s : List ℕ) (found : Option ℕ) → found ≡ last_place 0 names s → IfSome found (λ k. k < length names)
last_within names s found e = subst (λ x. IfSome x (λ k. k < length names)) (sym e) (place_below 0 (length names) names s (omega arith))
