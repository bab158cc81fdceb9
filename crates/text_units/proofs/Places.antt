-- The positions of a part in a list of scalar values.
use Rattle.std.proofs.Common.{◌≡◌, ℕ, zero, suc, ◌+◌, ◌-◌, ◌<◌, ◌≤◌, ◌⊎◌, inl, inr, List, [], ◌∷◌, ◌++◌, refl, sym, ap, ◌∙◌, subst, arith, Bool, true, false, length, take, drop, append_assoc}
use Rattle.std.specs.Prelude.{Option, Some, None, nat_eq, nat_le, if◌then◌else◌}
use Rattle.std.specs.Option.{option_map}
use Rattle.std.specs.List.{starts_with}
use Rattle.std.proofs.lemmas.Bool.{cases_lt}
use Rattle.std.proofs.lemmas.List.{length-append, length-drop, length-take-le, take-append-drop, drop-append-le}
use Rattle.std.proofs.lemmas.Slice.Eq.{bytes_eq-Decides}
use Rattle.std.proofs.Math.Seq.{take-append_seam}
use Rattle.text_units.specs.Position.{first_place, place_from, StandsAt, IsFirstPlace}

stands_within : (text part : List ℕ) (place : ℕ) → StandsAt text part place → place ≤ length text
stands_within text part place (before, after, is, long) = omega (arith, ap length is, length-append before (part ++ after))

-- without the first values, the part is that much earlier
stands_later : (text part : List ℕ) (from place : ℕ) → from ≤ length text → StandsAt (drop from text) part place → StandsAt text part (from + place)
stands_later text part from place h (before, after, is, long) = (
  take from text ++ before,
  after,
  sym (take-append-drop from text) ∙ ap (λ x. take from text ++ x) is ∙ sym (append_assoc (take from text) before (part ++ after)),
  length-append (take from text) before ∙ ap (λ n. n + length before) (length-take-le from text h) ∙ ap (λ n. from + n) long,
)

stands_earlier : (text part : List ℕ) (from place : ℕ) → from ≤ place → StandsAt text part place → StandsAt (drop from text) part (place - from)
stands_earlier text part from place h (before, after, is, long) =
    (drop from before, after, ap (drop from) is ∙ drop-append-le from before (part ++ after) (omega arith), length-drop from before ∙ ap (λ n. n - from) long)

-- the test for the front
stands_first : (text part : List ℕ) → starts_with nat_eq text part ≡ true → StandsAt text part 0
stands_first text part e =
    ([], drop (length part) text, sym (take-append-drop (length part) text) ∙ ap (λ x. x ++ drop (length part) text) (sym ((bytes_eq-Decides part (take (length part) text)).0 e)), refl)

stands_not_first : (text part : List ℕ) → starts_with nat_eq text part ≡ false → StandsAt text part 0 → ⊥
stands_not_first text part e ([], after, is, long) =
    let front : part ≡ take (length part) text = sym (ap (take (length part)) is ∙ take-append_seam part after) in
    let yes : starts_with nat_eq text part ≡ true = (bytes_eq-Decides part (take (length part) text)).1 front in
    cc
stands_not_first text part e (c ∷ before, after, is, long) = absurd (omega arith)

-- after one value more
stands_behind : (c : ℕ) (text part : List ℕ) (place : ℕ) → StandsAt text part place → StandsAt (c ∷ text) part (suc place)
stands_behind c text part place (before, after, is, long) = (c ∷ before, after, ap (λ x. c ∷ x) is, ap suc long)

stands_after : (c : ℕ) (text part : List ℕ) (place : ℕ) → StandsAt (c ∷ text) part (suc place) → StandsAt text part place
stands_after c text part place ([], after, is, long) = absurd (omega arith)
stands_after c text part place (d ∷ before, after, is, long) = (before, after, cc, omega arith)

not_behind : (c : ℕ) (text part : List ℕ) (place : ℕ) → (StandsAt (c ∷ text) part 0 → ⊥) → ((p : ℕ) → place ≡ suc p → StandsAt text part p → ⊥) → StandsAt (c ∷ text) part place → ⊥
not_behind c text part zero first later stands = first stands
not_behind c text part (suc place) first later stands = later place refl (stands_after c text part place stands)

first_behind : (c : ℕ) (text part : List ℕ) (r : Option ℕ) → (StandsAt (c ∷ text) part 0 → ⊥) → IsFirstPlace text part 0 r → IsFirstPlace (c ∷ text) part 0 (option_map suc r)
first_behind c text part None first none = λ place h. not_behind c text part place first (λ p e. none p (omega arith))
first_behind c text part (Some least) first (h, stands, before) =
    (omega arith, stands_behind c text part least stands, λ place h low. not_behind c text part place first (λ p e. before p (omega arith) (omega arith)))

by_front : (text part : List ℕ) (r : Option ℕ) (test : Bool) → starts_with nat_eq text part ≡ test → ((StandsAt text part 0 → ⊥) → IsFirstPlace text part 0 r) → IsFirstPlace text part 0 (if test then Some 0 else r)
by_front text part r true e later = (omega arith, stands_first text part e, λ place h low. absurd (omega arith))
by_front text part r false e later = later (stands_not_first text part e)

pub first_place_is : (text part : List ℕ) → IsFirstPlace text part 0 (first_place text part)
first_place_is [] part = by_front [] part None (starts_with nat_eq [] part) refl (λ first place h stands. first (subst (StandsAt [] part) (let none : place ≡ 0 = omega (arith, stands_within [] part place stands) in none) stands))
first_place_is (c ∷ text) part =
    by_front (c ∷ text) part (option_map suc (first_place text part)) (starts_with nat_eq (c ∷ text) part) refl
    (λ first. first_behind c text part (first_place text part) first (first_place_is text part))

first_later : (text part : List ℕ) (from : ℕ) (r : Option ℕ) → from ≤ length text → IsFirstPlace (drop from text) part 0 r → IsFirstPlace text part from (option_map (λ place. from + place) r)
first_later text part from None h none = λ place from_on stands. none (place - from) (omega arith) (stands_earlier text part from place from_on stands)
first_later text part from (Some least) h (low, stands, before) =
    (omega arith, stands_later text part from least h stands, λ place from_on low stands. before (place - from) (omega arith) (omega arith) (stands_earlier text part from place from_on stands))

-- a search in what follows the first values
pub first_place_later : (text part rest : List ℕ) (from : ℕ) (r : Option ℕ) → from ≤ length text → rest ≡ drop from text → r ≡ first_place rest part → IsFirstPlace text part from (option_map (λ place. from + place) r)
first_place_later text part rest from r h is e =
    first_later text part from r h (subst (λ (x : Option ℕ). IsFirstPlace (drop from text) part 0 x) (sym (e ∙ ap (λ x. first_place x part) is)) (first_place_is (drop from text) part))

from_where : (text part : List ℕ) (from : ℕ) (test : Bool) → nat_le from (length text) ≡ test → IsFirstPlace text part from (if test then option_map (λ place. from + place) (first_place (drop from text) part) else None)
from_where text part from true e = first_later text part from (first_place (drop from text) part) (let h : from ≤ length text = grind arith in h) (first_place_is (drop from text) part)
from_where text part from false e = λ place from_on stands. let h : length text < from = grind arith in omega (arith, stands_within text part place stands)

pub place_from_is : (text part : List ℕ) (from : ℕ) → IsFirstPlace text part from (place_from text part from)
place_from_is text part from = from_where text part from (nat_le from (length text)) refl

-- there is only one first place
least_of_two : (text part : List ℕ) (from p q : ℕ) → IsFirstPlace text part from (Some p) → IsFirstPlace text part from (Some q) → (p < q) ⊎ (q ≤ p) → (q < p) ⊎ (p ≤ q) → p ≡ q
least_of_two text part from p q a b (inl h) k = absurd (b.2 p a.0 h a.1)
least_of_two text part from p q a b (inr h) (inl k) = absurd (a.2 q b.0 k b.1)
least_of_two text part from p q a b (inr h) (inr k) = omega arith

pub first_place_only : (text part : List ℕ) (from : ℕ) (r s : Option ℕ) → IsFirstPlace text part from r → IsFirstPlace text part from s → r ≡ s
first_place_only text part from None None a b = refl
first_place_only text part from None (Some q) a b = absurd (a q b.0 b.1)
first_place_only text part from (Some p) None a b = absurd (b p a.0 a.1)
first_place_only text part from (Some p) (Some q) a b = ap Some (least_of_two text part from p q a b (cases_lt p q) (cases_lt q p))
