-- Places of elements of a list that are noted, and where they are after the list changed. Source: own.
use Rattle.std.specs.Prelude.{◌<◌, ℕ, ◌+◌, ◌-◌, ◌≡◌, List, length, nat_eq, nat_lt, slice_index_or, Bool, true, false}
use Rattle.std.specs.Prelude.{not, ◌&&◌, ◌||◌, if◌then◌else◌}
use Rattle.std.specs.List.{filter, list_any}
use Rattle.noted_places.specs.declared.places.NotedPlaces.{NotedPlaces}

-- ---- where the element at a place is afterwards

-- another came before the one at a place, or last
abbrev pub after_insert : (place at : ℕ) → ℕ
after_insert place at = if nat_lt at place then at else at + 1

-- the one at a place, which is another, went
abbrev pub after_remove : (place at : ℕ) → ℕ
after_remove place at = if nat_lt place at then at - 1 else at

-- the one at a place moved to another: it was taken out and put in again
abbrev pub after_move : (from to at : ℕ) → ℕ
after_move from to at = if nat_eq at from then to else after_insert to (after_remove from at)

-- ---- which places are noted

abbrev pub places_in : NotedPlaces → List ℕ
places_in noted = noted.places.items

abbrev pub is_noted : List ℕ → ℕ → Bool
is_noted places place = list_any (λ one. nat_eq one place) places

-- they are noted in one list as in the other, in any order
abbrev pub AreSamePlaces : List ℕ → List ℕ → Type 0
AreSamePlaces places others = (place : ℕ) → is_noted places place ≡ is_noted others place

-- a place is noted besides, where something holds
abbrev pub NotesIf : Bool → ℕ → List ℕ → List ℕ → Type 0
NotesIf holds place old new = (other : ℕ) → is_noted new other ≡ ((holds && nat_eq place other) || is_noted old other)

abbrev pub without_place : ℕ → List ℕ → List ℕ
without_place place places = filter (λ one. not (nat_eq one place)) places

-- ---- elements that are not noted

abbrev pub AreBelow : ℕ → List ℕ → Type 0
AreBelow count places = (place : ℕ) → is_noted places place ≡ true → place < count

-- Places of elements are noted, and the elements of the others have a property.
pub record AreNoted {X : Type 0} (P : X → Type 0) (xs : List X) (places : List ℕ) : Type 0 where
  pub within : AreBelow (length xs) places
  pub others : (p : ℕ) (other : X) → p < length xs → is_noted places p ≡ false → P (slice_index_or xs p other)
