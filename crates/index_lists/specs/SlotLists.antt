-- What contracts see of `Links`: lists of slots, in which no slot occurs twice.
use Rattle.std.specs.Prelude.{◌≡◌, ℕ, ◌+◌, ◌-◌, ◌<◌, ◌≤◌, not, List, [], ◌∷◌, ◌++◌, Option, None, length, map, filter}
use Rattle.std.specs.Prelude.{replicate, nat_eq, if◌then◌else◌, slice_get}
use Rattle.std.specs.List.{slice_index_or, slice_set}

-- so many slots, numbered from 0, and the lists by their numbers
pub record SlotLists : Type 0 where
  pub slots : ℕ
  pub lists : List (List ℕ)

-- how often a slot is in a list
abbrev pub times_in : ℕ → List ℕ → ℕ
times_in slot [] = 0
times_in slot (x ∷ xs) = (if nat_eq x slot then 1 else 0) + times_in slot xs

-- how often it is in all lists together
abbrev pub times : ℕ → List (List ℕ) → ℕ
times slot [] = 0
times slot (xs ∷ lists) = times_in slot xs + times slot lists

-- the slot is in one of the lists
abbrev pub IsListed : SlotLists → ℕ → Type 0
IsListed s slot = 0 < times slot s.lists

-- the slot is in no list
abbrev pub IsFree : SlotLists → ℕ → Type 0
IsFree s slot = times slot s.lists ≡ 0

-- the lists are disjoint: no slot occurs twice in them, and each slot in them exists
pub record AreDisjoint (s : SlotLists) : Type 0 where
  pub once : (slot : ℕ) → times slot s.lists ≤ 1
  pub within : (slot : ℕ) → IsListed s slot → slot < s.slots

-- the list of this number
abbrev pub list_at : SlotLists → ℕ → List ℕ
list_at s list = slice_index_or s.lists list []

-- a list without a slot
abbrev pub without : ℕ → List ℕ → List ℕ
without slot xs = filter (λ x. not (nat_eq x slot)) xs

-- a list with a slot put just before another, where that other is in it
abbrev pub placed : ℕ → ℕ → List ℕ → List ℕ
placed slot before [] = []
placed slot before (x ∷ xs) = if nat_eq x before then slot ∷ x ∷ placed slot before xs else x ∷ placed slot before xs

-- the lists, with this slot at the end of one
abbrev pub after_push : SlotLists → ℕ → ℕ → SlotLists
after_push s list slot = record s { lists = slice_set s.lists list (list_at s list ++ slot ∷ []) }

-- the lists, with this slot just before another
abbrev pub after_insert : SlotLists → ℕ → ℕ → SlotLists
after_insert s slot before = record s { lists = map (placed slot before) s.lists }

-- the lists, without this slot
abbrev pub after_unlink : SlotLists → ℕ → SlotLists
after_unlink s slot = record s { lists = map (without slot) s.lists }

-- the lists, with this slot moved to just before another; a slot moved before itself stays
abbrev pub after_move : SlotLists → ℕ → ℕ → SlotLists
after_move s slot before = if nat_eq slot before then s else after_insert (after_unlink s slot) slot before

-- so many slots, and so many lists, of which the new ones are empty
abbrev pub after_grow : SlotLists → ℕ → ℕ → SlotLists
after_grow s slots lists = record { slots = slots; lists = s.lists ++ replicate (lists - length s.lists) [] }

-- what follows a slot in a list
abbrev pub next_in : ℕ → List ℕ → Option ℕ
next_in slot [] = None
next_in slot (x ∷ xs) = if nat_eq x slot then slice_get xs 0 else next_in slot xs

-- what follows a slot in the list that it is in: nothing where it is the last, or in none
abbrev pub next_of : ℕ → List (List ℕ) → Option ℕ
next_of slot [] = None
next_of slot (xs ∷ lists) = if nat_eq (times_in slot xs) 0 then next_of slot lists else next_in slot xs
