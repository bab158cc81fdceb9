-- Lists of slots, by the list in which each slot is.
use Rattle.std.specs.Prelude.{◌≡◌, ◌≢◌, ℕ, Bool, true, false, Option, Some, None, nat_eq}
use Rattle.index_lists.specs.SlotLists.{SlotLists, times_in, list_at}

-- whether this list is the one
abbrev pub is_list : ℕ → Option ℕ → Bool
is_list list (Some l) = nat_eq l list
is_list list None = false

abbrev pub one_of : Bool → ℕ
one_of true = 1
one_of false = 0

-- Each slot is once in the list that a function gives for it, and in no other. Source: own.
abbrev pub Holds : SlotLists → (ℕ → Option ℕ) → Type 0
Holds s lists = (slot list : ℕ) → times_in slot (list_at s list) ≡ one_of (is_list list (lists slot))

-- The second function gives this list for this slot, and for all others what the first gives.
pub record MovesSlot (slot : ℕ) (list : Option ℕ) (before after : ℕ → Option ℕ) : Type 0 where
  pub here : after slot ≡ list
  pub others : (x : ℕ) → x ≢ slot → after x ≡ before x
