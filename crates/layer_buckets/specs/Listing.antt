-- The lists of the slots, by the four kinds.
use Rattle.std.specs.Prelude.{◌≡◌, ◌≢◌, ℕ, ◌<◌, ◌≤◌, List, length, Bool, Option, None, is_some, true, IfSome}
use Rattle.index_lists.specs.SlotLists.{SlotLists, IsFree, IsListed, list_at}
use Rattle.index_lists.specs.Holds.{is_list, Holds}
use Rattle.layer_buckets.specs.declared.lists.CauseLists.{CauseLists}
use Rattle.layer_buckets.specs.declared.lists.ListName.{ListName}
use Rattle.layer_buckets.specs.declared.lists.ListName.TheVariants.{Item, Zoom, Image, State}
use Rattle.layer_buckets.specs.declared.lists.ListNumbers.{ListNumbers}

-- in no list
abbrev pub no_lists : ListNumbers
no_lists = record { item = None; zoom = None; image = None; state = None }

-- whether a list is among these
abbrev pub is_in : ListName → ListNumbers → Bool
is_in (Item l) n = is_list l n.item
is_in (Zoom l) n = is_list l n.zoom
is_in (Image l) n = is_list l n.image
is_in (State l) n = is_list l n.state

abbrev pub list_named : CauseLists → ListName → List ℕ
list_named lists (Item l) = list_at lists.items l
list_named lists (Zoom l) = list_at lists.zooms l
list_named lists (Image l) = list_at lists.images l
list_named lists (State l) = list_at lists.states l

-- the list is there
abbrev pub IsThere : CauseLists → ListName → Type 0
IsThere lists (Item l) = l < length lists.items.lists
IsThere lists (Zoom l) = l < length lists.zooms.lists
IsThere lists (Image l) = l < length lists.images.lists
IsThere lists (State l) = l < length lists.states.lists

-- these lists are there
pub record AreThere (lists : CauseLists) (n : ListNumbers) : Type 0 where
  pub item : IfSome n.item (λ l. l < length lists.items.lists)
  pub zoom : IfSome n.zoom (λ l. l < length lists.zooms.lists)
  pub image : IfSome n.image (λ l. l < length lists.images.lists)
  pub state : IfSome n.state (λ l. l < length lists.states.lists)

-- each slot is in the lists that are given for it, and in no other
pub record HoldAll (lists : CauseLists) (numbers : ℕ → ListNumbers) : Type 0 where
  pub items : Holds lists.items (λ s. (numbers s).item)
  pub zooms : Holds lists.zooms (λ s. (numbers s).zoom)
  pub images : Holds lists.images (λ s. (numbers s).image)
  pub states : Holds lists.states (λ s. (numbers s).state)

-- a slot that is in no list, and one that is in these
pub record IsUnlisted (lists : CauseLists) (slot : ℕ) : Type 0 where
  pub items : IsFree lists.items slot
  pub zooms : IsFree lists.zooms slot
  pub images : IsFree lists.images slot
  pub states : IsFree lists.states slot

pub record IsListedIn (lists : CauseLists) (n : ListNumbers) (slot : ℕ) : Type 0 where
  pub items : is_some n.item ≡ true → IsListed lists.items slot
  pub zooms : is_some n.zoom ≡ true → IsListed lists.zooms slot
  pub images : is_some n.image ≡ true → IsListed lists.images slot
  pub states : is_some n.state ≡ true → IsListed lists.states slot

-- the second function gives these lists for this slot, and for all others what the first gives
pub record MovesNumbers (slot : ℕ) (n : ListNumbers) (before after : ℕ → ListNumbers) : Type 0 where
  pub here : after slot ≡ n
  pub others : (x : ℕ) → x ≢ slot → after x ≡ before x

-- ---- how many slots and lists there are

pub record Alike (s t : SlotLists) : Type 0 where
  pub slots : t.slots ≡ s.slots
  pub lists : length t.lists ≡ length s.lists

-- as many as before, and counted alike
pub record AreAlike (a b : CauseLists) : Type 0 where
  pub items : Alike a.items b.items
  pub zooms : Alike a.zooms b.zooms
  pub images : Alike a.images b.images
  pub states : Alike a.states b.states
  pub slots : b.slots ≡ a.slots
  pub item_lists : b.item_lists ≡ a.item_lists
  pub state_lists : b.state_lists ≡ a.state_lists

-- at least so many slots
pub record HaveSlots (lists : CauseLists) (count : ℕ) : Type 0 where
  pub items : count ≤ lists.items.slots
  pub zooms : count ≤ lists.zooms.slots
  pub images : count ≤ lists.images.slots
  pub states : count ≤ lists.states.slots

pub record IsSized (s : SlotLists) (most count : ℕ) : Type 0 where
  pub slots : s.slots ≤ most
  pub lists : length s.lists ≡ count

-- the lists are as many as are counted, and their slots no more
pub record AreCounted (lists : CauseLists) : Type 0 where
  pub items : IsSized lists.items lists.slots lists.item_lists
  pub zooms : IsSized lists.zooms lists.slots 2
  pub images : IsSized lists.images lists.slots 3
  pub states : IsSized lists.states lists.slots lists.state_lists

-- The same slots are in the same lists, of which there are as many and counted alike; there may be more slots.
pub record AreGrown (a b : CauseLists) : Type 0 where
  pub hold : (numbers : ℕ → ListNumbers) → HoldAll a numbers → HoldAll b numbers
  pub there : (n : ListNumbers) → AreThere a n → AreThere b n
  pub have : (count : ℕ) → HaveSlots a count → HaveSlots b count
  pub item_lists : b.item_lists ≡ a.item_lists
  pub state_lists : b.state_lists ≡ a.state_lists

-- one kind of lists has more slots, and no more than are counted
pub record Grows (s t : SlotLists) (slots : ℕ) : Type 0 where
  pub hold : (list_of : ℕ → Option ℕ) → Holds s list_of → Holds t list_of
  pub lists : length t.lists ≡ length s.lists
  pub more : s.slots ≤ t.slots
  pub most : t.slots ≤ slots

-- one kind of lists has more lists, which are empty, and may have more slots
pub record Widens (s t : SlotLists) (slots : ℕ) : Type 0 where
  pub hold : (list_of : ℕ → Option ℕ) → Holds s list_of → Holds t list_of
  pub lists : length s.lists ≤ length t.lists
  pub more : s.slots ≤ t.slots
  pub most : t.slots ≤ slots

-- the same slots are in the same lists; there may be more lists and slots
pub record AreWider (a b : CauseLists) : Type 0 where
  pub hold : (numbers : ℕ → ListNumbers) → HoldAll a numbers → HoldAll b numbers
  pub there : (n : ListNumbers) → AreThere a n → AreThere b n
  pub have : (count : ℕ) → HaveSlots a count → HaveSlots b count
