-- The nodes of the rounds that keep the lists: a slot is the node of its own number, and list l has the node
-- 4294967295 - l.
use Rattle.std.specs.Prelude.{◌≡◌, ℕ, ◌+◌, ◌-◌, ◌<◌, ◌≤◌, List, length, slice_index, nat_eq, nat_lt, nat_le}
use Rattle.std.specs.Prelude.{if◌then◌else◌}
use Rattle.index_lists.specs.declared.nodes.Nodes.{Nodes}

-- a function with the value v at a
abbrev pub put : (ℕ → ℕ) → ℕ → ℕ → ℕ → ℕ
put f a v k = if nat_eq k a then v else f k

-- the links, with the node x taken out: the two nodes beside it are joined, and it is a round of its own
abbrev pub next_out : (ℕ → ℕ) → (ℕ → ℕ) → ℕ → ℕ → ℕ
next_out next prev x = put (put next (prev x) (next x)) x x

abbrev pub prev_out : (ℕ → ℕ) → (ℕ → ℕ) → ℕ → ℕ → ℕ
prev_out next prev x = put (put prev (next x) (prev x)) x x

-- the links, with the node x put before the node b
abbrev pub next_into : (ℕ → ℕ) → (ℕ → ℕ) → ℕ → ℕ → ℕ → ℕ
next_into next prev b x = put (put next (prev b) x) x b

abbrev pub prev_into : (ℕ → ℕ) → (ℕ → ℕ) → ℕ → ℕ → ℕ → ℕ
prev_into next prev b x = put (put prev b x) x (prev b)

-- what is kept for a node, by the numbers kept for slots and for lists
abbrev pub kept_for : List ℕ → List ℕ → ℕ → ℕ
kept_for slots lists node =
    if nat_lt node (length slots) then slice_index slots node
    else if nat_le node 4294967295 then slice_index lists (4294967295 - node) else 0

abbrev pub slot_count : Nodes → ℕ
slot_count nodes = length nodes.next.items

abbrev pub list_count : Nodes → ℕ
list_count nodes = length nodes.first.items

-- the node after a node
abbrev pub after : Nodes → ℕ → ℕ
after nodes = kept_for nodes.next.items nodes.first.items

-- the node before a node
abbrev pub before : Nodes → ℕ → ℕ
before nodes = kept_for nodes.prev.items nodes.last.items

-- a number up to 4294967295 is a node: of a slot, or of a list
abbrev pub IsNode : ℕ → ℕ → ℕ → Type 0
IsNode slots lists node = slots ≤ node → 4294967295 < node + lists

-- the node after each slot and each list, and the one before, are as they were
pub record KeepsLinks (old new : Nodes) : Type 0 where
  pub slots_after : (slot : ℕ) → slot < slot_count old → after new slot ≡ after old slot
  pub slots_before : (slot : ℕ) → slot < slot_count old → before new slot ≡ before old slot
  pub lists_after : (list : ℕ) → list < list_count old → after new (4294967295 - list) ≡ after old (4294967295 - list)
  pub lists_before : (list : ℕ) → list < list_count old →
      before new (4294967295 - list) ≡ before old (4294967295 - list)

-- each new slot and each new list is a round of its own
pub record AddsRounds (old new : Nodes) : Type 0 where
  pub slots_after : (slot : ℕ) → slot_count old ≤ slot → slot < slot_count new → after new slot ≡ slot
  pub slots_before : (slot : ℕ) → slot_count old ≤ slot → slot < slot_count new → before new slot ≡ slot
  pub lists_after : (list : ℕ) → list_count old ≤ list → list < list_count new →
      after new (4294967295 - list) ≡ 4294967295 - list
  pub lists_before : (list : ℕ) → list_count old ≤ list → list < list_count new →
      before new (4294967295 - list) ≡ 4294967295 - list
