-- How rounds of nodes keep lists of slots. The node of a list, its slots in order, and the node of the list
-- again are in a round, each the next of the one before. A free slot is a round of its own.
use Rattle.std.specs.Prelude.{◌≡◌, ℕ, ◌+◌, ◌-◌, ◌<◌, ◌≤◌, List, [], ◌∷◌, length, nat_eq, if◌then◌else◌, zero, suc}
use Rattle.index_lists.specs.SlotLists.{SlotLists, times}
use Rattle.index_lists.specs.declared.nodes.Nodes.{Nodes}
use Rattle.index_lists.specs.Nodes.{slot_count, list_count, after, before}

-- the node of a list
abbrev pub head : ℕ → ℕ
head list = 4294967295 - list

-- from a through the nodes xs to z: each is the next of the one before it, and that one is its previous
abbrev pub Chain : (ℕ → ℕ) → (ℕ → ℕ) → ℕ → List ℕ → ℕ → Type 0
Chain next prev a [] z = (next a ≡ z) × (prev z ≡ a)
Chain next prev a (x ∷ xs) z = (next a ≡ x) × (prev x ≡ a) × Chain next prev x xs z

-- the lists, from this number on, are kept in rounds
abbrev pub Rounds : (ℕ → ℕ) → (ℕ → ℕ) → ℕ → List (List ℕ) → Type 0
Rounds next prev list [] = Unit {0}
Rounds next prev list (xs ∷ rest) = Chain next prev (head list) xs (head list) × Rounds next prev (suc list) rest

-- the nodes from x on until the node z comes, at most so many
abbrev pub walk : (ℕ → ℕ) → ℕ → ℕ → ℕ → List ℕ
walk next z zero x = []
walk next z (suc fuel) x = if nat_eq x z then [] else x ∷ walk next z fuel (next x)

-- so many lists, from this number on, each of at most so many slots
abbrev pub walks : (ℕ → ℕ) → ℕ → ℕ → ℕ → List (List ℕ)
walks next fuel list zero = []
walks next fuel list (suc count) = walk next (head list) fuel (next (head list)) ∷ walks next fuel (suc list) count

-- these lists are kept
pub record Keeps (next prev : ℕ → ℕ) (slots count : ℕ) (lists : List (List ℕ)) : Type 0 where
  pub counted : length lists ≡ count
  pub fits : slots + count ≤ 4294967296
  pub rounds : Rounds next prev 0 lists
  pub once : (x : ℕ) → times x lists ≤ 1
  pub within : (x : ℕ) → 0 < times x lists → x < slots
  pub free_next : (x : ℕ) → x < slots → times x lists ≡ 0 → next x ≡ x
  pub free_prev : (x : ℕ) → x < slots → times x lists ≡ 0 → prev x ≡ x

-- what contracts see of nodes
abbrev pub lists_of : Nodes → List (List ℕ)
lists_of nodes = walks (after nodes) (slot_count nodes) 0 (list_count nodes)

abbrev pub seen : Nodes → SlotLists
seen nodes = record { slots = slot_count nodes; lists = lists_of nodes }

-- the nodes keep the lists that are seen
abbrev pub KeepsLists : Nodes → Type 0
KeepsLists nodes = Keeps (after nodes) (before nodes) (slot_count nodes) (list_count nodes) (lists_of nodes)
