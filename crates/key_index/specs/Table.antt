-- A table of places, and the keys that it represents.
use Rattle.std.specs.Prelude.{◌≡◌, ℕ, zero, suc, ◌%◌, ◌<◌, List, [], ◌∷◌, length, drop, Bool, ◌&&◌, not, nat_eq, Option}
use Rattle.std.specs.Prelude.{Some, None, if◌then◌else◌}
use Rattle.std.specs.Option.{option_or}
use Rattle.key_index.specs.Keys.{place_from, is_at}
use Rattle.key_index.specs.Hash.{hash_of}
use Rattle.key_index.specs.Places.{noted}
use Rattle.key_index.specs.declared.table.Slot.{Slot}
use Rattle.key_index.specs.declared.table.Bucket.{Bucket}
use Rattle.key_index.specs.declared.table.Table.{Table}

-- The slot has the hash, is not free, and at its place is the key.
abbrev pub is_slot_of : ℕ → List ℕ → List (List ℕ) → Slot → Bool
is_slot_of hash key keys slot = nat_eq slot.hash hash && (not (nat_eq slot.place 0) && is_at key keys slot.place)

-- The place of the first slot of a key.
abbrev pub slot_place : ℕ → List ℕ → List (List ℕ) → List Slot → Option ℕ
slot_place hash key keys [] = None
slot_place hash key keys (s ∷ ss) = if is_slot_of hash key keys s then Some s.place else slot_place hash key keys ss

-- the slots of a bucket
abbrev pub slots_at : List Bucket → ℕ → List Slot
slots_at [] home = []
slots_at (b ∷ bs) zero = b.slots
slots_at (b ∷ bs) (suc home) = slots_at bs home

-- Where a table finds a key: in the bucket of its hash, else in the ordered map.
abbrev pub later_place : Table → List (List ℕ) → List ℕ → Option ℕ
later_place t keys key =
    option_or (slot_place (hash_of key) key keys (slots_at t.buckets.items (hash_of key % length t.buckets.items)))
    (noted t.crowded key)

-- Each slot has a place below n.
abbrev pub AreBelow : ℕ → List Slot → Type 0
AreBelow n [] = Unit {0}
AreBelow n (s ∷ ss) = (s.place < n) × AreBelow n ss

abbrev pub AllBelow : ℕ → List Bucket → Type 0
AllBelow n [] = Unit {0}
AllBelow n (b ∷ bs) = AreBelow n b.slots × AllBelow n bs

-- The slot at i is free.
abbrev pub IsFree : ℕ → List Slot → Type 0
IsFree i [] = ⊥
IsFree zero (s ∷ ss) = s.place ≡ 0
IsFree (suc i) (s ∷ ss) = IsFree i ss

-- The table finds each key after the first 16 at its place, and no other.
pub record IsTable (t : Table) (keys : List (List ℕ)) : Type 0 where
  pub some : 0 < length t.buckets.items
  pub many : 15 < length keys
  pub below : AllBelow (length keys) t.buckets.items
  pub places : (key : List ℕ) → later_place t keys key ≡ place_from 16 key (drop 16 keys)
