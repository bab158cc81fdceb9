-- A reader of fields: what is left of the message, and how a call of `next` changes that.
use Rattle.std.specs.Prelude.{◌≡◌, ℕ, ◌+◌, ◌<◌, ◌⊎◌, List, [], length, Bool, true, false, Option, Some, None, Result}
use Rattle.std.specs.Prelude.{Ok, Err, ◌∷◌, ◌*◌}
use Rattle.proto_wire.specs.declared.field.Field.{Field}
use Rattle.proto_wire.specs.declared.field.WireFault.{WireFault}
use Rattle.proto_wire.specs.Message.{field_at, WireField}
use Rattle.proto_wire.specs.View.{field_seen}
use Rattle.proto_wire.specs.declared.wire.WireKind.{WireKind}

-- the bytes that are left, the offset at which they are, and whether a fault came
pub record ReaderState : Type 0 where
  pub at : ℕ
  pub bytes : List ℕ
  pub failed : Bool

-- nothing is left to read, or a fault came before
abbrev pub IsOver : ReaderState → Type 0
IsOver reading = (reading.failed ≡ true) ⊎ (reading.bytes ≡ [])

-- The next field or fault is the one at the front of what is left. A field is taken; a fault takes nothing,
-- and is the last answer.
abbrev pub NextGives : ReaderState → Option (Result Field WireFault) → ReaderState → Type 0
NextGives old None new = (new ≡ old) × IsOver old
NextGives old (Some (Ok field)) new =
    (old.failed ≡ false) × (field_at old.at old.bytes ≡ Ok (field_seen field new.at, new.bytes))
    × (new.at + length new.bytes ≡ old.at + length old.bytes) × (new.failed ≡ false)
NextGives old (Some (Err fault)) new =
    (old.failed ≡ false) × (0 < length old.bytes) × (field_at old.at old.bytes ≡ Err fault.kind) × (fault.at ≡ old.at)
    × (new ≡ record old { failed = true })

-- These are the fields of the bytes, which are at this offset, in order: up to the end, or up to a fault,
-- whose place is the tag of the field that it breaks.
abbrev pub AreFields : ℕ → List ℕ → List WireField → Option WireFault → Type 0
AreFields at b [] fault =
    ((b ≡ []) × (fault ≡ None))
    ⊎ ((kind : WireKind) × (0 < length b) × (field_at at b ≡ Err kind)
    × (fault ≡ Some (record { kind = kind; at = at })))
AreFields at b (field ∷ fields) fault =
    (rest : List ℕ) × (field_at at b ≡ Ok (field, rest)) × AreFields field.end rest fields fault

-- Reading these fields in order leads from bytes at an offset to the bytes that are left, and their offset:
-- what a reader has read so far.
abbrev pub ReadsFields : ℕ → List ℕ → List WireField → ℕ → List ℕ → Type 0
ReadsFields at b [] left_at left = (left_at ≡ at) × (left ≡ b)
ReadsFields at b (field ∷ fields) left_at left =
    (rest : List ℕ) × (field_at at b ≡ Ok (field, rest)) × ReadsFields field.end rest fields left_at left

-- For the reader: the digits so far, each below the weight of the next, and above them what is read after
-- them.
abbrev pub onto : ℕ → ℕ → Result (ℕ × List ℕ) WireKind → Result (ℕ × List ℕ) WireKind
onto value weight (Ok (n, rest)) = Ok (value + weight * n, rest)
onto value weight (Err kind) = Err kind
