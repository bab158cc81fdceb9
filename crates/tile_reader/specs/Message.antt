-- A message as the list of its fields (Protocol Buffers, "Encoding", Message Structure).
use Rattle.std.specs.Prelude.{ℕ, zero, suc, List, [], ◌∷◌, length, Option, Some, None, Result, Ok, Err}
use Rattle.proto_wire.specs.declared.wire.WireKind.{WireKind}
use Rattle.proto_wire.specs.declared.field.WireFault.{WireFault}
use Rattle.proto_wire.specs.Message.{WireField, field_at}

-- the fields in order, and the fault at which they end, if there is one
pub record Message : Type 0 where
  pub fields : List WireField
  pub fault : Option WireFault

-- nothing is left
abbrev pub no_fields : Message
no_fields = record { fields = []; fault = None }

-- what is left is no field; the place is the tag of the field that is broken
abbrev pub broken_off : WireFault → Message
broken_off fault = record { fields = []; fault = Some fault }

-- a field, and what comes after it
abbrev pub field_before : WireField → Message → Message
field_before field others = record { fields = field ∷ others.fields; fault = others.fault }

-- what was read at an offset, and what comes after it
abbrev pub from_front : ℕ → Result (WireField × List ℕ) WireKind → (WireField → List ℕ → Message) → Message
from_front at (Err kind) others = broken_off (record { kind = kind; at = at })
from_front at (Ok (field, rest)) others = field_before field (others field rest)

-- the fields of bytes that are at this offset, at most `most`
abbrev pub fields_within : ℕ → ℕ → List ℕ → Message
fields_within most at [] = no_fields
fields_within zero at (c ∷ b) = no_fields
fields_within (suc most) at (c ∷ b) =
    from_front at (field_at at (c ∷ b)) (λ field rest. fields_within most field.end rest)

-- The fields of bytes that are at this offset. A field has at least one byte, so there are no more fields
-- than bytes.
unfoldable pub message : ℕ → List ℕ → Message
message at b = fields_within (length b) at b
