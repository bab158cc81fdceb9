-- What one field makes of the extents, for the loops over fields.
use Rattle.std.specs.Prelude.{◌≡◌, ℕ, List, [], ◌∷◌, flat_map, Option, Some, None, if◌then◌else◌, nat_eq}
use Rattle.proto_wire.specs.Message.{Payload, WireField, content_of}
use Rattle.proto_wire.specs.Reading.{ReaderState}
use Rattle.proto_wire.specs.View.{field_seen}
use Rattle.proto_wire.specs.declared.field.Field.{Field}
use Rattle.tile_reader.specs.Format.{fields_of_number, last_else}
use Rattle.tile_reader.specs.View.{left_of}
use Rattle.tile_listing.specs.Extents.{extent_in, number_held}

-- a field is the first of those that were left, and where there is none, none was left
abbrev pub TakesField : ReaderState → Option Field → ReaderState → Type 0
TakesField old None new = (left_of old).fields ≡ []
TakesField old (Some field) new = (left_of old).fields ≡ field_seen field new.at ∷ (left_of new).fields

-- the extent of a layer after a field of this number
abbrev pub extent_after : (extent number : ℕ) → Payload → ℕ
extent_after extent number payload = if nat_eq number 5 then last_else extent (number_held payload) else extent

-- the extent of a layer after these fields
abbrev pub extent_from : (extent : ℕ) → List WireField → ℕ
extent_from extent fields =
    last_else extent (flat_map (λ (field : WireField). number_held field.payload) (fields_of_number 5 fields))

-- the extent that a field of a tile adds
abbrev pub extents_in : (number : ℕ) → Payload → List ℕ
extents_in number payload = if nat_eq number 3 then extent_in (content_of payload) ∷ [] else []
