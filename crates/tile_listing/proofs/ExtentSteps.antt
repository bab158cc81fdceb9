-- One field more, in the loops over the fields of a tile and of a layer.
use Rattle.std.proofs.Common.{◌≡◌, ◌∙◌, refl, sym, ap, ℕ, List, [], ◌∷◌, ◌++◌, Bool, true, false, map}
use Rattle.std.specs.Prelude.{flat_map, if◌then◌else◌, nat_eq}
use Rattle.std.proofs.lemmas.List.{append_assoc}
use Rattle.proto_wire.specs.Message.{Payload, varint, bits64, bytes, bits32, WireField, content_of}
use Rattle.tile_reader.specs.Format.{fields_of_number, last_else}
use Rattle.tile_listing.specs.Extents.{extent_in, layer_extents, number_held}
use Rattle.tile_listing.specs.ExtentSteps.{extent_after, extents_in, extent_from}

abbrev extent_held : WireField → ℕ
extent_held field = extent_in (content_of field.payload)

layer_first : (is : Bool) (field : WireField) (others : List WireField)
    → (if is then extent_held field ∷ [] else []) ++ map extent_held others ≡ map extent_held (if is then field ∷ others else others)
layer_first true field others = refl
layer_first false field others = refl

-- a field of a tile
pub layer_next : (extents : List ℕ) (field : WireField) (fields others : List WireField) → fields ≡ field ∷ others
    → (extents ++ extents_in field.number field.payload) ++ layer_extents others ≡ extents ++ layer_extents fields
layer_next extents field fields others first =
    append_assoc extents (extents_in field.number field.payload) (layer_extents others)
    ∙ (ap (λ (xs : List ℕ). extents ++ xs) (layer_first (nat_eq field.number 3) field (fields_of_number 3 others))
    ∙ ap (λ (fs : List WireField). extents ++ layer_extents fs) (sym first))

abbrev numbers : List WireField → List ℕ
numbers = flat_map (λ (field : WireField). number_held field.payload)

last_further : (extent : ℕ) (payload : Payload) (others : List ℕ)
    → last_else (last_else extent (number_held payload)) others ≡ last_else extent (number_held payload ++ others)
last_further extent (varint n) others = refl
last_further extent (bits64 n) others = refl
last_further extent (bytes b) others = refl
last_further extent (bits32 n) others = refl

extent_first : (is : Bool) (extent : ℕ) (field : WireField) (others : List WireField)
    → last_else (if is then last_else extent (number_held field.payload) else extent) (numbers others) ≡ last_else extent (numbers (if is then field ∷ others else others))
extent_first true extent field others = last_further extent field.payload (numbers others)
extent_first false extent field others = refl

-- a field of a layer
pub extent_next : (extent : ℕ) (field : WireField) (fields others : List WireField) → fields ≡ field ∷ others
    → extent_from (extent_after extent field.number field.payload) others ≡ extent_from extent fields
extent_next extent field fields others first =
    extent_first (nat_eq field.number 5) extent field (fields_of_number 5 others)
    ∙ ap (extent_from extent) (sym first)
