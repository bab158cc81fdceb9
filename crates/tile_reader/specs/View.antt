-- What the definitions see of the values that the reader makes.
use Rattle.std.specs.Prelude.{◌≡◌, ℕ, ◌+◌, pos, List, [], ◌∷◌, length, take, drop, map, Option, Some, None, option_map}
use Rattle.std.specs.Prelude.{Result, Ok, Err}
use Rattle.std.specs.Borrow.{Bor}
use Rattle.proto_wire.specs.Reading.{ReaderState}
use Rattle.proto_wire.specs.View.{field_seen}
use Rattle.proto_wire.specs.declared.field.Field.{Field}
use Rattle.proto_wire.specs.declared.field.WireFault.{WireFault}
use Rattle.prop_values.specs.Data.{Data}
use Rattle.prop_values.specs.Data as held
use Rattle.tile_reader.specs.declared.fault.TileFault.{TileFault}
use Rattle.halts.specs.declared.halt.Halt.{Halt}
use Rattle.halts.specs.declared.halt.Halt.TheVariants.{Fault, NoMemory}
use Rattle.tile_reader.specs.declared.value.Held.{Held}
use Rattle.tile_reader.specs.declared.value.Held.TheVariants.{Signed, Unsigned, Text, Flag}
use Rattle.tile_reader.specs.declared.feature.TaggedFeature.{TaggedFeature}
use Rattle.tile_reader.specs.declared.layer.LayerParts.{LayerParts}
use Rattle.tile_reader.specs.Message.{Message, message, no_fields, broken_off, field_before}
use Rattle.tile_reader.specs.Read.{broken}
use Rattle.tile_reader.specs.Ids.{id_seen}
use Rattle.tile_reader.specs.Value.{whole}
use Rattle.tile_reader.specs.Feature.{Tagged}
use Rattle.tile_reader.specs.Layer.{LayerFields}

-- what a reader returned, as the definitions see it, is what is read there
abbrev pub GivesRead : {X Y : Type 0} → (X → Y) → Result X TileFault → Result Y TileFault → Type 0
GivesRead seen (Ok x) read = read ≡ Ok (seen x)
GivesRead seen (Err fault) read = read ≡ Err fault

-- the same of a reader that may fail to allocate
abbrev pub GivesOrLacks : {X Y : Type 0} → (X → Y) → Result X (Halt TileFault) → Result Y TileFault → Type 0
GivesOrLacks seen (Ok x) read = read ≡ Ok (seen x)
GivesOrLacks seen (Err (Fault fault)) read = read ≡ Err fault
GivesOrLacks seen (Err NoMemory) read = Unit {0}

-- what a step left after, where it did not end early, is what is read there
abbrev pub Leaves : {Y : Type 0} → Y → Result (Unit {0}) (Halt TileFault) → Result Y TileFault → Type 0
Leaves new (Ok _) read = read ≡ Ok new
Leaves new (Err (Fault fault)) read = read ≡ Err fault
Leaves new (Err NoMemory) read = Unit {0}

-- the message that a reader of fields has left
abbrev pub left_of : ReaderState → Message
left_of reading = message reading.at reading.bytes

-- a field, an end or a fault is the front of what a reader had left
abbrev pub TakesFront : ReaderState → Result (Option Field) TileFault → ReaderState → Type 0
TakesFront old (Ok None) new = left_of old ≡ no_fields
TakesFront old (Ok (Some field)) new = left_of old ≡ field_before (field_seen field new.at) (left_of new)
TakesFront old (Err fault) new = (wire : WireFault) × (left_of old ≡ broken_off wire) × (fault ≡ broken wire)

-- the value
abbrev pub value_seen : Held → Data
value_seen (Signed z) = whole z
value_seen (Unsigned n) = whole (pos n)
value_seen (Text s) = held.text s.now
value_seen (Flag b) = held.boolean b

-- a feature with these tags, before they are looked up
abbrev pub tagged_seen : TaggedFeature → List ℕ → Tagged
tagged_seen feature tags =
    record { at = feature.at; id = id_seen feature.id feature.has_id; shape = feature.shape; tags = tags }

-- features whose tags are one after the other
abbrev pub tagged_all : List TaggedFeature → List ℕ → List Tagged
tagged_all [] tags = []
tagged_all (feature ∷ features) tags =
    tagged_seen feature (take feature.count tags) ∷ tagged_all features (drop feature.count tags)

-- how many tags features have
abbrev pub count_of_tags : List TaggedFeature → ℕ
count_of_tags [] = 0
count_of_tags (feature ∷ features) = feature.count + count_of_tags features

-- these are the tags of the features, and no others
abbrev pub HasAllTags : List TaggedFeature → List ℕ → Type 0
HasAllTags features tags = count_of_tags features ≡ length tags

-- the texts
abbrev pub texts_seen : List (Bor (List ℕ)) → List (List ℕ)
texts_seen = map (λ (s : Bor (List ℕ)). s.now)

-- what was read of a layer
abbrev pub parts_seen : LayerParts → LayerFields
parts_seen parts = record {
  name = option_map (λ (s : Bor (List ℕ)). s.now) parts.name;
  version = parts.version;
  keys = texts_seen parts.keys.items;
  values = map value_seen parts.values.items;
  features = tagged_all parts.features.items parts.tags.items;
}
