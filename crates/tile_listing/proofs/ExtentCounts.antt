-- A tile has as many layers as fields 3.
use Rattle.std.proofs.Common.{◌≡◌, ◌∙◌, refl, sym, ap, ℕ, ◌+◌, List, [], ◌∷◌, ◌++◌, Bool, true, false, length, arith}
use Rattle.std.specs.Prelude.{Option, Some, None, Result, Ok, Err, if◌then◌else◌, nat_eq}
use Rattle.std.proofs.lemmas.List.{length-append, length-map}
use Rattle.proto_wire.specs.declared.field.WireFault.{WireFault}
use Rattle.proto_wire.specs.Message.{WireField, content_of, content_start}
use Rattle.tile_reader.specs.declared.fault.TileFault.{TileFault}
use Rattle.tile_reader.specs.declared.fault.TileKind.TheVariants.{Compressed}
use Rattle.tile_reader.specs.declared.tile.TileLayer.{TileLayer}
use Rattle.tile_reader.specs.Format.{fields_of_number}
use Rattle.tile_reader.specs.Layer.{layer_at}
use Rattle.tile_reader.specs.Message.{message}
use Rattle.tile_reader.specs.Names.{names}
use Rattle.tile_reader.specs.Read.{◌then◌, along, bytes_in, read_fields, refused}
use Rattle.tile_reader.specs.Tile.{is_compressed, tile_of, tile_step}
use Rattle.tile_listing.specs.Extents.{extent_in}
use Rattle.tile_listing.specs.ExtentLaw.{EachLayerHasItsExtent}

abbrev one_if : Bool → ℕ
one_if true = 1
one_if false = 0

same_ok : {A : Type 0} (x y : A) → ◌≡◌ {A = Result A TileFault} (Ok x) (Ok y) → x ≡ y
same_ok x y e = cc

never_ok : {A : Type 0} (fault : TileFault) (y : A) → ◌≡◌ {A = Result A TileFault} (Err fault) (Ok y) → ⊥
never_ok fault y e = cc

-- a value after a part is one of a part that has one
parts_of : {A B : Type 0} (r : Result A TileFault) (next : A → Result B TileFault) (y : B) → (r then next) ≡ Ok y → (x : A) × (r ≡ Ok x) × (next x ≡ Ok y)
parts_of (Ok x) next y e = (x, refl, e)
parts_of (Err fault) next y e = absurd (never_ok fault y e)

one_layer : (is : Bool) (layers next : List TileLayer) (field : WireField)
    → (if is then (bytes_in field.at field.payload then λ b. layer_at field.at (content_start field) (names layers) b then λ layer. Ok (layers ++ layer ∷ [])) else Ok layers) ≡ Ok next
    → length next ≡ length layers + one_if is
one_layer true layers next field e =
    let content = parts_of (bytes_in field.at field.payload) (λ b. layer_at field.at (content_start field) (names layers) b then λ layer. Ok (layers ++ layer ∷ [])) next e in
    let layer = parts_of (layer_at field.at (content_start field) (names layers) content.0) (λ layer. Ok (layers ++ layer ∷ [])) next content.2 in
    let made : layers ++ layer.0 ∷ [] ≡ next = same_ok (layers ++ layer.0 ∷ []) next layer.2 in
    sym (ap length made) ∙ length-append layers (layer.0 ∷ [])
one_layer false layers next field e =
    let same : layers ≡ next = same_ok layers next e in
    let count : length layers ≡ length next = ap length same in
    omega (arith, count)

counted_if : (is : Bool) (field : WireField) (others : List WireField) → length (if is then field ∷ others else others) ≡ one_if is + length others
counted_if true field others = omega arith
counted_if false field others = omega arith

layers_count : (fields : List WireField) (fault : Option WireFault) (layers all : List TileLayer) → along tile_step layers fields fault ≡ Ok all
    → length all ≡ length layers + length (fields_of_number 3 fields)
layers_count [] None layers all e =
    let same : layers ≡ all = same_ok layers all e in
    let count : length layers ≡ length all = ap length same in
    omega (arith, count)
layers_count [] (Some fault) layers all e = absurd (cc)
layers_count (field ∷ fields) fault layers all e =
    let first = parts_of (tile_step layers field) (λ next. along tile_step next fields fault) all e in
    let one : length first.0 ≡ length layers + one_if (nat_eq field.number 3) = one_layer (nat_eq field.number 3) layers first.0 field first.1 in
    let rest : length all ≡ length first.0 + length (fields_of_number 3 fields) = layers_count fields fault first.0 all first.2 in
    let now : length (fields_of_number 3 (field ∷ fields)) ≡ one_if (nat_eq field.number 3) + length (fields_of_number 3 fields) = counted_if (nat_eq field.number 3) field (fields_of_number 3 fields) in
    omega (arith, one, rest, now)

not_compressed : (is : Bool) (b : List ℕ) (layers : List TileLayer) → (if is then refused Compressed 0 else read_fields tile_step [] (message 0 b)) ≡ Ok layers
    → read_fields tile_step [] (message 0 b) ≡ Ok layers
not_compressed true b layers e = absurd (cc)
not_compressed false b layers e = e

pub each_has_its_extent : EachLayerHasItsExtent
unfolding tile_of
each_has_its_extent b layers read =
    let fields = (message 0 b).fields in
    let all : length layers ≡ 0 + length (fields_of_number 3 fields) =
    layers_count fields (message 0 b).fault [] layers (not_compressed (is_compressed b) b layers read) in
    let count : length layers ≡ length (fields_of_number 3 fields) = omega (arith, all) in
    length-map (fields_of_number 3 fields) (λ (field : WireField). extent_in (content_of field.payload)) ∙ sym count
