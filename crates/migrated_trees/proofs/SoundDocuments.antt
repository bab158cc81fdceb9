-- A migrated document is sound where the document is, since its values and filters are.
use Rattle.std.proofs.Common.{◌≡◌, ℕ, suc, ◌≤◌, List, arith, refl, true, false}
use Rattle.std.specs.Prelude.{Bool, codes, Option, Some, None, if◌then◌else◌}
use Rattle.std.specs.Str.{bytes_eq}
use Rattle.decimal_json.specs.RoundTrip.{EachWrittenTreeIsSpelled}
use Rattle.decimal_json.specs.Sound.{IsSound}
use Rattle.decimal_json.specs.Tree.{Tree}
use Rattle.style_parts.specs.Parts.{is_layers}
use Rattle.legacy_filters.specs.Migrated.{migrated_filter}
use Rattle.property_tables.specs.Rows.{RowData, row_of}
use Rattle.property_tables.specs.declared.layer_type.LayerType.{LayerType}
use Rattle.property_tables.specs.declared.property_row.Place.{Place}
use Rattle.value_forms.specs.LayerTypes.{layer_type, tested_type, place_named}
use Rattle.style_migrate.specs.Migrated.{value_of_row, migrated_property, migrated_properties}
use Rattle.style_migrate.specs.Migrated.{with_items, migrated_member, migrated_layer, migrated_part, migrated}
use Rattle.migrated_trees.specs.SoundTreesLaw.{MigratedValuesAreSound, MigratedDocumentsAreSound}
use Rattle.migrated_trees.specs.SoundTreesLaw.{MigratedTextsAreSpelled}
use Rattle.migrated_trees.proofs.SoundFilters.{filter_stays_sound}
use Rattle.migrated_trees.proofs.SoundMembers.{values_stay_sound, array_stays_sound}

if_sound : (b : Bool) (k : ℕ) (x t : Tree) → IsSound k x → IsSound k t → IsSound k (if b then x else t)
if_sound true k x t h other = h
if_sound false k x t h other = other

row_value : MigratedValuesAreSound → (type : LayerType) (place : Place) (name : List ℕ)
    (o : Option (ℕ × RowData)) (t : Tree) (k : ℕ) → row_of type place name ≡ o → k ≤ 4 → IsSound k t
    → IsSound k (value_of_row o t)
row_value values type place name (Some found) t k is low h =
    values found.1 t k (type, place, name, found.0, is) low h
row_value values type place name None t k is low h = h

-- `layout` and `paint`
properties : MigratedValuesAreSound → (type : Option LayerType) (place : Option Place) (t : Tree) (k : ℕ)
    → k ≤ 3 → IsSound k t → IsSound k (migrated_properties type place t)
properties values (Some type) (Some place) t k low h =
    values_stay_sound (migrated_property type place) k t
    (λ name u sound. row_value values type place name (row_of type place name) u (suc k) refl (omega arith) sound)
    h
properties values (Some type) None t k low h = h
properties values None place t k low h = h

member : MigratedValuesAreSound → (type : Option LayerType) (key : List ℕ) (t : Tree) (k : ℕ) → k ≤ 3
    → IsSound k t → IsSound k (migrated_member type key t)
member values type key t k low h =
    if_sound (bytes_eq key (codes "filter")) k (migrated_filter t) (migrated_properties type (place_named key) t)
    (filter_stays_sound t k low h) (properties values type (place_named key) t k low h)

layer : MigratedValuesAreSound → (t : Tree) (k : ℕ) → k ≤ 2 → IsSound k t → IsSound k (migrated_layer t)
layer values t k low h =
    let type = tested_type (layer_type t) in
    values_stay_sound (migrated_member type) k t
    (λ key u sound. member values type key u (suc k) (omega arith) sound) h

part : MigratedValuesAreSound → (key : List ℕ) (t : Tree) (k : ℕ) → k ≤ 1 → IsSound k t
    → IsSound k (migrated_part key t)
part values key t k low h =
    if_sound (is_layers key) k (with_items migrated_layer t) t
    (array_stays_sound migrated_layer k t (λ u sound. layer values u (suc k) (omega arith) sound) h) h

pub documents_stay_sound : MigratedValuesAreSound → MigratedDocumentsAreSound
documents_stay_sound values document h =
    values_stay_sound migrated_part 0 document (λ key t sound. part values key t 1 (omega arith) sound) h

-- what is written of a migrated document
pub texts_are_spelled : EachWrittenTreeIsSpelled → MigratedDocumentsAreSound → MigratedTextsAreSpelled
texts_are_spelled spelled sound r document h = spelled r (migrated document) (sound document h)
