-- Migrating a document again changes nothing.
use Rattle.std.proofs.Common.{◌≡◌, ◌∙◌, ℕ, List, refl, ap, true, false}
use Rattle.std.specs.Prelude.{Bool, codes, Option, Some, None, if◌then◌else◌}
use Rattle.std.specs.Str.{bytes_eq}
use Rattle.decimal_json.specs.Tree.{Tree, null, boolean, number, text, list, object}
use Rattle.property_tables.specs.Rows.{RowData, row_of}
use Rattle.property_tables.specs.declared.layer_type.LayerType.{LayerType}
use Rattle.property_tables.specs.declared.property_row.Place.{Place}
use Rattle.style_parts.specs.Parts.{is_layers}
use Rattle.legacy_filters.specs.Migrated.{migrated_filter}
use Rattle.value_forms.specs.LayerTypes.{layer_type, tested_type, place_named}
use Rattle.legacy_laws.specs.LegacyFilterLaw.{MigratedFiltersStay}
use Rattle.style_migrate.specs.Migrated.{mapped_fields, with_values, with_items, value_of_row, migrated_property}
use Rattle.style_migrate.specs.Migrated.{migrated_properties, migrated_member, migrated_layer, migrated_part}
use Rattle.migrate_laws.specs.MigratedLaw.{MigratingTwiceChangesNothing}
use Rattle.migrate_laws.proofs.MappedMembers.{fields_twice, items_twice, type_kept}
use Rattle.migrate_laws.proofs.StayingValues.{value_twice}

abbrev IsOnce : (Tree → Tree) → Type 0
IsOnce change = (t : Tree) → change (change t) ≡ change t

values_twice : (change : List ℕ → Tree → Tree) → ((k : List ℕ) → IsOnce (change k)) → IsOnce (with_values change)
values_twice change stays null = refl
values_twice change stays (boolean b) = refl
values_twice change stays (number n) = refl
values_twice change stays (text s) = refl
values_twice change stays (list ts) = refl
values_twice change stays (object fs) = ap object (fields_twice change stays fs)

each_twice : (change : Tree → Tree) → IsOnce change → IsOnce (with_items change)
each_twice change stays null = refl
each_twice change stays (boolean b) = refl
each_twice change stays (number n) = refl
each_twice change stays (text s) = refl
each_twice change stays (list ts) = ap list (items_twice change stays ts)
each_twice change stays (object fs) = refl

-- ---- properties

row_twice : (type : LayerType) (place : Place) (name : List ℕ) (found : Option (ℕ × RowData))
    → row_of type place name ≡ found → IsOnce (value_of_row found)
row_twice type place name (Some (n, row)) is t = value_twice row (type, place, name, n, is) t
row_twice type place name None is t = refl

properties_twice : (type : Option LayerType) (place : Option Place) → IsOnce (migrated_properties type place)
properties_twice (Some type) (Some place) t =
    values_twice (migrated_property type place)
    (λ name. row_twice type place name (row_of type place name) refl) t
properties_twice (Some type) None t = refl
properties_twice None place t = refl

-- ---- layers

module _ (filters : MigratedFiltersStay) where
  member_if : (type : Option LayerType) (key : List ℕ) (b : Bool)
      → IsOnce (λ t. if b then migrated_filter t else migrated_properties type (place_named key) t)
  member_if type key true t = filters t
  member_if type key false t = properties_twice type (place_named key) t

  member_twice : (type : Option LayerType) (key : List ℕ) → IsOnce (migrated_member type key)
  member_twice type key t = member_if type key (bytes_eq key (codes "filter")) t

  layer_twice : IsOnce migrated_layer
  layer_twice null = refl
  layer_twice (boolean b) = refl
  layer_twice (number n) = refl
  layer_twice (text s) = refl
  layer_twice (list ts) = refl
  layer_twice (object fs) =
      let type = tested_type (layer_type (object fs)) in
      let made = mapped_fields (migrated_member type) fs in
      let same = type_kept (object fs) in
      ap (λ found. object (mapped_fields (migrated_member (tested_type found)) made)) same
      ∙ ap object (fields_twice (migrated_member type) (member_twice type) fs)

  part_if : (b : Bool) → IsOnce (λ t. if b then with_items migrated_layer t else t)
  part_if true t = each_twice migrated_layer layer_twice t
  part_if false t = refl

  part_twice : (key : List ℕ) → IsOnce (migrated_part key)
  part_twice key t = part_if (is_layers key) t

  pub migrating_twice : MigratingTwiceChangesNothing
  migrating_twice document = values_twice migrated_part part_twice document
