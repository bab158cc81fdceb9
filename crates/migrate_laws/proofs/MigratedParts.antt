-- What is at the names of a migrated layer and of a migrated document.
use Rattle.std.proofs.Common.{◌≡◌, ◌∙◌, ℕ, List, [], ◌∷◌, refl, ap, sym, false}
use Rattle.std.specs.Prelude.{codes, Option, Some, None, option_map}
use Rattle.std.specs.Str.{bytes_eq}
use Rattle.std.specs.Option.{option_and_then}
use Rattle.decimal_json.specs.Tree.{Tree, null, boolean, number, text, list, object}
use Rattle.decimal_json.specs.Accessors.{member, text_in, text_at, fields_in, trees_in}
use Rattle.property_tables.specs.Rows.{RowData, row_of}
use Rattle.property_tables.specs.declared.layer_type.LayerType.{LayerType}
use Rattle.property_tables.specs.declared.property_row.Place.{Place}
use Rattle.property_tables.specs.declared.property_row.Place.TheVariants.{Layout, Paint}
use Rattle.style_parts.specs.Parts.{is_among, layers_of}
use Rattle.value_forms.specs.LayerTypes.{layer_type, tested_type, place_named}
use Rattle.style_migrate.specs.Migrated.{mapped_items, with_values, value_of_row, migrated_property}
use Rattle.style_migrate.specs.Migrated.{migrated_properties, migrated_member, migrated_layer}
use Rattle.style_migrate.specs.Migrated.{migrated_part, migrated}
use Rattle.style_layout.specs.Globals.{defaults_of}
use Rattle.style_layout.specs.Layers.{place_key, set_value, is_invisible}
use Rattle.migrate_laws.specs.MigratedLaw.{MigratedDocumentsGiveTheSameGlobals}
use Rattle.migrate_laws.proofs.MappedMembers.{mapped_at, map_kept, member_kept}
use Rattle.migrate_laws.proofs.StayingValues.{literal_stays}
use Rattle.migrate_laws.proofs.FoundRows.{HasName, row_has_name}

pub values_at : (change : List ℕ → Tree → Tree) (key : List ℕ) (t : Tree)
    → member key (with_values change t) ≡ option_map (change key) (member key t)
values_at change key null = refl
values_at change key (boolean b) = refl
values_at change key (number n) = refl
values_at change key (text s) = refl
values_at change key (list ts) = refl
values_at change key (object fs) = mapped_at change key fs

-- ---- layers

abbrev pub tested : Tree → Option LayerType
tested layer = tested_type (layer_type layer)

pub layer_member : (key : List ℕ) (layer : Tree)
    → member key (migrated_layer layer) ≡ option_map (migrated_member (tested layer) key) (member key layer)
layer_member key layer = values_at (migrated_member (tested layer)) key layer

pub kept_member : (key : List ℕ) (layer : Tree) → bytes_eq key (codes "filter") ≡ false → place_named key ≡ None
    → member key (migrated_layer layer) ≡ member key layer
kept_member key layer no_filter no_place =
    let type = tested layer in
    layer_member key layer
    ∙ map_kept (migrated_member type key) (member key layer) (member_kept type key no_filter no_place)

-- ---- properties

-- what becomes of a value of a name in `layout` or `paint`
abbrev pub value_change : Option LayerType → Place → List ℕ → Tree → Tree
value_change (Some type) place name t = migrated_property type place name t
value_change None place name t = t

properties_at : (type : Option LayerType) (place : Place) (name : List ℕ) (t : Tree)
    → member name (migrated_properties type (Some place) t)
    ≡ option_map (value_change type place name) (member name t)
properties_at (Some type) place name t = values_at (migrated_property type place) name t
properties_at None place name t = sym (map_kept (λ u. u) (member name t) (λ u. refl))

at_place_key : (type : Option LayerType) (place : Place) (t : Tree)
    → migrated_member type (place_key place) t ≡ migrated_properties type (Some place) t
at_place_key type Layout t = refl
at_place_key type Paint t = refl

value_in : (type : Option LayerType) (place : Place) (name : List ℕ) (o : Option Tree)
    → option_and_then (member name) (option_map (migrated_member type (place_key place)) o)
    ≡ option_map (value_change type place name) (option_and_then (member name) o)
value_in type place name (Some t) = ap (member name) (at_place_key type place t) ∙ properties_at type place name t
value_in type place name None = refl

pub set_value_at : (layer : Tree) (place : Place) (name : List ℕ)
    → set_value (migrated_layer layer) place name
    ≡ option_map (value_change (tested layer) place name) (set_value layer place name)
set_value_at layer place name =
    ap (option_and_then (member name)) (layer_member (place_key place) layer)
    ∙ value_in (tested layer) place name (member (place_key place) layer)

-- ---- visibility

row_kept : (found : Option (ℕ × RowData)) → HasName (codes "visibility") found → (t : Tree)
    → value_of_row found t ≡ t
row_kept (Some found) named t = literal_stays found.1 t (ap (λ name. bytes_eq name (codes "visibility")) named)
row_kept None named t = refl

visibility_kept : (type : Option LayerType) (t : Tree) → value_change type Layout (codes "visibility") t ≡ t
visibility_kept (Some type) t =
    row_kept (row_of type Layout (codes "visibility")) (row_has_name type Layout (codes "visibility")) t
visibility_kept None t = refl

text_in_place : (key : List ℕ) (o : Option Tree)
    → option_and_then (text_at key) o ≡ option_and_then text_in (option_and_then (member key) o)
text_in_place key (Some t) = refl
text_in_place key None = refl

pub invisible_kept : (layer : Tree) → is_invisible (migrated_layer layer) ≡ is_invisible layer
invisible_kept layer =
    let key = codes "visibility" in
    let change = value_change (tested layer) Layout key in
    let value = set_value_at layer Layout key
    ∙ map_kept change (set_value layer Layout key) (visibility_kept (tested layer)) in
    let new = text_in_place key (member (codes "layout") (migrated_layer layer)) in
    let old = text_in_place key (member (codes "layout") layer) in
    ap (is_among (codes "none" ∷ [])) (new ∙ (ap (option_and_then text_in) value ∙ sym old))

-- ---- documents

layers_in_part : (o : Option Tree)
    → trees_in (option_map (migrated_part (codes "layers")) o) ≡ mapped_items migrated_layer (trees_in o)
layers_in_part (Some null) = refl
layers_in_part (Some (boolean b)) = refl
layers_in_part (Some (number n)) = refl
layers_in_part (Some (text s)) = refl
layers_in_part (Some (list ts)) = refl
layers_in_part (Some (object fs)) = refl
layers_in_part None = refl

pub migrated_layers : (document : Tree)
    → layers_of (migrated document) ≡ mapped_items migrated_layer (layers_of document)
migrated_layers document =
    ap trees_in (values_at migrated_part (codes "layers") document)
    ∙ layers_in_part (member (codes "layers") document)

pub globals_kept : MigratedDocumentsGiveTheSameGlobals
globals_kept document =
    let key = codes "state" in
    let state = values_at migrated_part key document
    ∙ map_kept (migrated_part key) (member key document) (λ t. refl) in
    ap (λ o. defaults_of (option_and_then fields_in o)) state
