-- What is at the names of a simplified layer and of a simplified document, and that what is there is sound.
use Rattle.std.proofs.Common.{◌≡◌, ◌∙◌, ℕ, suc, List, [], ◌∷◌, refl, ap, sym, subst, true, false}
use Rattle.std.specs.Prelude.{Bool, codes, Option, Some, None, is_some, option_map, if◌then◌else◌}
use Rattle.std.specs.Str.{bytes_eq}
use Rattle.std.specs.Option.{option_and_then}
use Rattle.decimal_json.specs.Accessors.{fields_in, member, text_at, text_in, trees_in}
use Rattle.decimal_json.specs.Sound.{AreSound, HasSoundMembers, IsSound}
use Rattle.decimal_json.specs.Tree.{Tree, null, boolean, number, text, list, object, Fields, no_fields, field, field_at}
use Rattle.property_tables.specs.Rows.{RowData, row_of}
use Rattle.property_tables.specs.declared.layer_type.LayerType.{LayerType}
use Rattle.property_tables.specs.declared.property_row.Place.{Place}
use Rattle.property_tables.specs.declared.property_row.Place.TheVariants.{Layout, Paint}
use Rattle.style_parts.specs.Parts.{is_among, layers_of}
use Rattle.value_forms.specs.Forms.{is_expression, is_function, is_token_text, takes_literals_alone}
use Rattle.value_forms.specs.LayerTypes.{layer_type, place_named, tested_type, type_in}
use Rattle.value_forms.specs.declared.forms.Form.TheVariants as forms
use Rattle.style_migrate.specs.Migrated.{mapped_items}
use Rattle.style_layout.specs.Globals.{defaults_of}
use Rattle.style_layout.specs.Layers.{is_invisible, place_key, set_value}
use Rattle.migrate_laws.proofs.MappedMembers.{kept_at, map_kept}
use Rattle.migrate_laws.proofs.FoundRows.{HasName, row_has_name}
use Rattle.migrate_laws.proofs.MigratedParts.{tested, values_at}
use Rattle.style_simplify.specs.SimplifiedStyle.{simplified, simplified_filter, simplified_layer, simplified_member, simplified_part, simplified_properties, simplified_property, simplified_value, value_by_form, value_of_row}
use Rattle.simplify_laws.specs.DocumentLaw.{SimplifiedDocumentsGiveTheSameGlobals}

-- ---- members of what is sound

field_sound : (k : ℕ) (key : List ℕ) (fs : Fields) (t : Tree) → HasSoundMembers k fs → field_at key fs ≡ Some t → IsSound k t
field_sound k key no_fields t sound h = absurd (cc)
field_sound k key (field name u fs) t sound h = by (bytes_eq name key) h (λ q. field_sound k key fs t sound.2 q)
  where
    by : (b : Bool) → (if b then Some u else field_at key fs) ≡ Some t → (field_at key fs ≡ Some t → IsSound k t) → IsSound k t
    by true q later = let same : u ≡ t = cc in subst (IsSound k) same sound.1
    by false q later = later q

pub member_sound : (k : ℕ) (key : List ℕ) (t u : Tree) → IsSound k t → member key t ≡ Some u → IsSound (suc k) u
member_sound k key (object fs) u sound h = field_sound (suc k) key fs u sound.2 h
member_sound k key null u sound h = absurd (cc)
member_sound k key (boolean b) u sound h = absurd (cc)
member_sound k key (number n) u sound h = absurd (cc)
member_sound k key (text s) u sound h = absurd (cc)
member_sound k key (list ts) u sound h = absurd (cc)

pub set_sound : (k : ℕ) (layer : Tree) (place : Place) (name : List ℕ) (u : Tree) → IsSound k layer → set_value layer place name ≡ Some u → IsSound (suc (suc k)) u
set_sound k layer place name u sound h = by (member (place_key place) layer) refl h
  where
    by : (o : Option Tree) → member (place_key place) layer ≡ o → option_and_then (member name) o ≡ Some u → IsSound (suc (suc k)) u
    by None q r = absurd (cc)
    by (Some t) q r = member_sound (suc k) name t u (member_sound k (place_key place) layer t sound q) r

items_sound : (k : ℕ) (o : Option Tree) → ((t : Tree) → o ≡ Some t → IsSound k t) → AreSound (suc k) (trees_in o)
items_sound k None h = tt
items_sound k (Some (list ts)) h = let sound : IsSound k (list ts) = h (list ts) refl in sound.1
items_sound k (Some null) h = tt
items_sound k (Some (boolean b)) h = tt
items_sound k (Some (number n)) h = tt
items_sound k (Some (text s)) h = tt
items_sound k (Some (object fs)) h = tt

pub layers_sound : (k : ℕ) (document : Tree) → IsSound k document → AreSound (suc (suc k)) (layers_of document)
layers_sound k document sound = items_sound (suc k) (member (codes "layers") document) (λ t h. member_sound k (codes "layers") document t sound h)

-- ---- layers

placeless_kept : (type : Option LayerType) (place : Option Place) → place ≡ None → (t : Tree) → simplified_properties type place t ≡ t
placeless_kept (Some type) place is t = ap (λ p. simplified_properties (Some type) p t) is
placeless_kept None place is t = refl

-- A member of a layer that is neither its filter nor one of the two objects of properties.
member_kept : (type : Option LayerType) (key : List ℕ) → bytes_eq key (codes "filter") ≡ false → place_named key ≡ None → (t : Tree) → simplified_member type key t ≡ t
member_kept type key no_filter no_place t =
    ap (λ b. if b then simplified_filter t else simplified_properties type (place_named key) t) no_filter
    ∙ placeless_kept type (place_named key) no_place t

-- A simplified layer keeps its type.
pub type_kept : (layer : Tree) → layer_type (simplified_layer layer) ≡ layer_type layer
type_kept null = refl
type_kept (boolean b) = refl
type_kept (number n) = refl
type_kept (text s) = refl
type_kept (list ts) = refl
type_kept (object fs) =
    let type = tested_type (layer_type (object fs)) in
    let change = simplified_member type in
    let ref = kept_at change (codes "ref") fs (member_kept type (codes "ref") refl refl) in
    let named = kept_at change (codes "type") fs (member_kept type (codes "type") refl refl) in
    λ i. if is_some (ref i) then None else option_and_then type_in (named i)

pub layer_member : (key : List ℕ) (layer : Tree) → member key (simplified_layer layer) ≡ option_map (simplified_member (tested layer) key) (member key layer)
layer_member key layer = values_at (simplified_member (tested layer)) key layer

pub kept_member : (key : List ℕ) (layer : Tree) → bytes_eq key (codes "filter") ≡ false → place_named key ≡ None → member key (simplified_layer layer) ≡ member key layer
kept_member key layer no_filter no_place =
    let type = tested layer in
    layer_member key layer ∙ map_kept (simplified_member type key) (member key layer) (member_kept type key no_filter no_place)

-- ---- properties

-- what becomes of a value of a name in `layout` or `paint`
abbrev pub value_change : Option LayerType → Place → List ℕ → Tree → Tree
value_change (Some type) place name t = simplified_property type place name t
value_change None place name t = t

properties_at : (type : Option LayerType) (place : Place) (name : List ℕ) (t : Tree) → member name (simplified_properties type (Some place) t) ≡ option_map (value_change type place name) (member name t)
properties_at (Some type) place name t = values_at (simplified_property type place) name t
properties_at None place name t = sym (map_kept (λ u. u) (member name t) (λ u. refl))

at_place_key : (type : Option LayerType) (place : Place) (t : Tree) → simplified_member type (place_key place) t ≡ simplified_properties type (Some place) t
at_place_key type Layout t = refl
at_place_key type Paint t = refl

value_in : (type : Option LayerType) (place : Place) (name : List ℕ) (o : Option Tree) →
    option_and_then (member name) (option_map (simplified_member type (place_key place)) o) ≡ option_map (value_change type place name) (option_and_then (member name) o)
value_in type place name (Some t) = ap (member name) (at_place_key type place t) ∙ properties_at type place name t
value_in type place name None = refl

pub set_value_at : (layer : Tree) (place : Place) (name : List ℕ) → set_value (simplified_layer layer) place name ≡ option_map (value_change (tested layer) place name) (set_value layer place name)
set_value_at layer place name = ap (option_and_then (member name)) (layer_member (place_key place) layer) ∙ value_in (tested layer) place name (member (place_key place) layer)

-- ---- visibility

literal_stays : (row : RowData) (t : Tree) → takes_literals_alone row ≡ true → simplified_value row t ≡ t
literal_stays row t alone =
    ap (λ b. value_by_form (if b then forms.Literal else if is_expression t then forms.Expression else if is_function t then forms.Function else if is_token_text row t then forms.TokenText else forms.Literal) row t) alone

row_kept : (found : Option (ℕ × RowData)) → HasName (codes "visibility") found → (t : Tree) → value_of_row found t ≡ t
row_kept (Some found) named t = literal_stays found.1 t (ap (λ name. bytes_eq name (codes "visibility")) named)
row_kept None named t = refl

visibility_kept : (type : Option LayerType) (t : Tree) → value_change type Layout (codes "visibility") t ≡ t
visibility_kept (Some type) t = row_kept (row_of type Layout (codes "visibility")) (row_has_name type Layout (codes "visibility")) t
visibility_kept None t = refl

text_in_place : (key : List ℕ) (o : Option Tree) → option_and_then (text_at key) o ≡ option_and_then text_in (option_and_then (member key) o)
text_in_place key (Some t) = refl
text_in_place key None = refl

pub invisible_kept : (layer : Tree) → is_invisible (simplified_layer layer) ≡ is_invisible layer
invisible_kept layer =
    let key = codes "visibility" in
    let change = value_change (tested layer) Layout key in
    let value = set_value_at layer Layout key ∙ map_kept change (set_value layer Layout key) (visibility_kept (tested layer)) in
    let new = text_in_place key (member (codes "layout") (simplified_layer layer)) in
    let old = text_in_place key (member (codes "layout") layer) in
    ap (is_among (codes "none" ∷ [])) (new ∙ (ap (option_and_then text_in) value ∙ sym old))

-- ---- documents

layers_in_part : (o : Option Tree) → trees_in (option_map (simplified_part (codes "layers")) o) ≡ mapped_items simplified_layer (trees_in o)
layers_in_part (Some null) = refl
layers_in_part (Some (boolean b)) = refl
layers_in_part (Some (number n)) = refl
layers_in_part (Some (text s)) = refl
layers_in_part (Some (list ts)) = refl
layers_in_part (Some (object fs)) = refl
layers_in_part None = refl

pub simplified_layers : (document : Tree) → layers_of (simplified document) ≡ mapped_items simplified_layer (layers_of document)
simplified_layers document = ap trees_in (values_at simplified_part (codes "layers") document) ∙ layers_in_part (member (codes "layers") document)

pub globals_kept : SimplifiedDocumentsGiveTheSameGlobals
globals_kept document =
    let key = codes "state" in
    let state = values_at simplified_part key document ∙ map_kept (simplified_part key) (member key document) (λ t. refl) in
    ap (λ o. defaults_of (option_and_then fields_in o)) state
