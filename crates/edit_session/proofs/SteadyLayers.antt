-- A document in whose layers no text is `global-state` has the same layers with any two lists of values of the global state.
use Rattle.std.proofs.Common.{◌≡◌, ℕ, List, [], ◌∷◌, ◌++◌, refl, Bool, true, false, Option, Some, None}
use Rattle.std.specs.Prelude.{flat_map, option_map, codes, ◌||◌, if◌then◌else◌}
use Rattle.std.specs.Option.{option_and_then}
use Rattle.std.specs.Str.{bytes_eq}
use Rattle.decimal_json.specs.Accessors.{member}
use Rattle.decimal_json.specs.Tree.{Tree, null, boolean, number, text, list, object, Trees, no_trees, tree, Fields, no_fields, field, field_at}
use Rattle.property_tables.specs.Rows.{RowData, rows_of}
use Rattle.property_tables.specs.declared.layer_type.LayerType.{LayerType}
use Rattle.legacy_filters.specs.Form as filters
use Rattle.legacy_filters.specs.Split.{is_legacy}
use Rattle.style_parts.specs.Parts.{layers_of}
use Rattle.value_forms.specs.Forms.{form_of}
use Rattle.value_forms.specs.LayerTypes.{layer_type}
use Rattle.value_forms.specs.declared.forms.Form.{Form}
use Rattle.value_forms.specs.declared.forms.Form.TheVariants as forms
use Rattle.global_laws.specs.GlobalLaw.{names_globals, items_name_globals, members_name_globals}
use Rattle.global_laws.proofs.SteadyReading.{other_trees_read_the_same}
use Rattle.style_layout.specs.Forms.{expression_value, formed_value, property_of, legacy_of, condition_of, layer_filter}
use Rattle.style_layout.specs.Layers.{place_key, set_value, is_visibility, property_if, set_property, typed_layer, with_layer, layers_in, style_layers}
use Rattle.edit_session.specs.View.{reads_globals}
use Rattle.edit_session.proofs.GlobalCells.{Globals, listed_alike}

-- ---- what is in a tree that names no global state

left_false : (x y : Bool) → (x || y) ≡ false → x ≡ false
left_false false y h = refl
left_false true y h = h

right_false : (x y : Bool) → (x || y) ≡ false → y ≡ false
right_false false y h = h
right_false true y h = absurd (cc)

-- what may be there
abbrev NamesNone : Option Tree → Type 0
NamesNone None = Unit {0}
NamesNone (Some t) = names_globals t ≡ false

one_or_later : (same : Bool) (t : Tree) (later : Option Tree) → names_globals t ≡ false → NamesNone later →
    NamesNone (if same then Some t else later)
one_or_later true t later h k = h
one_or_later false t later h k = k

in_fields : (key : List ℕ) (fs : Fields) → members_name_globals fs ≡ false → NamesNone (field_at key fs)
in_fields key no_fields h = tt
in_fields key (field k t fs) h =
    one_or_later (bytes_eq k key) t (field_at key fs) (left_false (names_globals t) (members_name_globals fs) h)
    (in_fields key fs (right_false (names_globals t) (members_name_globals fs) h))

in_member : (key : List ℕ) (t : Tree) → names_globals t ≡ false → NamesNone (member key t)
in_member key null h = tt
in_member key (boolean b) h = tt
in_member key (number n) h = tt
in_member key (text s) h = tt
in_member key (list ts) h = tt
in_member key (object fs) h = in_fields key fs h

within : (key : List ℕ) (o : Option Tree) → NamesNone o → NamesNone (option_and_then (member key) o)
within key None h = tt
within key (Some t) h = in_member key t h

-- ---- the parts of a layer

module _ (new old : Globals) where
  value_steady : (form : Form) (row : RowData) (t : Tree) → names_globals t ≡ false → formed_value form row new t ≡ formed_value form row old t
  value_steady forms.Expression row t h = λ i. expression_value (other_trees_read_the_same t new old h i)
  value_steady forms.Function row t h = refl
  value_steady forms.TokenText row t h = refl
  value_steady forms.Literal row t h = refl

  property_steady : (row : RowData) (t : Tree) → names_globals t ≡ false → property_of row new t ≡ property_of row old t
  property_steady row t h = λ i. record (property_of row new t) {
    value = value_steady (form_of row t) row t h i;
    is_per_feature = listed_alike row t new old i;
  }

  properties_if : (row : RowData) (o : Option Tree) → NamesNone o → property_if row new o ≡ property_if row old o
  properties_if row None h = refl
  properties_if row (Some t) h = λ i. property_steady row t h i ∷ []

  properties_steady : (layer : Tree) → names_globals layer ≡ false → (rows : List RowData) →
      flat_map (set_property new layer) rows ≡ flat_map (set_property old layer) rows
  properties_steady layer h [] = refl
  properties_steady layer h (row ∷ rows) = λ i.
      (if is_visibility row then []
      else properties_if row (set_value layer row.place row.name) (within row.name (member (place_key row.place) layer) (in_member (place_key row.place) layer h)) i)
      ++ properties_steady layer h rows i

  filter_steady : (o : Option Tree) → NamesNone o → layer_filter new o ≡ layer_filter old o
  filter_steady None h = refl
  filter_steady (Some t) h = λ i.
      if is_legacy t then legacy_of (filters.reading t) else condition_of (other_trees_read_the_same t new old h i)

  -- ---- layers

  typed_steady : (layer : Tree) → names_globals layer ≡ false → (type : LayerType) → typed_layer new layer type ≡ typed_layer old layer type
  typed_steady layer h type = λ i. record (typed_layer new layer type) {
    filter = filter_steady (member (codes "filter") layer) (in_member (codes "filter") layer h) i;
    properties = properties_steady layer h (rows_of type) i;
  }

  typed_if : (layer : Tree) → names_globals layer ≡ false → (type : Option LayerType) →
      option_map (typed_layer new layer) type ≡ option_map (typed_layer old layer) type
  typed_if layer h None = refl
  typed_if layer h (Some type) = λ i. Some (typed_steady layer h type i)

  layers_steady : (ts : Trees) → items_name_globals ts ≡ false → layers_in new ts ≡ layers_in old ts
  layers_steady no_trees h = refl
  layers_steady (tree t ts) h = λ i.
      with_layer (typed_if t (left_false (names_globals t) (items_name_globals ts) h) (layer_type t) i)
      (layers_steady ts (right_false (names_globals t) (items_name_globals ts) h) i)

pub style_steady : (document : Tree) (new old : Globals) → reads_globals document ≡ false → style_layers new document ≡ style_layers old document
style_steady document new old h = layers_steady new old (layers_of document) h
