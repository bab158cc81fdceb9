-- What clauses see of the program's values.
use Rattle.std.specs.Prelude.{ℕ, List, map, codes, Option, Some, None, option_map}
use Rattle.decimal_json.specs.Accessors.{member}
use Rattle.decimal_json.specs.Tree.{Tree}
use Rattle.decimal_json.specs.View.{tree_of}
use Rattle.prop_values.specs.Data.{Data, boolean}
use Rattle.prop_values.specs.View.{data_of}
use Rattle.expr_syntax.specs.Term as terms
use Rattle.expr_syntax.specs.TermView.{term_of}
use Rattle.feature_states.specs.Members.{members_at}
use Rattle.eval_face.specs.World as world
use Rattle.legacy_filters.specs.View.{filter_of}
use Rattle.legacy_functions.specs.View.{function_of, row_of}
use Rattle.property_tables.specs.RowView.{row_seen}
use Rattle.property_tables.specs.Rows.{RowData}
use Rattle.style_layout.specs.Forms as forms
use Rattle.style_layout.specs.Layers as layers
use Rattle.style_layout.specs.Outlines.{evaluated, evaluated_condition, evaluated_filter, evaluated_value}
use Rattle.style_layout.specs.Shown as shown
use Rattle.style_layout.specs.declared.document_layer.DocumentLayer.{DocumentLayer}
use Rattle.style_layout.specs.declared.features.LayerFeature.{LayerFeature}
use Rattle.style_layout.specs.declared.forms.LayerFilter.{LayerFilter}
use Rattle.style_layout.specs.declared.forms.LayerFilter.TheVariants as filters
use Rattle.style_layout.specs.declared.forms.PropertyValue.{PropertyValue}
use Rattle.style_layout.specs.declared.forms.PropertyValue.TheVariants as values
use Rattle.style_layout.specs.declared.forms.ReadValue.{ReadValue}
use Rattle.style_layout.specs.declared.forms.ReadValue.TheVariants as read
use Rattle.style_layout.specs.declared.properties.Property.{Property}
use Rattle.style_layout.specs.declared.layers.StyleLayer.{StyleLayer}
use Rattle.style_layout.specs.declared.prepared.PreparedStyle.{PreparedStyle}
use Rattle.style_layout.specs.Tests.{Tests}
use Rattle.style_layout.specs.declared.scene.Scene.{Scene}
use Rattle.style_layout.specs.declared.scene.SourceTile.{SourceTile}

-- what a value is read as
abbrev pub value_read : ReadValue → forms.PropertyValue
value_read (read.Literal v) = forms.literal (data_of v)
value_read (read.Expression e) = forms.expression (term_of e)
value_read (read.Function f) = forms.legacy_function (row_of f) (function_of f)
value_read (read.TokenText s) = forms.token_text s
value_read read.Outside = forms.outside

-- ---- what is prepared, where a value that is evaluated is this one

abbrev pub value_by : forms.PropertyValue → PropertyValue → forms.PropertyValue
value_by given (values.Literal v) = forms.literal (data_of v)
value_by given values.Evaluated = given
value_by given values.Outside = forms.outside

abbrev pub filter_by : forms.LayerFilter → LayerFilter → forms.LayerFilter
filter_by given filters.Every = forms.every
filter_by given (filters.Fixed b) = forms.condition (terms.literal (boolean b))
filter_by given filters.Evaluated = given
filter_by given filters.Outside = forms.outside_filter

abbrev pub property_by : forms.PropertyValue → Property → forms.Property
property_by given p = record {
  row = row_seen p.row;
  value = value_by given p.value;
  fallback = option_map data_of p.fallback;
  is_per_feature = p.is_per_feature;
}

abbrev pub layer_by : forms.LayerFilter → (Property → forms.Property) → StyleLayer → layers.StyleLayer
layer_by given property l = record {
  id = l.id;
  type = l.layer_type;
  source = l.source;
  source_layer = l.source_layer;
  is_invisible = l.is_invisible;
  min_zoom = l.min_zoom;
  max_zoom = l.max_zoom;
  filter = filter_by given l.filter;
  properties = map property l.properties.items;
}

-- ---- outlines

abbrev pub value_seen : PropertyValue → forms.PropertyValue
value_seen v = value_by evaluated v

abbrev pub filter_seen : LayerFilter → forms.LayerFilter
filter_seen f = filter_by evaluated_condition f

abbrev pub property_seen : Property → forms.Property
property_seen p = property_by evaluated p

abbrev pub layer_seen : StyleLayer → layers.StyleLayer
layer_seen l = layer_by evaluated_condition property_seen l

abbrev pub layers_seen : PreparedStyle → List layers.StyleLayer
layers_seen style = map layer_seen style.layers.items

-- ---- layers of a document: their values that are evaluated are the document's, by the values of the global state

-- what is set for a row; one that is not set is not evaluated
abbrev pub value_if : RowData → List (List ℕ × Data) → Option Tree → forms.PropertyValue
value_if row globals (Some t) = forms.property_value row globals t
value_if row globals None = forms.outside

module _ (globals : List (List ℕ × Data)) (layer : Tree) where
  unfoldable pub value_of_row : RowData → forms.PropertyValue
  value_of_row row = value_if row globals (layers.set_value layer row.place row.name)

  abbrev pub filled_property : Property → forms.Property
  filled_property p = property_by (evaluated_value (value_of_row (row_seen p.row))) p

  unfoldable pub filter_of_layer : forms.LayerFilter
  filter_of_layer = forms.layer_filter globals (member (codes "filter") layer)

  abbrev pub filled_filter : LayerFilter → forms.LayerFilter
  filled_filter f = filter_by (evaluated_filter filter_of_layer) f

  abbrev pub filled_layer : StyleLayer → layers.StyleLayer
  filled_layer l = layer_by (evaluated_filter filter_of_layer) filled_property l

-- a layer of a document that is listed
abbrev pub document_layer : DocumentLayer → layers.StyleLayer
document_layer l = filled_layer l.globals.now (tree_of l.json.now) l.prepared.now

-- a property of it
abbrev pub document_property : DocumentLayer → Property → forms.Property
document_property l = filled_property l.globals.now (tree_of l.json.now)

abbrev pub tile_seen : SourceTile → shown.SourceTile
tile_seen t = (t.source.now, t.tile)

-- a scene, by what its tests are
unfoldable pub scene_seen : {T : Type 0} → (T → Tests) → Scene T → forms.Scene
scene_seen tests s = record {
  zoom = s.zoom;
  states = members_at s.states.now;
  has_image = (tests s.tests).has_image;
  is_supported = (tests s.tests).is_supported;
}

abbrev pub feature_seen : LayerFeature → shown.LayerFeature
feature_seen f = record { number = f.number; feature = f.feature.now; state = world.state_of f.state }
