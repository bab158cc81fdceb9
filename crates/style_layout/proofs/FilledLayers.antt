-- What is prepared of a layer of a document, with the document's values that are evaluated, is the layer.
use Rattle.std.proofs.Common.{◌≡◌, ◌∙◌, ℕ, List, [], ◌∷◌, ◌++◌, map, refl, ap, false, true}
use Rattle.std.specs.Prelude.{Bool, Option, Some, None, flat_map, if◌then◌else◌}
use Rattle.std.specs.List.{AllByRecursion}
use Rattle.decimal_json.specs.Tree.{Tree}
use Rattle.prop_values.specs.Data as data_of
use Rattle.prop_values.specs.Data.{Data}
use Rattle.expr_syntax.specs.Term.{literal, node}
use Rattle.property_tables.specs.Rows.{RowData, rows_of}
use Rattle.property_tables.specs.RowView.{row_seen}
use Rattle.property_tables.specs.declared.layer_type.LayerType.{LayerType}
use Rattle.style_layout.specs.CodeView.{filled_layer, filled_property, filter_by, filter_of_layer, layer_seen, property_by, property_seen, value_by, value_if, value_of_row}
use Rattle.style_layout.specs.Forms as forms
use Rattle.style_layout.specs.Forms.{property_value}
use Rattle.style_layout.specs.Layers.{StyleLayer, is_visibility, properties_of, property_if, set_property, set_value, typed_layer}
use Rattle.style_layout.specs.Outlines.{evaluated, evaluated_condition, evaluated_filter, evaluated_value, filter_outline, layer_outline, property_outline, value_outline}
use Rattle.style_layout.specs.declared.forms.LayerFilter.{LayerFilter}
use Rattle.style_layout.specs.declared.forms.LayerFilter.TheVariants as filters
use Rattle.style_layout.specs.declared.forms.PropertyValue.{PropertyValue}
use Rattle.style_layout.specs.declared.forms.PropertyValue.TheVariants as values
use Rattle.style_layout.specs.declared.layers.StyleLayer.{StyleLayer as Prepared}
use Rattle.style_layout.specs.declared.properties.Property.{Property}

-- ---- what is evaluated

-- a filter that is evaluated is not outside
pub evaluated_is_inside : (f : forms.LayerFilter) → forms.is_outside (evaluated_filter f) ≡ false
evaluated_is_inside forms.every = refl
evaluated_is_inside (forms.condition (literal data_of.null)) = refl
evaluated_is_inside (forms.condition (literal (data_of.boolean b))) = refl
evaluated_is_inside (forms.condition (literal (data_of.number n))) = refl
evaluated_is_inside (forms.condition (literal (data_of.text s))) = refl
evaluated_is_inside (forms.condition (literal (data_of.color c))) = refl
evaluated_is_inside (forms.condition (literal (data_of.list xs))) = refl
evaluated_is_inside (forms.condition (literal (data_of.map ps))) = refl
evaluated_is_inside (forms.condition (node operator ts)) = refl
evaluated_is_inside (forms.legacy_filter f) = refl
evaluated_is_inside forms.outside_filter = refl

-- ---- values

pub value_filled : (v : PropertyValue) (known : forms.PropertyValue) → value_by evaluated v ≡ value_outline known
    → value_by (evaluated_value known) v ≡ known
value_filled (values.Literal v) (forms.literal d) h = h
value_filled (values.Literal v) (forms.expression t) h = absurd (cc)
value_filled (values.Literal v) (forms.legacy_function row f) h = absurd (cc)
value_filled (values.Literal v) (forms.token_text s) h = absurd (cc)
value_filled (values.Literal v) forms.outside h = absurd (cc)
value_filled values.Evaluated (forms.literal d) h = absurd (cc)
value_filled values.Evaluated (forms.expression t) h = refl
value_filled values.Evaluated (forms.legacy_function row f) h = refl
value_filled values.Evaluated (forms.token_text s) h = refl
value_filled values.Evaluated forms.outside h = absurd (cc)
value_filled values.Outside (forms.literal d) h = absurd (cc)
value_filled values.Outside (forms.expression t) h = absurd (cc)
value_filled values.Outside (forms.legacy_function row f) h = absurd (cc)
value_filled values.Outside (forms.token_text s) h = absurd (cc)
value_filled values.Outside forms.outside h = refl

-- ---- filters

abbrev IsFilled : LayerFilter → forms.LayerFilter → Type 0
IsFilled f known = filter_by evaluated_condition f ≡ filter_outline known → filter_by (evaluated_filter known) f ≡ known

-- a filter that is evaluated
filled_evaluated : (f : LayerFilter) (known : forms.LayerFilter) → filter_outline known ≡ evaluated_condition
    → evaluated_filter known ≡ known → IsFilled f known
filled_evaluated filters.Every known outline same h = absurd (cc)
filled_evaluated (filters.Fixed b) known outline same h = absurd (cc)
filled_evaluated filters.Evaluated known outline same h = same
filled_evaluated filters.Outside known outline same h = absurd (cc)

filled_every : (f : LayerFilter) → IsFilled f forms.every
filled_every filters.Every h = refl
filled_every (filters.Fixed b) h = absurd (cc)
filled_every filters.Evaluated h = absurd (cc)
filled_every filters.Outside h = absurd (cc)

filled_fixed : (f : LayerFilter) (b : Bool) → IsFilled f (forms.condition (literal (data_of.boolean b)))
filled_fixed filters.Every b h = absurd (cc)
filled_fixed (filters.Fixed a) b h = h
filled_fixed filters.Evaluated b h = absurd (cc)
filled_fixed filters.Outside b h = absurd (cc)

filled_outside : (f : LayerFilter) → IsFilled f forms.outside_filter
filled_outside filters.Every h = absurd (cc)
filled_outside (filters.Fixed b) h = absurd (cc)
filled_outside filters.Evaluated h = absurd (cc)
filled_outside filters.Outside h = refl

pub filter_filled : (f : LayerFilter) (known : forms.LayerFilter) → IsFilled f known
filter_filled f forms.every = filled_every f
filter_filled f (forms.condition (literal data_of.null)) = filled_evaluated f (forms.condition (literal data_of.null)) refl refl
filter_filled f (forms.condition (literal (data_of.boolean b))) = filled_fixed f b
filter_filled f (forms.condition (literal (data_of.number n))) = filled_evaluated f (forms.condition (literal (data_of.number n))) refl refl
filter_filled f (forms.condition (literal (data_of.text s))) = filled_evaluated f (forms.condition (literal (data_of.text s))) refl refl
filter_filled f (forms.condition (literal (data_of.color c))) = filled_evaluated f (forms.condition (literal (data_of.color c))) refl refl
filter_filled f (forms.condition (literal (data_of.list xs))) = filled_evaluated f (forms.condition (literal (data_of.list xs))) refl refl
filter_filled f (forms.condition (literal (data_of.map ps))) = filled_evaluated f (forms.condition (literal (data_of.map ps))) refl refl
filter_filled f (forms.condition (node operator ts)) = filled_evaluated f (forms.condition (node operator ts)) refl refl
filter_filled f (forms.legacy_filter filter) = filled_evaluated f (forms.legacy_filter filter) refl refl
filter_filled f forms.outside_filter = filled_outside f

-- ---- the properties of a layer

module _ (globals : List (List ℕ × Data)) (layer : Tree) where
  -- a property has the value that the layer has for its row
  abbrev IsSet : forms.Property → Type 0
  IsSet p = value_of_row globals layer p.row ≡ p.value

  set_if : (row : RowData) (o : Option Tree) → set_value layer row.place row.name ≡ o → AllByRecursion IsSet (property_if row globals o)
  unfolding value_of_row
  set_if row (Some t) is = (ap (value_if row globals) is, tt)
  set_if row None is = tt

  set_unless : (row : RowData) (b : Bool) (ps : List forms.Property) → AllByRecursion IsSet ps
      → AllByRecursion IsSet (if b then [] else ps)
  set_unless row true ps each = tt
  set_unless row false ps each = each

  set_append : (ps qs : List forms.Property) → AllByRecursion IsSet ps → AllByRecursion IsSet qs → AllByRecursion IsSet (ps ++ qs)
  set_append [] qs first later = later
  set_append (p ∷ ps) qs first later = (first.0, set_append ps qs first.1 later)

  rows_set : (rows : List RowData) → AllByRecursion IsSet (flat_map (set_property globals layer) rows)
  rows_set [] = tt
  rows_set (row ∷ rows) =
      let own = set_value layer row.place row.name in
      set_append (set_property globals layer row) (flat_map (set_property globals layer) rows)
      (set_unless row (is_visibility row) (property_if row globals own) (set_if row own refl)) (rows_set rows)

  property_filled : (p : Property) (known : forms.Property) → IsSet known → property_seen p ≡ property_outline known
      → filled_property globals layer p ≡ known
  property_filled p known set h =
      let row : row_seen p.row ≡ known.row = ap (λ (q : forms.Property). q.row) h in
      let given : value_of_row globals layer (row_seen p.row) ≡ known.value = ap (value_of_row globals layer) row ∙ set in
      let value : value_by (evaluated_value known.value) p.value ≡ known.value =
      value_filled p.value known.value (ap (λ (q : forms.Property). q.value) h) in
      ap (λ v. property_by (evaluated_value v) p) given
      ∙ (ap (λ (q : forms.Property). record q { value = value_by (evaluated_value known.value) p.value }) h
      ∙ ap (λ v. record known { value = v }) value)

  properties_filled : (ps : List Property) (known : List forms.Property) → AllByRecursion IsSet known
      → map property_seen ps ≡ map property_outline known → map (filled_property globals layer) ps ≡ known
  properties_filled [] [] each h = refl
  properties_filled [] (q ∷ known) each h = absurd (cc)
  properties_filled (p ∷ ps) [] each h = absurd (cc)
  properties_filled (p ∷ ps) (q ∷ known) each h =
      let first : property_seen p ≡ property_outline q = cc in
      let later : map property_seen ps ≡ map property_outline known = cc in
      ap (λ x. x ∷ map (filled_property globals layer) ps) (property_filled p q each.0 first)
      ∙ ap (λ xs. q ∷ xs) (properties_filled ps known each.1 later)

  -- ---- the layer

  pub layer_filled : (type : LayerType) (l : Prepared) → layer_seen l ≡ layer_outline (typed_layer globals layer type)
      → filled_layer globals layer l ≡ typed_layer globals layer type
  unfolding filter_of_layer
  layer_filled type l h =
      let known = typed_layer globals layer type in
      let filter : filter_by (evaluated_filter known.filter) l.filter ≡ known.filter =
      filter_filled l.filter known.filter (ap (λ (x : StyleLayer). x.filter) h) in
      let properties : map (filled_property globals layer) l.properties.items ≡ known.properties =
      properties_filled l.properties.items known.properties (rows_set (rows_of type)) (ap (λ (x : StyleLayer). x.properties) h) in
      ap (λ (x : StyleLayer). record x {
        filter = filter_by (evaluated_filter known.filter) l.filter;
        properties = map (filled_property globals layer) l.properties.items;
      }) h
      ∙ (ap (λ f. record known { filter = f; properties = map (filled_property globals layer) l.properties.items }) filter
      ∙ ap (λ ps. record known { properties = ps }) properties)
