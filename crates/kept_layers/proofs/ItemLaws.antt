-- What an edit of a layer makes of the expressions of its items: those of the edited item alone may change.
use Rattle.std.proofs.Common.{◌≡◌, ◌≢◌, ◌∙◌, ℕ, zero, suc, ◌+◌, ℤ, List, [], ◌∷◌, length, get_or, Bool, true, false, ◌&&◌, Option, Some, None, is_some, refl, sym, ap, subst, arith}
use Rattle.std.proofs.lemmas.Option.{slice_get-get_or, slice_get_within}
use Rattle.std.specs.List.{slice_get}
use Rattle.std.specs.Option.{option_and_then}
use Rattle.std.specs.Prelude.{AllPairs, codes, unwrap_or, if◌then◌else◌}
use Rattle.std.specs.Str.{bytes_eq}
use Rattle.fixed_num.specs.NumberText.{number_text}
use Rattle.decimal_json.specs.Accessors.{member, text_in}
use Rattle.decimal_json.specs.Editing.{members_with}
use Rattle.decimal_json.specs.Tree.{Tree, null, boolean, number, text, list, object, fields_of, field_at, members_of}
use Rattle.prop_values.specs.Data.{Data}
use Rattle.prop_values.proofs.KeyLaws.{texts_same, same_texts, texts_differ}
use Rattle.property_tables.specs.Rows.{RowData, at_place, is_at, row_named, row_of, rows_of}
use Rattle.property_tables.specs.declared.layer_type.LayerType.{LayerType}
use Rattle.property_tables.specs.declared.layer_type.LayerType.TheVariants.{Background}
use Rattle.property_tables.specs.declared.property_row.Place.{Place}
use Rattle.property_tables.specs.declared.property_row.Place.TheVariants.{Layout, Paint}
use Rattle.property_tables.proofs.Tables.{table_keeps_rules}
use Rattle.value_forms.specs.LayerTypes.{type_in}
use Rattle.style_edits.specs.Layer.{is_null, properties_at, with_property, with_filter, with_limit, without_limits, with_range}
use Rattle.style_edits.specs.Objects.{object_with, object_replacing, object_without}
use Rattle.style_edits.proofs.ObjectLaws.{member_replaced, object_absent}
use Rattle.edit_findings.proofs.OtherMembers.{object_with_other, object_replacing_other, object_without_other}
use Rattle.expr_nodes.specs.Evaluators.{Sized}
use Rattle.layer_buckets.specs.Seen.{evaluator_of, source_of}
use Rattle.layer_buckets.specs.declared.buckets.Buckets.{Buckets}
use Rattle.layer_buckets.specs.declared.cell.CellItem.{CellItem}
use Rattle.layer_buckets.specs.declared.cell.CellItem.TheVariants.{Filter, Property}
use Rattle.style_layout.specs.Forms.{Scene}
use Rattle.style_layout.specs.Layers.{has_features, is_visibility, place_key, set_value, text_or_empty}
use Rattle.style_layout.specs.Shown.{SourceTile, layer_features}
use Rattle.asked_cells.specs.Asked.{feature_at, meaning_by}
use Rattle.asked_cells.specs.Expressions.{IsSourced}
use Rattle.cell_sources.specs.CellExpressions.{filter_expression, item_expression, row_expression, value_expression}
use Rattle.kept_layers.specs.Holding.{ChangesItem, HasLayer, IsRight}
use Rattle.kept_layers.specs.KeptLayers.{layer_expressions, prepared_layer, type_of}

-- No item of the layer is another, and the layer has its type and its source.
pub record ChangesNoItem (globals : List (List ℕ × Data)) (old new : Tree) : Type 0 where
  pub all : (item : CellItem) → layer_expressions globals new item ≡ layer_expressions globals old item
  pub type : type_of new ≡ type_of old
  pub source : (prepared_layer globals new).source ≡ (prepared_layer globals old).source
  pub source_layer : (prepared_layer globals new).source_layer ≡ (prepared_layer globals old).source_layer

-- ---- the member that is put

put_found : (key : List ℕ) (t : Tree) (ms : List (List ℕ × Tree))
    → field_at key (fields_of (members_with key t ms)) ≡ Some t
put_found key t [] = ap (λ b. if b then Some t else None) (texts_same key key refl)
put_found key t (m ∷ ms) = by (put_found key t ms) (bytes_eq m.0 key) refl where
  by : field_at key (fields_of (members_with key t ms)) ≡ Some t → (b : Bool) → bytes_eq m.0 key ≡ b
      → field_at key (fields_of (if b then (m.0, t) ∷ ms else m ∷ members_with key t ms)) ≡ Some t
  by later true h = ap (λ b. if b then Some t else field_at key (fields_of ms)) h
  by later false h = ap (λ b. if b then Some m.1 else field_at key (fields_of (members_with key t ms))) h ∙ later

member_put : (key : List ℕ) (t o : Tree) → member key (object_with key t o) ≡ Some t
member_put key t (object fs) = put_found key t (members_of fs)
member_put key t null = ap (λ b. if b then Some t else None) (texts_same key key refl)
member_put key t (boolean b) = ap (λ b. if b then Some t else None) (texts_same key key refl)
member_put key t (number n) = ap (λ b. if b then Some t else None) (texts_same key key refl)
member_put key t (text s) = ap (λ b. if b then Some t else None) (texts_same key key refl)
member_put key t (list ts) = ap (λ b. if b then Some t else None) (texts_same key key refl)

-- null has no member
member_or_null : (name : List ℕ) (o : Option Tree) → member name (unwrap_or o null) ≡ option_and_then (member name) o
member_or_null name (Some t) = refl
member_or_null name None = refl

-- ---- the members that stay

-- the members at all keys but one
abbrev AreLeft : List ℕ → (old new : Tree) → Type 0
AreLeft key old new = (other : List ℕ) → bytes_eq key other ≡ false → member other new ≡ member other old

-- the value of a name in what is at a key
abbrev value_in : (key name : List ℕ) → Tree → Option Tree
value_in key name t = option_and_then (member name) (member key t)

module _ (key name : List ℕ) (value t : Tree) where
  -- the layer where the property is taken away, and where it is set
  abbrev without_it : Option Tree → Tree
  without_it properties = object_replacing key (object_without name (unwrap_or properties null)) t

  abbrev with_it : Tree
  with_it = object_with key (object_with name value (properties_at key t)) t

  property_left : AreLeft key t (with_property key name value t)
  property_left other apart = by (is_null value) where
    by : (b : Bool) → member other (if b then without_it (member key t) else with_it) ≡ member other t
    by true = object_replacing_other key other apart (object_without name (properties_at key t)) t
    by false = object_with_other key other apart (object_with name value (properties_at key t)) t

  -- the properties of other names
  name_left : (other : List ℕ) → bytes_eq name other ≡ false
      → value_in key other (with_property key name value t) ≡ value_in key other t
  name_left other apart = by (is_null value) where
    taken : (o : Option Tree) → member key t ≡ o → value_in key other (without_it o) ≡ option_and_then (member other) o
    taken (Some p) e =
        ap (option_and_then (member other)) (member_replaced key p (object_without name p) t e)
        ∙ object_without_other name other apart p
    taken None e = ap (value_in key other) (object_absent key null t e) ∙ ap (option_and_then (member other)) e

    by : (b : Bool) → value_in key other (if b then without_it (member key t) else with_it) ≡ value_in key other t
    by true = taken (member key t) refl
    by false =
        ap (option_and_then (member other)) (member_put key (object_with name value (properties_at key t)) t)
        ∙ (object_with_other name other apart value (properties_at key t) ∙ member_or_null other (member key t))

filter_left : (filter t : Tree) → AreLeft (codes "filter") t (with_filter filter t)
filter_left filter t other apart = by (is_null filter) where
  by : (b : Bool)
      → member other (if b then object_without (codes "filter") t else object_with (codes "filter") filter t) ≡ member other t
  by true = object_without_other (codes "filter") other apart t
  by false = object_with_other (codes "filter") other apart filter t

limit_left : (key : List ℕ) (limit : Option ℤ) (t : Tree) → AreLeft key t (with_limit key limit t)
limit_left key (Some zoom) t other apart = object_with_other key other apart (number (number_text zoom)) t
limit_left key None t other apart = refl

-- a range changes no other member
pub range_left : (min max : Option ℤ) (t : Tree) (other : List ℕ) → bytes_eq (codes "minzoom") other ≡ false
    → bytes_eq (codes "maxzoom") other ≡ false → member other (with_range min max t) ≡ member other t
range_left min max t other least most =
    limit_left (codes "maxzoom") max (with_limit (codes "minzoom") min (without_limits t)) other most
    ∙ (limit_left (codes "minzoom") min (without_limits t) other least
    ∙ (object_without_other (codes "maxzoom") other most (object_without (codes "minzoom") t)
    ∙ object_without_other (codes "minzoom") other least t))

-- ---- what the expressions of a layer read

-- the members that say the type and the source of a layer
record KeepsHead (old new : Tree) : Type 0 where
  pub ref : member (codes "ref") new ≡ member (codes "ref") old
  pub type : member (codes "type") new ≡ member (codes "type") old
  pub source : member (codes "source") new ≡ member (codes "source") old
  pub source_layer : member (codes "source-layer") new ≡ member (codes "source-layer") old

head_left : (key : List ℕ) (old new : Tree) → AreLeft key old new
    → bytes_eq key (codes "ref") ≡ false → bytes_eq key (codes "type") ≡ false
    → bytes_eq key (codes "source") ≡ false → bytes_eq key (codes "source-layer") ≡ false → KeepsHead old new
head_left key old new left ref type source source_layer = record {
  ref = left (codes "ref") ref;
  type = left (codes "type") type;
  source = left (codes "source") source;
  source_layer = left (codes "source-layer") source_layer;
}

module _ (globals : List (List ℕ × Data)) (old new : Tree) (head : KeepsHead old new) where
  same_type : type_of new ≡ type_of old
  same_type = λ i. unwrap_or (if is_some (head.ref i) then None else option_and_then type_in (head.type i)) Background

  same_source : (prepared_layer globals new).source ≡ (prepared_layer globals old).source
  same_source = λ i. text_or_empty (option_and_then text_in (head.source i))

  same_source_layer : (prepared_layer globals new).source_layer ≡ (prepared_layer globals old).source_layer
  same_source_layer = λ i. text_or_empty (option_and_then text_in (head.source_layer i))

  same_filter : member (codes "filter") new ≡ member (codes "filter") old
      → layer_expressions globals new Filter ≡ layer_expressions globals old Filter
  same_filter same = λ i. if has_features (same_type i) then option_and_then (filter_expression globals) (same i) else None

  same_property : (n : ℕ)
      → ((row : RowData) → slice_get (rows_of (type_of old)) n ≡ Some row
      → set_value new row.place row.name ≡ set_value old row.place row.name)
      → layer_expressions globals new (Property n) ≡ layer_expressions globals old (Property n)
  same_property n same =
      ap (λ type. item_expression globals type new (Property n)) same_type
      ∙ by (slice_get (rows_of (type_of old)) n) refl
    where
      by : (o : Option RowData) → slice_get (rows_of (type_of old)) n ≡ o
          → option_and_then (row_expression globals (type_of old) new) o
          ≡ option_and_then (row_expression globals (type_of old) old) o
      by (Some row) e = λ i. if is_visibility row then None else option_and_then (value_expression row globals) (same row e i)
      by None e = refl

  -- the properties at both places are as they were
  same_properties : ((place : Place) → member (place_key place) new ≡ member (place_key place) old)
      → (n : ℕ) → layer_expressions globals new (Property n) ≡ layer_expressions globals old (Property n)
  same_properties same n = same_property n (λ row e. ap (option_and_then (member row.name)) (same row.place))

-- ---- the row of a name

abbrev HasAnotherName : RowData → RowData → Type 0
HasAnotherName a b = a.name ≢ b.name

named_at : (n : ℕ) (rows : List RowData) (i : ℕ) (row : RowData) → AllPairs HasAnotherName rows → slice_get rows i ≡ Some row
    → row_named n row.name rows ≡ Some (n + i, row)
named_at n [] i row apart is = absurd (omega (arith, slice_get_within [] i row is))
named_at n (first ∷ rows) zero row apart is =
    let same : first ≡ row = cc in
    let here : n ≡ n + 0 = omega arith in
    subst (λ r. row_named n r.name (first ∷ rows) ≡ Some (n + 0, r)) same
    (ap (λ b. if b then Some (n, first) else row_named (n + 1) first.name rows) (texts_same first.name first.name refl)
    ∙ ap (λ k. Some (k, first)) here)
named_at n (first ∷ rows) (suc i) row apart is =
    let later = named_at (n + 1) rows i row (λ j k d h l. apart (suc j) (suc k) d (omega (arith, h)) (omega (arith, l))) is in
    let within = slice_get_within rows i row is in
    let here : get_or rows i first ≡ row = (let there = sym (slice_get-get_or rows i first within) ∙ is in cc) in
    let differ : row.name ≢ first.name =
    λ same. apart zero (suc i) first (omega arith) (omega (arith, within)) (sym same ∙ ap (λ (r : RowData). r.name) (sym here)) in
    let next : n + 1 + i ≡ n + suc i = omega arith in
    ap (λ b. if b then Some (n, first) else row_named (n + 1) row.name rows) (texts_differ row.name first.name differ)
    ∙ (later ∙ ap (λ k. Some (k, row)) next)

module _ (type : LayerType) (place : Place) (i : ℕ) (row : RowData) (is : slice_get (rows_of type) i ≡ Some row) where
  row_at : is_at place row.place ≡ true → row_of type place row.name ≡ Some (i, row)
  row_at here =
      let from_0 : 0 + i ≡ i = omega arith in
      ap (at_place place) (named_at 0 (rows_of type) i row (table_keeps_rules type).names is)
      ∙ (ap (λ b. if b then Some (0 + i, row) else None) here ∙ ap (λ k. Some (k, row)) from_0)

  -- a row that is not that of a place and a name has another place or another name
  other_row : (name : List ℕ) → row_of type place name ≢ Some (i, row) → (is_at place row.place && bytes_eq name row.name) ≡ false
  other_row name differ = by (is_at place row.place) (bytes_eq name row.name) refl refl where
    by : (a b : Bool) → is_at place row.place ≡ a → bytes_eq name row.name ≡ b → (a && b) ≡ false
    by true true here same = absurd (differ (ap (row_of type place) (same_texts name row.name same) ∙ row_at here))
    by true false here same = refl
    by false b here same = refl

-- ---- a property

property_head : (place : Place) (name : List ℕ) (value t : Tree) → KeepsHead t (with_property (place_key place) name value t)
property_head Layout name value t =
    head_left (codes "layout") t (with_property (codes "layout") name value t) (property_left (codes "layout") name value t) refl refl refl refl
property_head Paint name value t =
    head_left (codes "paint") t (with_property (codes "paint") name value t) (property_left (codes "paint") name value t) refl refl refl refl

place_filter : (place : Place) → bytes_eq (place_key place) (codes "filter") ≡ false
place_filter Layout = refl
place_filter Paint = refl

-- the value of another name, or at another place
value_left : (place at : Place) (name : List ℕ) (value t : Tree) (other : List ℕ)
    → (is_at place at && bytes_eq name other) ≡ false
    → set_value (with_property (place_key place) name value t) at other ≡ set_value t at other
value_left Layout Layout name value t other apart = name_left (codes "layout") name value t other apart
value_left Layout Paint name value t other apart =
    ap (option_and_then (member other)) (property_left (codes "layout") name value t (codes "paint") refl)
value_left Paint Layout name value t other apart =
    ap (option_and_then (member other)) (property_left (codes "paint") name value t (codes "layout") refl)
value_left Paint Paint name value t other apart = name_left (codes "paint") name value t other apart

module _ (globals : List (List ℕ × Data)) (place : Place) (name : List ℕ) (value t : Tree) where
  abbrev edited : Tree
  edited = with_property (place_key place) name value t

  head : KeepsHead t edited
  head = property_head place name value t

  filter_stays : layer_expressions globals edited Filter ≡ layer_expressions globals t Filter
  filter_stays =
      same_filter globals t edited head (property_left (place_key place) name value t (codes "filter") (place_filter place))

  -- the properties of all numbers but that of the row
  property_stays : (n : ℕ) → ((row : RowData) → row_of (type_of t) place name ≢ Some (n, row))
      → layer_expressions globals edited (Property n) ≡ layer_expressions globals t (Property n)
  property_stays n differ = same_property globals t edited head n
      (λ row is. value_left place row.place name value t row.name (other_row (type_of t) place n row is name (differ row)))

  -- A property that is set, or taken away, changes the item of its row alone.
  pub property_item : (r : ℕ × RowData) → row_of (type_of t) place name ≡ Some r → ChangesItem globals (Property r.0) t edited
  property_item r found = record {
    others = others;
    type = same_type globals t edited head;
    source = same_source globals t edited head;
    source_layer = same_source_layer globals t edited head;
  } where
    number_of : (n : ℕ) (row : RowData) → Some r ≡ Some (n, row) → r.0 ≡ n
    number_of n row e = ap (λ (p : ℕ × RowData). p.0) (let same : r ≡ (n, row) = cc in same)

    others : (other : CellItem) → Property r.0 ≢ other
        → layer_expressions globals edited other ≡ layer_expressions globals t other
    others Filter differ = filter_stays
    others (Property n) differ = property_stays n (λ row is. differ (ap Property (number_of n row (sym found ∙ is))))

  -- One that the table does not have changes none.
  pub property_of_none : row_of (type_of t) place name ≡ None → ChangesNoItem globals t edited
  property_of_none none = record {
    all = all;
    type = same_type globals t edited head;
    source = same_source globals t edited head;
    source_layer = same_source_layer globals t edited head;
  } where
    no_row : (found : ℕ × RowData) → None ≡ Some found → ⊥
    no_row found e = cc

    all : (item : CellItem) → layer_expressions globals edited item ≡ layer_expressions globals t item
    all Filter = filter_stays
    all (Property n) = property_stays n (λ row is. no_row (n, row) (sym none ∙ is))

-- ---- the filter

module _ (globals : List (List ℕ × Data)) (filter t : Tree) where
  abbrev filtered : Tree
  filtered = with_filter filter t

  filter_head : KeepsHead t filtered
  filter_head = head_left (codes "filter") t filtered (filter_left filter t) refl refl refl refl

  properties_left : (place : Place) → member (place_key place) filtered ≡ member (place_key place) t
  properties_left Layout = filter_left filter t (codes "layout") refl
  properties_left Paint = filter_left filter t (codes "paint") refl

  -- A filter that is set, or taken away, changes no property.
  pub filter_item : ChangesItem globals Filter t filtered
  filter_item = record {
    others = others;
    type = same_type globals t filtered filter_head;
    source = same_source globals t filtered filter_head;
    source_layer = same_source_layer globals t filtered filter_head;
  } where
    others : (other : CellItem) → Filter ≢ other → layer_expressions globals filtered other ≡ layer_expressions globals t other
    others Filter differ = absurd (differ refl)
    others (Property n) differ = same_properties globals t filtered filter_head properties_left n

-- ---- the range of zooms

module _ (globals : List (List ℕ × Data)) (min max : Option ℤ) (t : Tree) where
  abbrev ranged : Tree
  ranged = with_range min max t

  range_head : KeepsHead t ranged
  range_head = record {
    ref = range_left min max t (codes "ref") refl refl;
    type = range_left min max t (codes "type") refl refl;
    source = range_left min max t (codes "source") refl refl;
    source_layer = range_left min max t (codes "source-layer") refl refl;
  }

  ranged_properties : (place : Place) → member (place_key place) ranged ≡ member (place_key place) t
  ranged_properties Layout = range_left min max t (codes "layout") refl refl
  ranged_properties Paint = range_left min max t (codes "paint") refl refl

  -- A range changes no item.
  pub range_item : ChangesNoItem globals t ranged
  range_item = record {
    all = all;
    type = same_type globals t ranged range_head;
    source = same_source globals t ranged range_head;
    source_layer = same_source_layer globals t ranged range_head;
  } where
    all : (item : CellItem) → layer_expressions globals ranged item ≡ layer_expressions globals t item
    all Filter = same_filter globals t ranged range_head (range_left min max t (codes "filter") refl refl)
    all (Property n) = same_properties globals t ranged range_head ranged_properties n

-- ---- a layer of which no item changes is held as it was, and what is kept of it stays right

module _ (globals : List (List ℕ × Data)) (old new : Tree) (same : ChangesNoItem globals old new)
    (tiles : List SourceTile) where
  same_features : layer_features tiles (prepared_layer globals new) ≡ layer_features tiles (prepared_layer globals old)
  same_features = λ i. layer_features tiles (record (prepared_layer globals new) {
    type = same.type i;
    source = same.source i;
    source_layer = same.source_layer i;
  })

  same_feature_at : (scene : Scene) (f : Option ℕ)
      → feature_at scene tiles (prepared_layer globals new) f ≡ feature_at scene tiles (prepared_layer globals old) f
  same_feature_at scene f = λ i. feature_at scene tiles (record (prepared_layer globals new) {
    type = same.type i;
    source = same.source i;
    source_layer = same.source_layer i;
  }) f

  module _ {E : Type 0} (slots : E → List Sized) (b : Buckets E) (n : ℕ) where
    pub still_held : HasLayer slots tiles globals b n old → HasLayer slots tiles globals b n new
    still_held held = record {
      sources = λ item. subst (λ e. IsSourced (slots (evaluator_of b)) item e (source_of b n item)) (sym (same.all item)) (held.sources item);
      features = held.features ∙ ap (λ fs. Some (length fs)) (sym same_features);
    }

    pub still_right : (scene : Scene) → IsRight slots tiles globals b scene n old → IsRight slots tiles globals b scene n new
    still_right scene right c value is =
        right c value is ∙ sym (λ i. meaning_by scene (same.all c.item i) (same_feature_at scene c.feature i))
