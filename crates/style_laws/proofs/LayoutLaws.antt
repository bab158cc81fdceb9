-- What is reported of a document without findings holds of each value of its layouts.
use Rattle.std.proofs.Common.{◌≡◌, ℕ, zero, suc, ◌+◌, List, [], ◌∷◌, map, flat_map, refl, sym, subst, arith, Bool, true, false, Option, Some, None}
use Rattle.std.proofs.lemmas.List.Elements.{All-nil, All-cons, All-append, All-map, All-filter}
use Rattle.std.specs.Prelude.{All, Contains, codes, not, ◌&&◌, option_map, slice_index_or, if◌then◌else◌}
use Rattle.decimal_json.specs.Accessors.{member}
use Rattle.decimal_json.specs.Tree.{Tree, Trees, no_trees, tree}
use Rattle.prop_values.specs.Data.{Data}
use Rattle.property_tables.proofs.Tables.{table_keeps_rules}
use Rattle.property_tables.specs.Defaults.{default_of}
use Rattle.property_tables.specs.Rows.{RowData, rows_of, row_of}
use Rattle.property_tables.specs.declared.layer_type.LayerType.{LayerType}
use Rattle.style_parts.specs.Parts.{layers_of, layer_at}
use Rattle.tile_reader.specs.declared.tile.Feature.{Feature}
use Rattle.eval_face.specs.World.{no_feature}
use Rattle.value_forms.specs.Forms.{form_of}
use Rattle.value_forms.specs.LayerTypes.{layer_type, is_unread_type}
use Rattle.listing_text.specs.Layout.{ListedValue, FeatureOut, LayerOut}
use Rattle.listing_text.specs.declared.show.Show.{Show}
use Rattle.listing_text.specs.declared.show.Show.TheVariants.{Plain, Hidden, Unread, OutsideFilter}
use Rattle.migrate_laws.proofs.FoundRows.{AreFoundBy, own_row, rows_found}
use Rattle.style_layout.specs.Forms.{Scene, Property, property_of, layer_filter, is_outside}
use Rattle.style_layout.specs.Layers.{StyleLayer, set_value, is_visibility, property_if, set_property, properties_of, layer_properties, feature_properties, sort_property, typed_layer, with_layer, layers_in, is_hidden, has_features, shown_plainly, show_of}
use Rattle.style_layout.specs.Shown.{SourceTile, LayerFeature, zoom_at, listed_value, ordered, shown_features, feature_out}
use Rattle.style_layout.specs.StyleLayout.{shown_layer, layer_out, layout_of}
use Rattle.style_rules.specs.Findings.{findings, notes}
use Rattle.style_laws.specs.StyleLaw.{value_path, filter_path, MarksAreListed, HasItsNote, AllValues, EachLayer, MarkedFaultsAreListed, OutsideValuesHaveNotes}
use Rattle.style_laws.proofs.ListedFaults.{Laws, value_listed, value_noted, filter_noted}
use Rattle.style_laws.proofs.ReportedValues.{typed, value_reported, filter_reported}

all_any : {A : Type 0} (Q : A → Type 0) → ((a : A) → Q a) → (xs : List A) → All Q xs
all_any Q each xs = λ k d h. each (slice_index_or xs k d)

-- ---- the properties of a layer

module _ (globals : List (List ℕ × Data)) (layer : Tree) (type : LayerType) (Q : Property → Type 0)
    (each : (row : RowData) (n : ℕ) (v : Tree) → row_of type row.place row.name ≡ Some (n, row) →
    set_value layer row.place row.name ≡ Some v → Q (property_of row globals v)) where
  set_all : (row : RowData) (n : ℕ) → row_of type row.place row.name ≡ Some (n, row) → (hidden : Bool) (v : Option Tree) →
      set_value layer row.place row.name ≡ v → All Q (if hidden then [] else property_if row globals v)
  set_all row n at_row true v is = All-nil Q
  set_all row n at_row false (Some v) is = All-cons Q (property_of row globals v) [] (each row n v at_row is) (All-nil Q)
  set_all row n at_row false None is = All-nil Q

  rows_all : (rows : List RowData) → AreFoundBy (own_row type) rows → All Q (flat_map (set_property globals layer) rows)
  rows_all [] h = All-nil Q
  rows_all (row ∷ rows) h =
      All-append Q (set_property globals layer row) (flat_map (set_property globals layer) rows)
      (set_all row h.0.0 h.0.1 (is_visibility row) (set_value layer row.place row.name) refl) (rows_all rows h.1)

  properties_all : All Q (properties_of globals type layer)
  properties_all = rows_all (rows_of type) (rows_found table_keeps_rules type)

-- ---- the values of a layer

module _ (scene : Scene) (tiles : List SourceTile) (P : ListedValue → Type 0) (layer : StyleLayer)
    (each : (f : Feature) (state : List (List ℕ × Data)) → is_unread_type layer.type ≡ false →
    All (λ p. P (listed_value scene f state p)) layer.properties) where
  nothing_listed : (show : Show) → AllValues P (record { id = layer.id; layer_type = layer.type; show = show; values = []; features = [] })
  nothing_listed show = record { own = All-nil P; of_features = All-nil (λ (f : FeatureOut). All P f.values) }

  own_all : is_unread_type layer.type ≡ false → All P (map (listed_value scene no_feature []) (layer_properties layer.properties))
  own_all read =
      All-map P (listed_value scene no_feature []) (layer_properties layer.properties)
      (All-filter (λ (p : Property). not p.is_per_feature) (λ p. P (listed_value scene no_feature [] p)) layer.properties (each no_feature [] read))

  feature_all : is_unread_type layer.type ≡ false → (f : LayerFeature) → All P (feature_out scene layer f).values
  feature_all read f =
      All-map P (listed_value scene f.feature f.state) (feature_properties layer.properties)
      (All-filter (λ (p : Property). p.is_per_feature) (λ p. P (listed_value scene f.feature f.state p)) layer.properties (each f.feature f.state read))

  features_all : is_unread_type layer.type ≡ false → (fs : List LayerFeature) → All (λ (f : FeatureOut). All P f.values) (map (feature_out scene layer) fs)
  features_all read fs =
      All-map (λ (f : FeatureOut). All P f.values) (feature_out scene layer) fs
      (all_any (λ f. All P (feature_out scene layer f).values) (feature_all read) fs)

  values_by : is_unread_type layer.type ≡ false → (show : Show) → AllValues P (shown_layer scene tiles show layer)
  values_by read Plain = record {
    own = own_all read;
    of_features = features_all read (ordered scene (sort_property layer.type layer.properties) (shown_features scene layer tiles));
  }
  values_by read OutsideFilter = record { own = own_all read; of_features = All-nil (λ (f : FeatureOut). All P f.values) }
  values_by read Hidden = nothing_listed Hidden
  values_by read Unread = nothing_listed Unread

  shown_by : (hidden unread : Bool) (show : Show) → is_unread_type layer.type ≡ unread →
      AllValues P (shown_layer scene tiles (if hidden then Hidden else if unread then Unread else show) layer)
  shown_by true unread show is = nothing_listed Hidden
  shown_by false true show is = nothing_listed Unread
  shown_by false false show is = values_by is show

  values_all : AllValues P (layer_out scene tiles layer)
  values_all = shown_by (is_hidden scene.zoom layer) (is_unread_type layer.type) (shown_plainly layer.type (is_outside layer.filter)) refl

-- a layer that is shown with `?` has a filter that is outside
filter_shown : (scene : Scene) (layer : StyleLayer) → show_of scene.zoom layer ≡ OutsideFilter → is_outside layer.filter ≡ true
filter_shown scene layer h = by (is_hidden scene.zoom layer) (is_unread_type layer.type) (has_features layer.type) (is_outside layer.filter) h
  where
    by : (a b c d : Bool) → (if a then Hidden else if b then Unread else if c && d then OutsideFilter else Plain) ≡ OutsideFilter → d ≡ true
    by true b c d h = absurd (cc)
    by false true c d h = absurd (cc)
    by false false true true h = refl
    by false false true false h = absurd (cc)
    by false false false d h = absurd (cc)

-- ---- all layers

module _ (document : Tree) (none : findings document ≡ []) (scene : Scene) (tiles : List SourceTile) (globals : List (List ℕ × Data))
    (P : ℕ → LayerOut → Type 0)
    (each : (i : ℕ) (layer : Tree) (type : LayerType) → layer_at i (layers_of document) ≡ Some layer → layer_type layer ≡ Some type →
    P i (layer_out scene tiles (typed_layer globals layer type))) where
  abbrev IsRest : ℕ → Trees → Type 0
  IsRest k ts = (j : ℕ) (layer : Tree) → layer_at j ts ≡ Some layer → layer_at (k + j) (layers_of document) ≡ Some layer

  layers_all : (ts : Trees) (k : ℕ) → IsRest k ts → EachLayer P k (map (layer_out scene tiles) (layers_in globals ts))
  layers_all no_trees k rest = tt
  layers_all (tree t ts) k rest =
      let here : k + 0 ≡ k = omega arith in
      let found : layer_at k (layers_of document) ≡ Some t = subst (λ n. layer_at n (layers_of document) ≡ Some t) here (rest zero t refl) in
      let (type, is) = typed document none k t found in
      subst (λ o. EachLayer P k (map (layer_out scene tiles) (with_layer (option_map (typed_layer globals t) o) (layers_in globals ts)))) (sym is) (
        each k t type found is,
        layers_all ts (k + 1) (λ j layer h.
            let there : k + suc j ≡ (k + 1) + j = omega arith in
            subst (λ n. layer_at n (layers_of document) ≡ Some layer) there (rest (suc j) layer h)),
      )

  all_layers : EachLayer P 0 (layout_of scene tiles globals document).layers
  all_layers = layers_all (layers_of document) 0 (λ j layer h.
      let here : j ≡ 0 + j = omega arith in subst (λ n. layer_at n (layers_of document) ≡ Some layer) here h)

-- ---- the laws

module _ (laws : Laws) (document : Tree) (none : findings document ≡ []) (scene : Scene) (globals : List (List ℕ × Data))
    (i : ℕ) (layer : Tree) (type : LayerType) (found : layer_at i (layers_of document) ≡ Some layer) (is : layer_type layer ≡ Some type)
    (f : Feature) (state : List (List ℕ × Data)) (read : is_unread_type type ≡ false) (row : RowData) (n : ℕ) (v : Tree)
    (at_row : row_of type row.place row.name ≡ Some (n, row)) (set : set_value layer row.place row.name ≡ Some v) where
  value_marks : MarksAreListed document i (listed_value scene f state (property_of row globals v))
  value_marks d fault h =
      let path = value_path i row.place row.name in
      let (below, part) = value_reported document none i layer found type is read row.place row.name row n at_row v set in
      let (faults, line, listed) = value_listed laws row (type, row.place, row.name, n, at_row) path below globals (default_of row)
      (zoom_at scene.zoom row.place) f state scene.has_image scene.is_supported d fault v (form_of row v) refl (part.findings none) h in
      (row.place, record { faults = faults; line = part.lines (path, faults) line; listed = listed })

  value_notes : HasItsNote document i (listed_value scene f state (property_of row globals v))
  value_notes h =
      let path = value_path i row.place row.name in
      let (below, part) = value_reported document none i layer found type is read row.place row.name row n at_row v set in (
        row.place,
        part.notes path (value_noted laws row (type, row.place, row.name, n, at_row) path below globals (default_of row)
            (zoom_at scene.zoom row.place) f state scene.has_image scene.is_supported v (form_of row v) refl (part.findings none) h),
      )

filter_notes : Laws → (document : Tree) (none : findings document ≡ []) (globals : List (List ℕ × Data)) (i : ℕ) (layer : Tree) →
    layer_at i (layers_of document) ≡ Some layer → (v : Option Tree) → member (codes "filter") layer ≡ v →
    is_outside (layer_filter globals v) ≡ true → Contains (notes document) (filter_path i)
filter_notes laws document none globals i layer found None is h = absurd (cc)
filter_notes laws document none globals i layer found (Some v) is h =
    let (below, part) = filter_reported document none i layer found v is in
    part.notes (filter_path i) (filter_noted (filter_path i) below globals laws v (part.findings none) h)

pub marked_faults_are_listed : Laws → MarkedFaultsAreListed
marked_faults_are_listed laws document none scene tiles globals =
    all_layers document none scene tiles globals (λ i layer. AllValues (MarksAreListed document i) layer) (λ i layer type found is.
    values_all scene tiles (MarksAreListed document i) (typed_layer globals layer type) (λ f state read.
    properties_all globals layer type (λ p. MarksAreListed document i (listed_value scene f state p)) (λ row n v at_row set.
    value_marks laws document none scene globals i layer type found is f state read row n v at_row set)))

pub outside_values_have_notes : Laws → OutsideValuesHaveNotes
outside_values_have_notes laws document none scene tiles globals =
    all_layers document none scene tiles globals
    (λ i layer. AllValues (HasItsNote document i) layer × (layer.show ≡ OutsideFilter → Contains (notes document) (filter_path i)))
    (λ i layer type found is. (
      values_all scene tiles (HasItsNote document i) (typed_layer globals layer type) (λ f state read.
          properties_all globals layer type (λ p. HasItsNote document i (listed_value scene f state p)) (λ row n v at_row set.
          value_notes laws document none scene globals i layer type found is f state read row n v at_row set)),
      λ shown. filter_notes laws document none globals i layer found (member (codes "filter") layer) refl
          (filter_shown scene (typed_layer globals layer type) shown),
    ))
