-- The cells of a document whose layers are ranged, removed or moved: none comes.
use Rattle.std.proofs.Common.{◌≡◌, ◌∙◌, ℕ, ◌+◌, ◌*◌, ◌≤◌, ℤ, List, [], ◌∷◌, ◌++◌, length, flat_map, refl, sym, ap, subst, arith, Bool, true, false, Option, Some, None}
use Rattle.std.specs.Option.{option_and_then}
use Rattle.std.specs.Prelude.{codes, is_some, option_map, if◌then◌else◌}
use Rattle.std.specs.Str.{bytes_eq}
use Rattle.decimal_json.specs.Accessors.{member, text_in, trees_in}
use Rattle.decimal_json.specs.Tree.{Tree, null, boolean, number, text, list, object, trees_of}
use Rattle.prop_values.specs.Data.{Data}
use Rattle.property_tables.specs.Rows.{RowData, rows_of}
use Rattle.property_tables.specs.declared.layer_type.LayerType.{LayerType}
use Rattle.property_tables.specs.declared.property_row.Place.{Place}
use Rattle.property_tables.specs.declared.property_row.Place.TheVariants.{Layout, Paint}
use Rattle.edit_script.specs.Form.{elements_of}
use Rattle.edit_findings.proofs.DocumentLaws.{elements_back}
use Rattle.pending_ranges.specs.Pending.{Pending, ZoomRange}
use Rattle.style_edits.proofs.ObjectLaws.{member_replaced}
use Rattle.style_edits.specs.Layer.{with_range}
use Rattle.style_edits.specs.Layers as layers
use Rattle.style_edits.specs.Layers.{with_list, with_changed, layer_named, changed_layer, without_layer, layer_before, is_itself, moved_if_there, moved_layer}
use Rattle.style_parts.specs.Parts.{is_id_of}
use Rattle.value_forms.specs.LayerTypes.{layer_type, type_in}
use Rattle.style_layout.specs.Layers.{StyleLayer, has_features, place_key, is_visibility, property_if, properties_of, feature_properties, text_or_empty, typed_layer, layer_of, with_layer, layers_in, style_layers}
use Rattle.style_layout.specs.Shown.{SourceTile, features_named}
use Rattle.style_layout.specs.StyleLayout.{layer_cells, cell_count}
use Rattle.kept_layers.proofs.ItemLaws.{range_left}
use Rattle.edit_session.specs.Ranges.{ranged_document, ranged_layer, ranged_layers}

module _ (tiles : List SourceTile) (globals : List (List ℕ × Data)) where
  -- the cells of a layer of a document
  abbrev pub cells : Tree → ℕ
  cells t = cell_count tiles (with_layer (layer_of globals t) [])

  abbrev pub total : List Tree → ℕ
  total [] = 0
  total (t ∷ ts) = cells t + total ts

  counted_step : (o : Option StyleLayer) (rest : List StyleLayer) (n : ℕ) → cell_count tiles rest ≡ n →
      cell_count tiles (with_layer o rest) ≡ cell_count tiles (with_layer o []) + n
  counted_step (Some l) rest n h = omega (arith, h)
  counted_step None rest n h = omega (arith, h)

  counted : (ts : List Tree) → cell_count tiles (layers_in globals (trees_of ts)) ≡ total ts
  counted [] = refl
  counted (t ∷ ts) = counted_step (layer_of globals t) (layers_in globals (trees_of ts)) (total ts) (counted ts)

  -- ---- a range

  module _ (min max : Option ℤ) (layer : Tree) where
    abbrev ranged : Tree
    ranged = with_range min max layer

    placed_same : (place : Place) → member (place_key place) ranged ≡ member (place_key place) layer
    placed_same Layout = range_left min max layer (codes "layout") refl refl
    placed_same Paint = range_left min max layer (codes "paint") refl refl

    properties_same : (type : LayerType) → properties_of globals type ranged ≡ properties_of globals type layer
    properties_same type = λ i. flat_map (λ (row : RowData). if is_visibility row then [] else property_if row globals (option_and_then (member row.name) (placed_same row.place i))) (rows_of type)

    type_same : layer_type ranged ≡ layer_type layer
    type_same =
        let ref = range_left min max layer (codes "ref") refl refl in
        let type = range_left min max layer (codes "type") refl refl in
        λ i. if is_some (ref i) then None else option_and_then type_in (type i)

    typed_same : (type : LayerType) → layer_cells tiles (typed_layer globals ranged type) ≡ layer_cells tiles (typed_layer globals layer type)
    typed_same type =
        let source = range_left min max layer (codes "source") refl refl in
        let source_layer = range_left min max layer (codes "source-layer") refl refl in
        λ i. length (flat_map (λ (tile : SourceTile). if bytes_eq tile.0 (text_or_empty (option_and_then text_in (source i))) then features_named (text_or_empty (option_and_then text_in (source_layer i))) tile.1 else []) (if has_features type then tiles else []))
        * (1 + length (feature_properties (properties_same type i)))

    cells_by : (type : Option LayerType) →
        cell_count tiles (with_layer (option_map (typed_layer globals ranged) type) []) ≡ cell_count tiles (with_layer (option_map (typed_layer globals layer) type) [])
    cells_by (Some type) = λ i. typed_same type i + 0
    cells_by None = refl

    pub range_same : cells ranged ≡ cells layer
    range_same = ap (λ type. cell_count tiles (with_layer (option_map (typed_layer globals ranged) type) [])) type_same ∙ cells_by (layer_type layer)

  -- ---- layers that are changed, taken out and put in

  pub changed_same : (id : List ℕ) (change : Tree → Tree) → ((t : Tree) → cells (change t) ≡ cells t) → (ts : List Tree) → total (changed_layer id change ts) ≡ total ts
  changed_same id change same [] = refl
  changed_same id change same (t ∷ ts) = by (changed_same id change same ts) (is_id_of id t)
    where
      by : total (changed_layer id change ts) ≡ total ts → (b : Bool) → total (if b then change t ∷ ts else t ∷ changed_layer id change ts) ≡ total (t ∷ ts)
      by rest true = λ i. same t i + total ts
      by rest false = λ i. cells t + rest i

  pub without_less : (id : List ℕ) (ts : List Tree) → total (without_layer id ts) ≤ total ts
  without_less id [] = omega arith
  without_less id (t ∷ ts) = by (without_less id ts) (is_id_of id t)
    where
      by : total (without_layer id ts) ≤ total ts → (b : Bool) → total (if b then ts else t ∷ without_layer id ts) ≤ total (t ∷ ts)
      by rest true = omega arith
      by rest false = omega (arith, rest)

  total_last : (ts : List Tree) (layer : Tree) → total (ts ++ layer ∷ []) ≡ cells layer + total ts
  total_last [] layer = refl
  total_last (t ∷ ts) layer = omega (arith, total_last ts layer)

  put_before : (id : List ℕ) (layer : Tree) (ts : List Tree) → total (layer_before id layer ts) ≡ cells layer + total ts
  put_before id layer [] = refl
  put_before id layer (t ∷ ts) = by (put_before id layer ts) (is_id_of id t)
    where
      by : total (layer_before id layer ts) ≡ cells layer + total ts → (b : Bool) → total (if b then layer ∷ t ∷ ts else t ∷ layer_before id layer ts) ≡ cells layer + total (t ∷ ts)
      by rest true = refl
      by rest false = omega (arith, rest)

  put_in : (before : Option (List ℕ)) (layer : Tree) (ts : List Tree) → total (layers.with_layer before layer ts) ≡ cells layer + total ts
  put_in (Some id) layer ts = put_before id layer ts
  put_in None layer ts = total_last ts layer

  taken_out : (id : List ℕ) (layer : Tree) (ts : List Tree) → layer_named id ts ≡ Some layer → cells layer + total (without_layer id ts) ≡ total ts
  taken_out id layer [] h = absurd (cc)
  taken_out id layer (t ∷ ts) h = by (taken_out id layer ts) (is_id_of id t) h
    where
      by : (layer_named id ts ≡ Some layer → cells layer + total (without_layer id ts) ≡ total ts) → (b : Bool) → (if b then Some t else layer_named id ts) ≡ Some layer → cells layer + total (if b then ts else t ∷ without_layer id ts) ≡ total (t ∷ ts)
      by rest true h = let same : t ≡ layer = cc in λ i. cells (sym same i) + total ts
      by rest false h = omega (arith, rest h)

  pub moved_same : (id : List ℕ) (before : Option (List ℕ)) (ts : List Tree) → total (moved_layer id before ts) ≡ total ts
  moved_same id before ts = by (is_itself id before) (layer_named id ts) refl
    where
      by : (b : Bool) (o : Option Tree) → layer_named id ts ≡ o → total (if b then ts else moved_if_there o id before ts) ≡ total ts
      by true o is = refl
      by false None is = refl
      by false (Some layer) is = put_in before layer (without_layer id ts) ∙ taken_out id layer ts is

  -- ---- ranges that are to be set

  ranged_cells : (r : Option ZoomRange) (t : Tree) → cells (ranged_layer r t) ≡ cells t
  ranged_cells (Some r) t = range_same r.0 r.1 t
  ranged_cells None t = refl

  ranged_total : (rs : Pending) (ts : List Tree) → total (ranged_layers rs ts) ≡ total ts
  ranged_total [] ts = refl
  ranged_total (r ∷ rs) [] = refl
  ranged_total (r ∷ rs) (t ∷ ts) = λ i. ranged_cells r t i + ranged_total rs ts i

  -- ---- documents

  stays : (document : Tree) (o : Option Tree) → member (codes "layers") document ≡ o →
      cell_count tiles (style_layers globals document) ≤ cell_count tiles (layers_in globals (trees_in o))
  stays document o is = subst (λ x. cell_count tiles (style_layers globals document) ≤ cell_count tiles (layers_in globals (trees_in x))) is (omega arith)

  pub document_by : (change : List Tree → List Tree) → ((ts : List Tree) → total (change ts) ≤ total ts) → (document : Tree) (o : Option Tree) → member (codes "layers") document ≡ o →
      cell_count tiles (style_layers globals (with_changed change o document)) ≤ cell_count tiles (layers_in globals (trees_in o))
  document_by change less document (Some (list ts)) is =
      let ls = elements_of ts in
      let put = member_replaced (codes "layers") (list ts) (list (trees_of (change ls))) document is in
      let new : cell_count tiles (style_layers globals (with_list (change ls) document)) ≡ total (change ls) =
      ap (λ o. cell_count tiles (layers_in globals (trees_in o))) put ∙ counted (change ls) in
      let old : cell_count tiles (layers_in globals ts) ≡ total ls = ap (λ us. cell_count tiles (layers_in globals us)) (sym (elements_back ts)) ∙ counted ls in
      subst (λ n. n ≤ cell_count tiles (layers_in globals ts)) (sym new) (subst (λ n. total (change ls) ≤ n) (sym old) (less ls))
  document_by change less document None is = stays document None is
  document_by change less document (Some null) is = stays document (Some null) is
  document_by change less document (Some (boolean b)) is = stays document (Some (boolean b)) is
  document_by change less document (Some (number n)) is = stays document (Some (number n)) is
  document_by change less document (Some (text s)) is = stays document (Some (text s)) is
  document_by change less document (Some (object fs)) is = stays document (Some (object fs)) is

  pub ranged_count : (rs : Pending) (document : Tree)
      → cell_count tiles (style_layers globals (ranged_document rs document)) ≤ cell_count tiles (style_layers globals document)
  ranged_count rs document =
      document_by (ranged_layers rs) (λ ts. subst (λ n. n ≤ total ts) (sym (ranged_total rs ts)) (omega arith))
      document (member (codes "layers") document) refl
