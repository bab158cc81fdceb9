-- A migrated document has the layout that the document has.
use Rattle.std.proofs.Common.{◌≡◌, ◌∙◌, ℕ, List, [], ◌∷◌, map, refl, ap, sym, subst, true, false}
use Rattle.std.specs.Prelude.{Bool, codes, flat_map, Option, Some, None, option_map, if◌then◌else◌}
use Rattle.std.specs.Option.{option_and_then}
use Rattle.decimal_json.specs.Tree.{Tree, Trees, no_trees, tree}
use Rattle.decimal_json.specs.Accessors.{member, text_in}
use Rattle.prop_values.specs.Data.{Data}
use Rattle.property_tables.specs.Rows.{RowData, rows_of}
use Rattle.property_tables.specs.TableLaws.{TableKeepsRules}
use Rattle.property_tables.specs.declared.layer_type.LayerType.{LayerType}
use Rattle.style_parts.specs.Numbers.{number_in}
use Rattle.style_parts.specs.Parts.{layers_of}
use Rattle.value_forms.specs.LayerTypes.{is_unread_type, layer_type, tested_type}
use Rattle.legacy_laws.specs.LegacyFunctionLaw.{IsTableRow}
use Rattle.listing_text.specs.Layout.{LayerOut}
use Rattle.style_migrate.specs.Migrated.{mapped_items, value_of_row, migrated_value}
use Rattle.style_migrate.specs.Migrated.{migrated_member, migrated_layer}
use Rattle.style_layout.specs.Forms.{Scene, Property, property_of, reads_feature, LayerFilter, layer_filter}
use Rattle.style_layout.specs.Layers.{set_value, is_visibility, property_if, set_property, properties_of}
use Rattle.style_layout.specs.Layers.{StyleLayer, text_or_empty, typed_layer, with_layer, layers_in}
use Rattle.style_layout.specs.Shown.{SourceTile}
use Rattle.style_layout.specs.StyleLayout.{layer_out}
use Rattle.migrate_laws.specs.MigratedLaw.{MigratedValuesAreTheSame, LetsTheSamePass, MigratedFiltersAreTheSame}
use Rattle.migrate_laws.specs.MigratedLaw.{MigratedDocumentsHaveTheSameLayout}
use Rattle.migrate_laws.proofs.MappedMembers.{type_kept}
use Rattle.migrate_laws.proofs.FoundRows.{IsFoundBy, AreFoundBy, own_row, rows_found}
use Rattle.migrate_laws.proofs.MigratedParts.{tested, layer_member, kept_member, value_change, set_value_at}
use Rattle.migrate_laws.proofs.MigratedParts.{invisible_kept, migrated_layers}
use Rattle.migrate_laws.proofs.ListedAlike.{IsListedAs, AreListedAs, joined_alike, layer_same}

module _ (values : MigratedValuesAreTheSame) (filters : MigratedFiltersAreTheSame) (keeps : TableKeepsRules)
    (globals : List (List ℕ × Data)) where
  -- ---- properties

  itself : (p : Property) → IsListedAs p p
  itself p = record { row = refl; per_feature = refl; outcome = λ world. refl }

  -- the trees of a row
  abbrev IsSetAs : RowData → Tree → Tree → Type 0
  IsSetAs row new old = IsListedAs (property_of row globals new) (property_of row globals old)

  migrated_same : (row : RowData) → IsTableRow row → (t : Tree) → IsSetAs row (migrated_value row t) t
  migrated_same row of_table t =
      let same = values row globals t of_table in
      record { row = refl; per_feature = ap reads_feature same.mentions; outcome = same.outcome }

  changed_same : (type : LayerType) (row : RowData) → IsFoundBy (own_row type) row → (unread : Bool) (t : Tree)
      → IsSetAs row (value_change (if unread then None else Some type) row.place row.name t) t
  changed_same type row found true t = itself (property_of row globals t)
  changed_same type row found false t =
      let (n, is) = found in
      let new : migrated_value row t ≡ value_of_row (own_row type row) t = ap (λ o. value_of_row o t) (sym is) in
      subst (λ u. IsSetAs row u t) new (migrated_same row (type, row.place, row.name, n, is) t)

  value_same : (type : LayerType) (row : RowData) → IsFoundBy (own_row type) row → (o : Option Tree)
      → AreListedAs
      (property_if row globals (option_map (value_change (tested_type (Some type)) row.place row.name) o))
      (property_if row globals o)
  value_same type row found (Some t) = (changed_same type row found (is_unread_type type) t, tt)
  value_same type row found None = tt

  unless : (b : Bool) (ps qs : List Property) → AreListedAs ps qs
      → AreListedAs (if b then [] else ps) (if b then [] else qs)
  unless true ps qs h = tt
  unless false ps qs h = h

  module _ (layer : Tree) (type : LayerType) (of_type : layer_type layer ≡ Some type) where
    abbrev new : Tree
    new = migrated_layer layer

    set_same : (row : RowData) → IsFoundBy (own_row type) row
        → AreListedAs (set_property globals new row) (set_property globals layer row)
    set_same row found =
        let old = set_value layer row.place row.name in
        let changed : option_map (value_change (tested_type (Some type)) row.place row.name) old
        ≡ set_value new row.place row.name =
        ap (λ o. option_map (value_change (tested_type o) row.place row.name) old) (sym of_type)
        ∙ sym (set_value_at layer row.place row.name) in
        let was = property_if row globals old in
        let same = value_same type row found old in
        let here = subst (λ o. AreListedAs (property_if row globals o) was) changed same in
        unless (is_visibility row) (property_if row globals (set_value new row.place row.name)) was here

    all_same : (rows : List RowData) → AreFoundBy (own_row type) rows
        → AreListedAs (flat_map (set_property globals new) rows) (flat_map (set_property globals layer) rows)
    all_same [] found = tt
    all_same (row ∷ rows) found =
        joined_alike (set_property globals new row) (set_property globals layer row)
        (flat_map (set_property globals new) rows) (flat_map (set_property globals layer) rows)
        (set_same row found.0) (all_same rows found.1)

    pub properties_same : AreListedAs (properties_of globals type new) (properties_of globals type layer)
    properties_same = all_same (rows_of type) (rows_found keeps type)

    -- ---- the filter

    chosen_same : (o : Option Tree)
        → LetsTheSamePass
        (layer_filter globals (option_map (migrated_member (tested layer) (codes "filter")) o))
        (layer_filter globals o)
    chosen_same (Some t) = (filters globals t).passes
    chosen_same None = record { passes = λ world. refl; outside = refl }

    abbrev chosen : LayerFilter
    chosen = layer_filter globals (member (codes "filter") new)

    filter_same : LetsTheSamePass chosen (layer_filter globals (member (codes "filter") layer))
    filter_same =
        let old = member (codes "filter") layer in
        subst (λ o. LetsTheSamePass (layer_filter globals o) (layer_filter globals old))
        (sym (layer_member (codes "filter") layer)) (chosen_same old)

    -- ---- the layer

    pub fields_same : typed_layer globals new type
        ≡ record (typed_layer globals layer type) {
          filter = chosen;
          properties = properties_of globals type new;
        }
    fields_same =
        let id = kept_member (codes "id") layer refl refl in
        let source = kept_member (codes "source") layer refl refl in
        let source_layer = kept_member (codes "source-layer") layer refl refl in
        let invisible = invisible_kept layer in
        let least = kept_member (codes "minzoom") layer refl refl in
        let most = kept_member (codes "maxzoom") layer refl refl in
        λ i. record {
          id = text_or_empty (option_and_then text_in (id i));
          type = type;
          source = text_or_empty (option_and_then text_in (source i));
          source_layer = text_or_empty (option_and_then text_in (source_layer i));
          is_invisible = invisible i;
          min_zoom = option_and_then number_in (least i);
          max_zoom = option_and_then number_in (most i);
          filter = chosen;
          properties = properties_of globals type new;
        }

    typed_same : (scene : Scene) (tiles : List SourceTile)
        → layer_out scene tiles (typed_layer globals new type)
        ≡ layer_out scene tiles (typed_layer globals layer type)
    typed_same scene tiles =
        let old = typed_layer globals layer type in
        ap (layer_out scene tiles) fields_same
        ∙ layer_same scene tiles old chosen (properties_of globals type new) filter_same properties_same

  -- ---- all layers

  module _ (scene : Scene) (tiles : List SourceTile) where
    abbrev outs : List StyleLayer → List LayerOut
    outs layers = map (layer_out scene tiles) layers

    with_same : (layer : Tree) (found : Option LayerType) (ls ms : List StyleLayer) → layer_type layer ≡ found
        → outs ls ≡ outs ms
        → outs (with_layer (option_map (typed_layer globals (migrated_layer layer)) found) ls)
        ≡ outs (with_layer (option_map (typed_layer globals layer) found) ms)
    with_same layer (Some type) ls ms is rest =
        let one = typed_same layer type is scene tiles in
        λ i. one i ∷ rest i
    with_same layer None ls ms is rest = rest

    layers_same : (ts : Trees)
        → outs (layers_in globals (mapped_items migrated_layer ts)) ≡ outs (layers_in globals ts)
    layers_same no_trees = refl
    layers_same (tree layer ts) =
        let later = layers_in globals (mapped_items migrated_layer ts) in
        let made = typed_layer globals (migrated_layer layer) in
        ap (λ o. outs (with_layer (option_map made o) later)) (type_kept layer)
        ∙ with_same layer (layer_type layer) later (layers_in globals ts) refl (layers_same ts)

pub layouts_are_the_same : MigratedValuesAreTheSame → MigratedFiltersAreTheSame → TableKeepsRules
    → MigratedDocumentsHaveTheSameLayout
layouts_are_the_same values filters keeps scene tiles globals document =
    let layers = layers_of document in
    let same = layers_same values filters keeps globals scene tiles layers in
    let outs = ap (λ ts. map (layer_out scene tiles) (layers_in globals ts)) (migrated_layers document) ∙ same in
    λ i. record { zoom = scene.zoom; layers = outs i }
