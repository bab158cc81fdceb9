-- A simplified document has the layers that the document has.
use Rattle.std.proofs.Common.{◌≡◌, ◌∙◌, ◌≤◌, ◌+◌, ◌*◌, arith, length, mul-le-mul_left, ℕ, suc, List, [], ◌∷◌, ◌++◌, map, refl, ap, sym, subst, true, false}
use Rattle.std.specs.List.{AllZip}
use Rattle.std.proofs.lemmas.Bool.{or_left, or_right}
use Rattle.std.specs.Prelude.{◌||◌, Bool, codes, cond, flat_map, Option, Some, None, option_map, if◌then◌else◌}
use Rattle.std.specs.Option.{option_and_then}
use Rattle.decimal_json.specs.Accessors.{member, text_in}
use Rattle.decimal_json.specs.Sound.{AreSound, IsSound}
use Rattle.decimal_json.specs.Tree.{Tree, Trees, no_trees, tree}
use Rattle.prop_values.specs.Data.{Data}
use Rattle.property_tables.specs.Rows.{RowData, rows_of}
use Rattle.property_tables.specs.TableLaws.{TableKeepsRules}
use Rattle.property_tables.specs.declared.layer_type.LayerType.{LayerType}
use Rattle.expr_syntax.specs.declared.world_parts.Mentions.{Mentions}
use Rattle.style_parts.specs.Numbers.{number_in}
use Rattle.style_parts.specs.Parts.{layers_of}
use Rattle.value_forms.specs.LayerTypes.{is_unread_type, layer_type, tested_type}
use Rattle.listing_text.specs.Layout.{LayerOut}
use Rattle.style_migrate.specs.Migrated.{mapped_items}
use Rattle.style_layout.specs.Forms.{LayerFilter, Property, Scene, layer_filter, property_of, property_value, reads_feature, value_mentions}
use Rattle.style_layout.specs.Layers.{StyleLayer, feature_properties, is_visibility, layers_in, properties_of, property_if, set_property, set_value, style_layers, text_or_empty, typed_layer, with_layer}
use Rattle.style_layout.specs.Shown.{SourceTile, layer_features}
use Rattle.style_layout.specs.StyleLayout.{cell_count, layer_cells, layer_out}
use Rattle.migrate_laws.proofs.FoundRows.{AreFoundBy, IsFoundBy, own_row, rows_found}
use Rattle.migrate_laws.proofs.ListedAlike.{AreListedAs, layer_same}
use Rattle.migrate_laws.proofs.MigratedParts.{tested}
use Rattle.migrate_laws.specs.MigratedLaw.{LetsTheSamePass}
use Rattle.style_simplify.specs.SimplifiedStyle.{simplified, simplified_layer, simplified_member, simplified_value, value_of_row}
use Rattle.simplify_laws.specs.DocumentLaw.{IsTheSameLayer, IsTheSameProperty, SimplifiedDocumentsHaveTheSameLayers, SimplifiedDocumentsHaveNoMoreCells, SimplifiedDocumentsHaveTheSameLayout, SimplifiedDocumentsKeepTheirLayout, listing_places, with_all_listed}
use Rattle.simplify_laws.specs.MeaningLaw.{SimplifiedFiltersAreOutsideAlike, SimplifiedFiltersPassTheSame, ReadsNoMore, SimplifiedValuesMeanTheSame, SimplifiedValuesReadNoMore}
use Rattle.simplify_laws.proofs.SimplifiedParts.{invisible_kept, kept_member, layer_member, layers_sound, member_sound, set_sound, set_value_at, simplified_layers, type_kept, value_change}

-- ---- properties that are the same

abbrev AreTheSame : List Property → List Property → Type 0
AreTheSame ps qs = AllZip IsTheSameProperty ps qs

joined_same : (ps qs rs ss : List Property) → AreTheSame ps qs → AreTheSame rs ss → AreTheSame (ps ++ rs) (qs ++ ss)
joined_same [] [] rs ss h k = k
joined_same [] (q ∷ qs) rs ss h k = absurd h
joined_same (p ∷ ps) [] rs ss h k = absurd h
joined_same (p ∷ ps) (q ∷ qs) rs ss h k = (h.0, joined_same ps qs rs ss h.1 k)

abbrev placed : Bool → List Property → List Property
placed b ps = map (λ (p : Property). record p { is_per_feature = b }) ps

placed_alike : (b : Bool) (ps qs : List Property) → AreTheSame ps qs → AreListedAs (placed b ps) (placed b qs)
placed_alike b [] [] h = tt
placed_alike b [] (q ∷ qs) h = absurd h
placed_alike b (p ∷ ps) [] h = absurd h
placed_alike b (p ∷ ps) (q ∷ qs) h = (record { row = h.0.row; per_feature = refl; outcome = h.0.outcome }, placed_alike b ps qs h.1)

listed_before : (new old : Mentions) → ReadsNoMore new old → reads_feature new ≡ true → reads_feature old ≡ true
listed_before new old less h = by new.feature refl
  where
    by : (b : Bool) → new.feature ≡ b → reads_feature old ≡ true
    by true q = or_left old.feature old.state (less.feature q)
    by false q = or_right old.feature old.state (less.state (sym (ap (λ b. b || new.state) q) ∙ h))

module _ (values : SimplifiedValuesMeanTheSame) (reading : SimplifiedValuesReadNoMore) (passing : SimplifiedFiltersPassTheSame) (outside : SimplifiedFiltersAreOutsideAlike) (keeps : TableKeepsRules) (globals : List (List ℕ × Data)) where
  -- the trees of a row
  abbrev IsSetAs : RowData → Tree → Tree → Type 0
  IsSetAs row new old = IsTheSameProperty (property_of row globals new) (property_of row globals old)

  changed_same : (type : LayerType) (row : RowData) → IsFoundBy (own_row type) row → (unread : Bool) (k : ℕ) (t : Tree) → IsSound k t → IsSetAs row (value_change (if unread then None else Some type) row.place row.name t) t
  changed_same type row found true k t sound = record { row = refl; outcome = λ world. refl; per_feature = λ h. h }
  changed_same type row found false k t sound =
      let (n, is) = found in
      let new : simplified_value row t ≡ value_of_row (own_row type row) t = ap (λ o. value_of_row o t) (sym is) in
      subst (λ u. IsSetAs row u t) new (record {
        row = refl;
        outcome = λ world. values row globals k t sound world;
        per_feature = listed_before (value_mentions globals (property_value row globals (simplified_value row t))) (value_mentions globals (property_value row globals t)) (reading row globals k t sound);
      })

  value_same : (type : LayerType) (row : RowData) → IsFoundBy (own_row type) row → (k : ℕ) (o : Option Tree) → ((t : Tree) → o ≡ Some t → IsSound k t) →
      AreTheSame (property_if row globals (option_map (value_change (tested_type (Some type)) row.place row.name) o)) (property_if row globals o)
  value_same type row found k (Some t) sound = (changed_same type row found (is_unread_type type) k t (sound t refl), tt)
  value_same type row found k None sound = tt

  unless : (b : Bool) (ps qs : List Property) → AreTheSame ps qs → AreTheSame (if b then [] else ps) (if b then [] else qs)
  unless true ps qs h = tt
  unless false ps qs h = h

  module _ (k : ℕ) (layer : Tree) (sound : IsSound k layer) (type : LayerType) (of_type : layer_type layer ≡ Some type) where
    abbrev new : Tree
    new = simplified_layer layer

    set_same : (row : RowData) → IsFoundBy (own_row type) row → AreTheSame (set_property globals new row) (set_property globals layer row)
    set_same row found =
        let old = set_value layer row.place row.name in
        let changed : option_map (value_change (tested_type (Some type)) row.place row.name) old ≡ set_value new row.place row.name =
        ap (λ o. option_map (value_change (tested_type o) row.place row.name) old) (sym of_type) ∙ sym (set_value_at layer row.place row.name) in
        let was = property_if row globals old in
        let same = value_same type row found (suc (suc k)) old (λ t h. set_sound k layer row.place row.name t sound h) in
        let here = subst (λ o. AreTheSame (property_if row globals o) was) changed same in
        unless (is_visibility row) (property_if row globals (set_value new row.place row.name)) was here

    all_same : (rows : List RowData) → AreFoundBy (own_row type) rows → AreTheSame (flat_map (set_property globals new) rows) (flat_map (set_property globals layer) rows)
    all_same [] found = tt
    all_same (row ∷ rows) found =
        joined_same (set_property globals new row) (set_property globals layer row) (flat_map (set_property globals new) rows) (flat_map (set_property globals layer) rows)
        (set_same row found.0) (all_same rows found.1)

    -- ---- the filter

    chosen_same : (o : Option Tree) → ((t : Tree) → o ≡ Some t → IsSound (suc k) t) →
        LetsTheSamePass (layer_filter globals (option_map (simplified_member (tested layer) (codes "filter")) o)) (layer_filter globals o)
    chosen_same (Some t) h = record { passes = λ world. passing globals (suc k) t (h t refl) world; outside = outside globals (suc k) t (h t refl) }
    chosen_same None h = record { passes = λ world. refl; outside = refl }

    abbrev chosen : LayerFilter
    chosen = layer_filter globals (member (codes "filter") new)

    filter_same : LetsTheSamePass chosen (layer_filter globals (member (codes "filter") layer))
    filter_same =
        let old = member (codes "filter") layer in
        subst (λ o. LetsTheSamePass (layer_filter globals o) (layer_filter globals old)) (sym (layer_member (codes "filter") layer)) (chosen_same old (λ t h. member_sound k (codes "filter") layer t sound h))

    -- ---- the layer

    fields_same : typed_layer globals new type ≡ record (typed_layer globals layer type) { filter = chosen; properties = properties_of globals type new }
    fields_same =
        let id = kept_member (codes "id") layer refl refl in
        let source = kept_member (codes "source") layer refl refl in
        let source_layer = kept_member (codes "source-layer") layer refl refl in
        let invisible = invisible_kept layer in
        let least = kept_member (codes "minzoom") layer refl refl in
        let most = kept_member (codes "maxzoom") layer refl refl in
        λ i. record {
          id = text_or_empty (option_and_then text_in (id i));
          type = type;
          source = text_or_empty (option_and_then text_in (source i));
          source_layer = text_or_empty (option_and_then text_in (source_layer i));
          is_invisible = invisible i;
          min_zoom = option_and_then number_in (least i);
          max_zoom = option_and_then number_in (most i);
          filter = chosen;
          properties = properties_of globals type new;
        }

    typed_same : IsTheSameLayer (typed_layer globals new type) (typed_layer globals layer type)
    typed_same = record { rest = fields_same; filter = filter_same; properties = all_same (rows_of type) (rows_found keeps type) }

  -- ---- all layers

  with_same : (k : ℕ) (layer : Tree) → IsSound k layer → (found : Option LayerType) (ls ms : List StyleLayer) → layer_type layer ≡ found → AllZip IsTheSameLayer ls ms →
      AllZip IsTheSameLayer (with_layer (option_map (typed_layer globals (simplified_layer layer)) found) ls) (with_layer (option_map (typed_layer globals layer) found) ms)
  with_same k layer sound (Some type) ls ms is rest = (typed_same k layer sound type is, rest)
  with_same k layer sound None ls ms is rest = rest

  layers_same : (k : ℕ) (ts : Trees) → AreSound k ts → AllZip IsTheSameLayer (layers_in globals (mapped_items simplified_layer ts)) (layers_in globals ts)
  layers_same k no_trees sound = tt
  layers_same k (tree layer ts) sound =
      let later = layers_in globals (mapped_items simplified_layer ts) in
      subst (λ o. AllZip IsTheSameLayer (with_layer (option_map (typed_layer globals (simplified_layer layer)) o) later) (layers_in globals (tree layer ts))) (sym (type_kept layer))
      (with_same k layer sound.0 (layer_type layer) later (layers_in globals ts) refl (layers_same k ts sound.1))

  pub document_same : (document : Tree) → IsSound 0 document → AllZip IsTheSameLayer (style_layers globals (simplified document)) (style_layers globals document)
  document_same document sound =
      subst (λ ts. AllZip IsTheSameLayer (layers_in globals ts) (style_layers globals document)) (sym (simplified_layers document)) (layers_same (suc (suc 0)) (layers_of document) (layers_sound 0 document sound))

-- ---- layouts

module _ (b : Bool) (scene : Scene) (tiles : List SourceTile) where
  abbrev out_at : StyleLayer → LayerOut
  out_at layer = layer_out scene tiles (with_all_listed b layer)

  out_same : (new old : StyleLayer) → IsTheSameLayer new old → out_at new ≡ out_at old
  out_same new old h =
      ap out_at h.rest
      ∙ layer_same scene tiles (with_all_listed b old) new.filter (placed b new.properties) (record { passes = h.filter.passes; outside = h.filter.outside }) (placed_alike b new.properties old.properties h.properties)

  outs_same : (ls ms : List StyleLayer) → AllZip IsTheSameLayer ls ms → map (layer_out scene tiles) (map (with_all_listed b) ls) ≡ map (layer_out scene tiles) (map (with_all_listed b) ms)
  outs_same [] [] h = refl
  outs_same [] (m ∷ ms) h = absurd h
  outs_same (l ∷ ls) [] h = absurd h
  outs_same (l ∷ ls) (m ∷ ms) h = λ i. out_same l m h.0 i ∷ outs_same ls ms h.1 i

pub layers_are_the_same : SimplifiedValuesMeanTheSame → SimplifiedValuesReadNoMore → SimplifiedFiltersPassTheSame → SimplifiedFiltersAreOutsideAlike → TableKeepsRules → SimplifiedDocumentsHaveTheSameLayers
layers_are_the_same values reading passing outside keeps globals document sound = document_same values reading passing outside keeps globals document sound

pub layouts_are_the_same : SimplifiedDocumentsHaveTheSameLayers → SimplifiedDocumentsHaveTheSameLayout
layouts_are_the_same layers b scene tiles globals document sound =
    let outs = outs_same b scene tiles (style_layers globals (simplified document)) (style_layers globals document) (layers globals document sound) in
    λ i. record { zoom = scene.zoom; layers = outs i }

-- ---- where each value is listed where it was

abbrev flags_of : List Property → List Bool
flags_of ps = map (λ (p : Property). p.is_per_feature) ps

same_places : (ps qs : List Property) → AreTheSame ps qs → flags_of ps ≡ flags_of qs → AreListedAs ps qs
same_places [] [] h k = tt
same_places [] (q ∷ qs) h k = absurd h
same_places (p ∷ ps) [] h k = absurd h
same_places (p ∷ ps) (q ∷ qs) h k =
    let here : p.is_per_feature ≡ q.is_per_feature = cc in
    let later : flags_of ps ≡ flags_of qs = cc in
    (record { row = h.0.row; per_feature = here; outcome = h.0.outcome }, same_places ps qs h.1 later)

module _ (scene : Scene) (tiles : List SourceTile) where
  kept_out : (new old : StyleLayer) → IsTheSameLayer new old → flags_of new.properties ≡ flags_of old.properties → layer_out scene tiles new ≡ layer_out scene tiles old
  kept_out new old h k =
      ap (layer_out scene tiles) h.rest
      ∙ layer_same scene tiles old new.filter new.properties h.filter (same_places new.properties old.properties h.properties k)

  kept_outs : (ls ms : List StyleLayer) → AllZip IsTheSameLayer ls ms → listing_places ls ≡ listing_places ms → map (layer_out scene tiles) ls ≡ map (layer_out scene tiles) ms
  kept_outs [] [] h k = refl
  kept_outs [] (m ∷ ms) h k = absurd h
  kept_outs (l ∷ ls) [] h k = absurd h
  kept_outs (l ∷ ls) (m ∷ ms) h k =
      let here : flags_of l.properties ≡ flags_of m.properties = cc in
      let later : listing_places ls ≡ listing_places ms = cc in
      λ i. kept_out l m h.0 here i ∷ kept_outs ls ms h.1 later i

pub layouts_are_kept : SimplifiedDocumentsHaveTheSameLayers → SimplifiedDocumentsKeepTheirLayout
layouts_are_kept layers scene tiles globals document sound places =
    let outs = kept_outs scene tiles (style_layers globals (simplified document)) (style_layers globals document) (layers globals document sound) places in
    λ i. record { zoom = scene.zoom; layers = outs i }

-- ---- cells

kept_fewer : (b c : Bool) (p q : Property) (ps qs : List Property) → (b ≡ true → c ≡ true) → length ps ≤ length qs → length (cond b (p ∷ ps) ps) ≤ length (cond c (q ∷ qs) qs)
kept_fewer true true p q ps qs h less = omega (arith, less)
kept_fewer true false p q ps qs h less = absurd (let bad : false ≡ true = h refl in cc)
kept_fewer false true p q ps qs h less = omega (arith, less)
kept_fewer false false p q ps qs h less = less

listed_fewer : (ps qs : List Property) → AreTheSame ps qs → length (feature_properties ps) ≤ length (feature_properties qs)
listed_fewer [] [] h = omega arith
listed_fewer [] (q ∷ qs) h = absurd h
listed_fewer (p ∷ ps) [] h = absurd h
listed_fewer (p ∷ ps) (q ∷ qs) h = kept_fewer p.is_per_feature q.is_per_feature p q (feature_properties ps) (feature_properties qs) h.0.per_feature (listed_fewer ps qs h.1)

layer_fewer : (tiles : List SourceTile) (new old : StyleLayer) → IsTheSameLayer new old → layer_cells tiles new ≤ layer_cells tiles old
layer_fewer tiles new old h =
    let features : layer_features tiles new ≡ layer_features tiles old = ap (layer_features tiles) h.rest in
    let less = listed_fewer new.properties old.properties h.properties in
    let more : 1 + length (feature_properties new.properties) ≤ 1 + length (feature_properties old.properties) = omega (arith, less) in
    subst (λ fs. length fs * (1 + length (feature_properties new.properties)) ≤ layer_cells tiles old) (sym features) (mul-le-mul_left (length (layer_features tiles old)) more)

cells_fewer : (tiles : List SourceTile) (ls ms : List StyleLayer) → AllZip IsTheSameLayer ls ms → cell_count tiles ls ≤ cell_count tiles ms
cells_fewer tiles [] [] h = omega arith
cells_fewer tiles [] (m ∷ ms) h = absurd h
cells_fewer tiles (l ∷ ls) [] h = absurd h
cells_fewer tiles (l ∷ ls) (m ∷ ms) h =
    let one = layer_fewer tiles l m h.0 in
    let rest = cells_fewer tiles ls ms h.1 in
    omega (arith, one, rest)

pub cells_are_no_more : SimplifiedDocumentsHaveTheSameLayers → SimplifiedDocumentsHaveNoMoreCells
cells_are_no_more layers tiles globals document sound = cells_fewer tiles (style_layers globals (simplified document)) (style_layers globals document) (layers globals document sound)
