-- A migrated document has as many cells as the document.
use Rattle.std.proofs.Common.{◌≡◌, ◌∙◌, ℕ, suc, ◌+◌, ◌*◌, List, [], ◌∷◌, length, refl, ap, true, false}
use Rattle.std.specs.Prelude.{Bool, cond, Option, Some, None, option_map}
use Rattle.decimal_json.specs.Tree.{Tree, Trees, no_trees, tree}
use Rattle.prop_values.specs.Data.{Data}
use Rattle.property_tables.specs.TableLaws.{TableKeepsRules}
use Rattle.property_tables.specs.declared.layer_type.LayerType.{LayerType}
use Rattle.style_parts.specs.Parts.{layers_of}
use Rattle.value_forms.specs.LayerTypes.{layer_type}
use Rattle.style_migrate.specs.Migrated.{mapped_items, migrated_layer}
use Rattle.style_layout.specs.Forms.{Property}
use Rattle.style_layout.specs.Layers.{StyleLayer, feature_properties, properties_of, typed_layer, with_layer, layers_in}
use Rattle.style_layout.specs.Shown.{SourceTile, layer_features}
use Rattle.style_layout.specs.StyleLayout.{layer_cells, cell_count}
use Rattle.migrate_laws.specs.MigratedLaw.{MigratedValuesAreTheSame, MigratedFiltersAreTheSame}
use Rattle.migrate_laws.proofs.ListedAlike.{AreListedAs}
use Rattle.migrate_laws.proofs.MappedMembers.{type_kept}
use Rattle.migrate_laws.proofs.MigratedParts.{migrated_layers}
use Rattle.migrate_laws.proofs.SameLayouts.{fields_same, properties_same}
use Rattle.migrated_sessions.specs.OpeningLaw.{MigratedDocumentsHaveAsManyCells}

counted : (b : Bool) (p q : Property) (xs ys : List Property) → length xs ≡ length ys → length (cond b (p ∷ xs) xs) ≡ length (cond b (q ∷ ys) ys)
counted true p q xs ys h = ap suc h
counted false p q xs ys h = h

-- as many properties are listed with features
as_many : (ps qs : List Property) → AreListedAs ps qs → length (feature_properties ps) ≡ length (feature_properties qs)
as_many [] [] h = refl
as_many [] (q ∷ qs) h = absurd h
as_many (p ∷ ps) [] h = absurd h
as_many (p ∷ ps) (q ∷ qs) h =
    counted p.is_per_feature p q (feature_properties ps) (feature_properties qs) (as_many ps qs h.1)
    ∙ ap (λ b. length (cond b (q ∷ feature_properties qs) (feature_properties qs))) h.0.per_feature

module _ (values : MigratedValuesAreTheSame) (filters : MigratedFiltersAreTheSame) (keeps : TableKeepsRules)
    (tiles : List SourceTile) (globals : List (List ℕ × Data)) where
  layer_same : (layer : Tree) (type : LayerType) → layer_type layer ≡ Some type →
      layer_cells tiles (typed_layer globals (migrated_layer layer) type) ≡ layer_cells tiles (typed_layer globals layer type)
  layer_same layer type is =
      ap (layer_cells tiles) (fields_same values filters keeps globals layer type is)
      ∙ ap (λ n. length (layer_features tiles (typed_layer globals layer type)) * (1 + n))
      (as_many (properties_of globals type (migrated_layer layer)) (properties_of globals type layer) (properties_same values filters keeps globals layer type is))

  with_same : (layer : Tree) (found : Option LayerType) (ls ms : List StyleLayer) → layer_type layer ≡ found → cell_count tiles ls ≡ cell_count tiles ms →
      cell_count tiles (with_layer (option_map (typed_layer globals (migrated_layer layer)) found) ls)
      ≡ cell_count tiles (with_layer (option_map (typed_layer globals layer) found) ms)
  with_same layer (Some type) ls ms is rest = let one = layer_same layer type is in λ i. one i + rest i
  with_same layer None ls ms is rest = rest

  layers_same : (ts : Trees) → cell_count tiles (layers_in globals (mapped_items migrated_layer ts)) ≡ cell_count tiles (layers_in globals ts)
  layers_same no_trees = refl
  layers_same (tree layer ts) =
      let later = layers_in globals (mapped_items migrated_layer ts) in
      let made = typed_layer globals (migrated_layer layer) in
      ap (λ o. cell_count tiles (with_layer (option_map made o) later)) (type_kept layer)
      ∙ with_same layer (layer_type layer) later (layers_in globals ts) refl (layers_same ts)

pub cells_are_as_many : MigratedValuesAreTheSame → MigratedFiltersAreTheSame → TableKeepsRules → MigratedDocumentsHaveAsManyCells
cells_are_as_many values filters keeps tiles globals document =
    ap (λ ts. cell_count tiles (layers_in globals ts)) (migrated_layers document)
    ∙ layers_same values filters keeps tiles globals (layers_of document)
