-- A simplified document says what the document said. Source: own.
use Rattle.std.specs.Prelude.{◌≡◌, ◌≤◌, ℕ, List, map, Bool, true}
use Rattle.std.specs.List.{AllZip}
use Rattle.decimal_json.specs.Sound.{IsSound}
use Rattle.decimal_json.specs.Tree.{Tree}
use Rattle.prop_values.specs.Data.{Data}
use Rattle.style_layout.specs.Forms.{Scene, Property}
use Rattle.style_layout.specs.Globals.{globals_of}
use Rattle.style_layout.specs.Layers.{StyleLayer, style_layers}
use Rattle.style_layout.specs.Shown.{SourceTile}
use Rattle.style_layout.specs.StyleLayout.{cell_count, layers_layout, layout_of}
use Rattle.migrate_laws.specs.MigratedLaw.{HasTheSameOutcome, LetsTheSamePass}
use Rattle.style_simplify.specs.SimplifiedStyle.{simplified}

-- ---- layers

-- Two properties are of one row, and are listed alike in every world; and one is listed with each feature only where
-- the other is.
pub record IsTheSameProperty (new old : Property) : Type 0 where
  pub row : new.row ≡ old.row
  pub outcome : HasTheSameOutcome new old
  pub per_feature : new.is_per_feature ≡ true → old.is_per_feature ≡ true

-- Two layers have the same id, type, source, visibility and zooms; their filters let the same features pass; and they
-- have the same properties in the same order.
pub record IsTheSameLayer (new old : StyleLayer) : Type 0 where
  pub rest : new ≡ record old { filter = new.filter; properties = new.properties }
  pub filter : LetsTheSamePass new.filter old.filter
  pub properties : AllZip IsTheSameProperty new.properties old.properties

-- Each sound document has after it was simplified the layers that it had, whatever the values of the global state are.
abbrev pub SimplifiedDocumentsHaveTheSameLayers : Type 0
SimplifiedDocumentsHaveTheSameLayers =
    (globals : List (List ℕ × Data)) (document : Tree) → IsSound 0 document →
    AllZip IsTheSameLayer (style_layers globals (simplified document)) (style_layers globals document)

-- ---- layouts: a value that reads no feature any more is listed with its layer, so what is listed is the same beside
-- the place where it is listed

-- a layer all of whose values are listed with each feature, or all with the layer
abbrev pub with_all_listed : Bool → StyleLayer → StyleLayer
with_all_listed per_feature layer =
    record layer { properties = map (λ (p : Property). record p { is_per_feature = per_feature }) layer.properties }

-- At every zoom, over all tiles, and whatever the states of features, the two tests and the values of the global state
-- are, the simplified document has the layout that the document has where each value of both is listed with each
-- feature, and where each is listed with its layer.
abbrev pub SimplifiedDocumentsHaveTheSameLayout : Type 0
SimplifiedDocumentsHaveTheSameLayout =
    (per_feature : Bool) (scene : Scene) (tiles : List SourceTile) (globals : List (List ℕ × Data)) (document : Tree) →
    IsSound 0 document →
    layers_layout scene tiles (map (with_all_listed per_feature) (style_layers globals (simplified document)))
    ≡ layers_layout scene tiles (map (with_all_listed per_feature) (style_layers globals document))

-- of each layer, which of its properties are listed with each feature
abbrev pub listing_places : List StyleLayer → List (List Bool)
listing_places = map (λ (layer : StyleLayer). map (λ (p : Property). p.is_per_feature) layer.properties)

-- So where each value is listed where it was, the layout is that of the document.
abbrev pub SimplifiedDocumentsKeepTheirLayout : Type 0
SimplifiedDocumentsKeepTheirLayout =
    (scene : Scene) (tiles : List SourceTile) (globals : List (List ℕ × Data)) (document : Tree) → IsSound 0 document →
    listing_places (style_layers globals (simplified document)) ≡ listing_places (style_layers globals document) →
    layout_of scene tiles globals (simplified document) ≡ layout_of scene tiles globals document

-- Over any tiles it has no more cells.
abbrev pub SimplifiedDocumentsHaveNoMoreCells : Type 0
SimplifiedDocumentsHaveNoMoreCells =
    (tiles : List SourceTile) (globals : List (List ℕ × Data)) (document : Tree) → IsSound 0 document →
    cell_count tiles (style_layers globals (simplified document)) ≤ cell_count tiles (style_layers globals document)

-- ---- and it gives the same values of the global state

abbrev pub SimplifiedDocumentsGiveTheSameGlobals : Type 0
SimplifiedDocumentsGiveTheSameGlobals = (document : Tree) → globals_of (simplified document) ≡ globals_of document
