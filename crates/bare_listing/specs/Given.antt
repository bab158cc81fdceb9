-- What the sources of a layer's items give: the words of the private contracts. Source: own.
use Rattle.std.specs.Prelude.{◌≡◌, ℕ, ◌<◌, List, length, map, filter, Bool, true, false, ◌&&◌, Option, Some, None}
use Rattle.std.specs.Prelude.{is_some, if◌then◌else◌}
use Rattle.std.specs.List.{AllByRecursion}
use Rattle.fixed_num.specs.Number.{floor_of}
use Rattle.operator_values.specs.Evaluated.{Evaluated}
use Rattle.eval_face.specs.Resolved.{passes, resolved}
use Rattle.eval_face.specs.World.{World}
use Rattle.expr_nodes.specs.Evaluators.{Sized}
use Rattle.layer_buckets.specs.Seen.{given_at}
use Rattle.layer_buckets.specs.declared.cell.CellItem.{CellItem}
use Rattle.layer_buckets.specs.declared.cell.CellItem.TheVariants as items
use Rattle.layer_buckets.specs.declared.cell.Source.{Source}
use Rattle.listing_text.specs.Layout.{ListedValue}
use Rattle.listing_text.specs.Listing.{feature_margin, layer_margin}
use Rattle.prop_values.specs.declared.outcome.Outcome.{Outcome}
use Rattle.style_layout.specs.Forms.{Property, Scene, outcome_of, reads_feature}
use Rattle.style_layout.specs.Layers.{StyleLayer, has_features, sort_property}
use Rattle.style_layout.specs.Shown.{LayerFeature, is_shown, ordered, zoom_at}
use Rattle.asked_cells.specs.Asked.{cell_world, constant_answer, is_listed}
use Rattle.asked_cells.specs.Asking.{has_feature_cells}
use Rattle.asked_cells.specs.Expressions.{is_fixed}

-- the sources of the items of a layer
abbrev pub ItemSources : Type 0
ItemSources = CellItem → Option Source

-- ---- values

-- a value is listed after the margin of a feature, or of a layer
abbrev pub margin_of : Option LayerFeature → List ℕ
margin_of (Some f) = feature_margin
margin_of None = layer_margin

module _ (scene : Scene) where
  -- what the expression of a source reads
  abbrev pub source_world : Source → Option LayerFeature → World
  source_world s feature = cell_world scene (if s.paint then scene.zoom else floor_of scene.zoom) feature

  -- what is listed for a property of a feature, or of its layer
  abbrev pub outcome_in : Option LayerFeature → Property → Outcome
  outcome_in feature p = outcome_of p (cell_world scene (zoom_at scene.zoom p.row.place) feature)

  abbrev pub shown_value : Option LayerFeature → Property → ListedValue
  shown_value feature p = record { name = p.row.name; outcome = outcome_in feature p }

  -- the values that are listed with a feature, or with the layer
  abbrev pub shown_values : Option LayerFeature → List Property → List ListedValue
  shown_values feature ps = map (shown_value feature) (filter (is_listed feature) ps)

  -- a property has one value for each feature
  abbrev pub has_own_values : Option Source → Property → Bool
  has_own_values source p = p.is_per_feature && is_some source

  -- and every other the same for all
  abbrev pub IsSame : Option Source → Property → Type 0
  IsSame source p = has_own_values source p ≡ false →
      (f g : LayerFeature) → outcome_in (Some f) p ≡ outcome_in (Some g) p

  module _ (slots : List Sized) where
    -- what the expression of a source gives
    abbrev pub given_from : Source → Option LayerFeature → Option Evaluated
    given_from s feature = given_at slots s.slot (source_world s feature)

    -- A source gives what is listed for a property. Without one the property is a literal, or is not evaluated.
    abbrev pub GivesValue : Option Source → Property → Type 0
    GivesValue None p = is_fixed p.value ≡ true
    GivesValue (Some s) p = (s.slot < length slots) × ((feature : Option LayerFeature) (value : Evaluated) →
        given_from s feature ≡ Some value → outcome_in feature p ≡ resolved p.fallback value)

    abbrev pub IsGiven : ItemSources → Property → Type 0
    IsGiven sources p = GivesValue (sources (items.Property p.row.number)) p
        × IsSame (sources (items.Property p.row.number)) p

    abbrev pub AreGivenBy : ItemSources → List Property → Type 0
    AreGivenBy sources ps = AllByRecursion (IsGiven sources) ps

    -- ---- the filter

    -- The source of a filter says which features pass: of each feature, or of all.
    abbrev pub Filters : Option Source → StyleLayer → Type 0
    Filters None layer = has_features layer.type ≡ true → (f : LayerFeature) →
        is_shown scene layer f ≡ constant_answer layer.filter
    Filters (Some s) layer = (s.slot < length slots)
        × (has_features layer.type ≡ true → (f : LayerFeature) (value : Evaluated) →
        given_from s (if reads_feature s.mentions then Some f else None) ≡ Some value →
        is_shown scene layer f ≡ passes value)

  -- What a filter answers of all features, where it has no cell for each.
  abbrev pub IsCommonAnswer : Option Source → StyleLayer → Option Bool → Type 0
  IsCommonAnswer source layer (Some passes) = (has_feature_cells source ≡ false)
      × (has_features layer.type ≡ true → (f : LayerFeature) → is_shown scene layer f ≡ passes)
  IsCommonAnswer source layer None = has_feature_cells source ≡ true

  -- ---- the order of features

  -- features keep the order of the list
  abbrev pub KeepsOrder : StyleLayer → Type 0
  KeepsOrder layer = (fs : List LayerFeature) → ordered scene (sort_property layer.type layer.properties) fs ≡ fs
