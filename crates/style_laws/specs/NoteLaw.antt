-- What `validate` notes of a style without findings is what its layouts show as `?`. Source: own.
use Rattle.std.specs.Prelude.{◌≡◌, ◌⊎◌, ℕ, List, [], Bool, true, false, Some, Contains}
use Rattle.std.specs.List.{slice_get}
use Rattle.decimal_json.specs.Sound.{HasDistinctKeys}
use Rattle.decimal_json.specs.Tree.{Tree, list, object, Trees, no_trees, tree, Fields, no_fields, field, members_of}
use Rattle.decimal_json.specs.declared.paths.PathPart.{PathPart}
use Rattle.prop_values.specs.Data.{Data}
use Rattle.prop_values.specs.declared.outcome.Outcome.TheVariants.{Outside}
use Rattle.property_tables.specs.declared.property_row.Place.{Place}
use Rattle.listing_text.specs.Layout.{LayerOut}
use Rattle.listing_text.specs.declared.show.Show.{Show}
use Rattle.listing_text.specs.declared.show.Show.TheVariants.{Plain, Hidden, Unread, OutsideFilter}
use Rattle.style_layout.specs.Forms.{Scene}
use Rattle.style_layout.specs.Layers.{has_features}
use Rattle.style_layout.specs.Shown.{SourceTile}
use Rattle.style_layout.specs.StyleLayout.{layout_of}
use Rattle.style_rules.specs.Findings.{findings, notes}
use Rattle.style_laws.specs.StyleLaw.{value_path, filter_path}

-- No key occurs twice in an object, as in each JSON value.
abbrev mutual
  pub HasKeysOnce : Tree → Type 0
  HasKeysOnce (list ts) = HaveKeysOnce ts
  HasKeysOnce (object fs) = HasDistinctKeys (members_of fs) × HasMembersOnce fs
  HasKeysOnce _ = Unit {0}

  pub HaveKeysOnce : Trees → Type 0
  HaveKeysOnce no_trees = Unit {0}
  HaveKeysOnce (tree t ts) = HasKeysOnce t × HaveKeysOnce ts

  pub HasMembersOnce : Fields → Type 0
  HasMembersOnce no_fields = Unit {0}
  HasMembersOnce (field k t fs) = HasKeysOnce t × HasMembersOnce fs

-- a layer is listed with its values
abbrev pub has_values : Show → Bool
has_values Plain = true
has_values OutsideFilter = true
has_values Hidden = false
has_values Unread = false

-- The path is that of a value of the layer i, which is `?` in a layout where it is listed.
abbrev pub IsOutsideValue : List PathPart → ℕ → LayerOut → Type 0
IsOutsideValue path i layer =
    (place : Place) × (name : List ℕ) × (path ≡ value_path i place name)
    × (has_values layer.show ≡ true → Contains layer.values (record { name = name; outcome = Outside }))

-- The path is that of the filter of the layer i, which is shown with `?` in a layout, where it shows
-- features.
abbrev pub IsOutsideFilter : List PathPart → ℕ → LayerOut → Type 0
IsOutsideFilter path i layer =
    (path ≡ filter_path i)
    × (has_values layer.show ≡ true → has_features layer.layer_type ≡ true → layer.show ≡ OutsideFilter)

-- Each note of a document without findings is of a value or of a filter, which every layout shows as `?`: at
-- every zoom, over all tiles, and whatever the states of features, the two tests and the values of the global
-- state are.
abbrev pub NotedValuesAreOutside : Type 0
NotedValuesAreOutside =
    (document : Tree) → HasKeysOnce document → findings document ≡ [] →
    (path : List PathPart) → Contains (notes document) path →
    (i : ℕ) × ((scene : Scene) (tiles : List SourceTile) (globals : List (List ℕ × Data)) →
    (layer : LayerOut) × (slice_get (layout_of scene tiles globals document).layers i ≡ Some layer)
    × (IsOutsideValue path i layer ⊎ IsOutsideFilter path i layer))
