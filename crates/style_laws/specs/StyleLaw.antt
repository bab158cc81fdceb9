-- What `validate` reports of a style without findings, and what every layout of it shows. Source: own.
use Rattle.std.specs.Prelude.{◌≡◌, ℕ, ◌+◌, List, [], ◌∷◌, codes, true, Option, All, Contains}
use Rattle.decimal_json.specs.Tree.{Tree}
use Rattle.decimal_json.specs.declared.paths.PathPart.{PathPart}
use Rattle.decimal_json.specs.declared.paths.PathPart.TheVariants.{Key, Index}
use Rattle.prop_values.specs.Data.{Data}
use Rattle.prop_values.specs.Faults.{holds}
use Rattle.prop_values.specs.declared.fault.EvalFault.{EvalFault}
use Rattle.prop_values.specs.declared.fault.FaultSet.{FaultSet}
use Rattle.prop_values.specs.declared.outcome.Outcome.TheVariants.{Faulted, Outside}
use Rattle.prop_values.specs.declared.value.Value.{Value}
use Rattle.property_tables.specs.declared.property_row.Place.{Place}
use Rattle.listing_text.specs.Layout.{ListedValue, FeatureOut, LayerOut}
use Rattle.listing_text.specs.declared.show.Show.TheVariants.{OutsideFilter}
use Rattle.style_layout.specs.Forms.{Scene}
use Rattle.style_layout.specs.Layers.{place_key}
use Rattle.style_layout.specs.Shown.{SourceTile}
use Rattle.style_layout.specs.StyleLayout.{layout_of}
use Rattle.style_rules.specs.Findings.{findings, may_lines, notes}

-- ---- paths

-- the path of the layer of this number
abbrev pub layer_path : ℕ → List PathPart
layer_path i = Key (codes "layers") ∷ Index i ∷ []

-- of the value of a property of it, which is set in `layout` or in `paint`
abbrev pub value_path : ℕ → Place → List ℕ → List PathPart
value_path i place name = Key (codes "layers") ∷ Index i ∷ Key (place_key place) ∷ Key name ∷ []

-- of its filter
abbrev pub filter_path : ℕ → List PathPart
filter_path i = Key (codes "layers") ∷ Index i ∷ Key (codes "filter") ∷ []

-- ---- what is reported of a value that is listed with a layer, or with a feature of it

-- A fault is in the `may` line of a path.
pub record IsInMayLine (document : Tree) (path : List PathPart) (fault : EvalFault) : Type 0 where
  pub faults : FaultSet
  pub line : Contains (may_lines document) (path, faults)
  pub listed : holds faults fault ≡ true

-- Where the value is marked with a fault, the fault is in the `may` line of its path. So where there is no such line,
-- the value has no mark.
abbrev pub MarksAreListed : Tree → ℕ → ListedValue → Type 0
MarksAreListed document i value =
    (default : Option Value) (fault : EvalFault) → value.outcome ≡ Faulted default fault →
    (place : Place) × IsInMayLine document (value_path i place value.name) fault

-- Where the value is listed as `?`, its path has a note.
abbrev pub HasItsNote : Tree → ℕ → ListedValue → Type 0
HasItsNote document i value =
    value.outcome ≡ Outside → (place : Place) × Contains (notes document) (value_path i place value.name)

-- ---- all values of a layout

-- of a layer: those that are listed with it, and with each of its features
pub record AllValues (P : ListedValue → Type 0) (layer : LayerOut) : Type 0 where
  pub own : All P layer.values
  pub of_features : All (λ (f : FeatureOut). All P f.values) layer.features

-- of each layer of a list, by its number, from this number on
abbrev pub EachLayer : (ℕ → LayerOut → Type 0) → ℕ → List LayerOut → Type 0
EachLayer P i [] = Unit {0}
EachLayer P i (layer ∷ layers) = P i layer × EachLayer P (i + 1) layers

-- ---- the laws, of a document without findings, at every zoom, over all tiles, and whatever the states of features,
-- the two tests and the values of the global state are

-- Each fault that marks a value in a layout is in the `may` line of the path of the value.
abbrev pub MarkedFaultsAreListed : Type 0
MarkedFaultsAreListed =
    (document : Tree) → findings document ≡ [] →
    (scene : Scene) (tiles : List SourceTile) (globals : List (List ℕ × Data)) →
    EachLayer (λ i layer. AllValues (MarksAreListed document i) layer) 0 (layout_of scene tiles globals document).layers

-- Each value that is listed as `?` has a note, and so has the filter of a layer that is shown with `?`.
abbrev pub OutsideValuesHaveNotes : Type 0
OutsideValuesHaveNotes =
    (document : Tree) → findings document ≡ [] →
    (scene : Scene) (tiles : List SourceTile) (globals : List (List ℕ × Data)) →
    EachLayer (λ i layer. AllValues (HasItsNote document i) layer
    × (layer.show ≡ OutsideFilter → Contains (notes document) (filter_path i)))
    0 (layout_of scene tiles globals document).layers
