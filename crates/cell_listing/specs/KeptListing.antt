-- What kept values give of the listing of a layer: the words of the private contracts. Source: own.
use Rattle.std.specs.Prelude.{◌≡◌, ℕ, ℤ, List, map, flat_map, filter, Bool, true, not, ◌||◌, Option, Some, None}
use Rattle.std.specs.Prelude.{is_some, if◌then◌else◌}
use Rattle.std.specs.List.{AllByRecursion}
use Rattle.prop_values.specs.Data.{Data}
use Rattle.prop_values.specs.View.{value_of}
use Rattle.prop_values.specs.declared.outcome.Outcome.{Outcome}
use Rattle.prop_values.specs.declared.outcome.Outcome.TheVariants.{Given, Outside}
use Rattle.stable_order.specs.InOrder.{in_order}
use Rattle.stable_order.specs.Keys.{key_before}
use Rattle.tile_reader.specs.declared.tile.Feature.{Feature}
use Rattle.operator_values.specs.Evaluated.{Evaluated}
use Rattle.eval_face.specs.Resolved.{resolved}
use Rattle.layer_buckets.specs.declared.cell.CellItem.TheVariants as items
use Rattle.listing_text.specs.Layout.{FeatureOut, ListedValue}
use Rattle.listing_text.specs.Listing.{feature_lines}
use Rattle.listing_text.specs.declared.show.Show.{Show}
use Rattle.listing_text.specs.declared.show.Show.TheVariants.{Plain, Hidden, Unread, OutsideFilter}
use Rattle.style_layout.specs.Forms.{Property, PropertyValue, literal, outside}
use Rattle.style_layout.specs.SortKeys.{key_of}
use Rattle.asked_cells.specs.Asking.{passes_by}
use Rattle.asked_cells.specs.Counted.{KeptValues}
use Rattle.asked_cells.specs.Expressions.{is_fixed}

-- ---- a value

-- What is listed by what is kept of a cell. Without it nothing is listed, whatever is given here.
abbrev pub outcome_by : Option Data → Option Evaluated → Outcome
outcome_by fallback (Some value) = resolved fallback value
outcome_by fallback None = Outside

-- A literal and a value that is not evaluated have no cell.
abbrev pub listed_by : PropertyValue → Option Data → Option Evaluated → Outcome
listed_by (literal d) fallback kept = Given (value_of d)
listed_by outside fallback kept = Outside
listed_by _ fallback kept = outcome_by fallback kept

-- what is listed needs no cell, or the cell is kept
abbrev pub is_known : PropertyValue → Option Evaluated → Bool
is_known value kept = is_fixed value || is_some kept

-- a value is listed with the feature of a number, or with the layer
abbrev pub is_listed : Option ℕ → Property → Bool
is_listed (Some n) p = p.is_per_feature
is_listed None p = not p.is_per_feature

-- A key is what the cell of the feature gives, or that of the layer.
abbrev pub key_feature : Property → ℕ → Option ℕ
key_feature p n = if p.is_per_feature then Some n else None

module _ (kept : KeptValues) where
  abbrev pub kept_for : Option ℕ → Property → Option Evaluated
  kept_for feature p = kept (record { feature = feature; item = items.Property p.row.number })

  abbrev pub kept_outcome : Option ℕ → Property → Outcome
  kept_outcome feature p = listed_by p.value p.fallback (kept_for feature p)

  abbrev pub kept_value : Option ℕ → Property → ListedValue
  kept_value feature p = record { name = p.row.name; outcome = kept_outcome feature p }

  -- the values that are listed with a feature, or with the layer
  abbrev pub kept_values : Option ℕ → List Property → List ListedValue
  kept_values feature ps = map (kept_value feature) (filter (is_listed feature) ps)

  abbrev pub AreKnown : Option ℕ → List Property → Type 0
  AreKnown feature ps =
      AllByRecursion (λ p. is_listed feature p ≡ true → is_known p.value (kept_for feature p) ≡ true) ps

  -- ---- features

  -- Whether the feature of a number passes: by the answer for all features, or by its own cell of the filter.
  abbrev pub passes_at : Option Bool → ℕ → Bool
  passes_at (Some passes) n = passes
  passes_at None n = passes_by (kept (record { feature = Some n; item = items.Filter }))

  abbrev pub passed : Option Bool → List (ℕ × Feature) → List (ℕ × Feature)
  passed answer nfs = filter (λ (nf : ℕ × Feature). passes_at answer nf.0) nfs

  abbrev pub AreAllKnown : List Property → List (ℕ × Feature) → Type 0
  AreAllKnown ps nfs = AllByRecursion (λ (nf : ℕ × Feature). AreKnown (Some nf.0) ps) nfs

  abbrev pub kept_feature : List Property → ℕ × Feature → FeatureOut
  kept_feature ps nf = record {
    number = nf.0;
    id = nf.1.id;
    shape = nf.1.shape;
    values = kept_values (Some nf.0) ps;
  }

  abbrev pub kept_lines : List Property → List (ℕ × Feature) → List ℕ
  kept_lines ps nfs = flat_map feature_lines (map (kept_feature ps) nfs)

  -- ---- the order of features

  abbrev pub kept_key : Property → ℕ → Option ℤ
  kept_key p n = key_of (kept_outcome (key_feature p n) p)

  abbrev pub key_goes_before : Property → ℕ × Feature → ℕ × Feature → Bool
  key_goes_before p nf other = key_before (kept_key p nf.0) (kept_key p other.0)

  abbrev pub key_ordered : Option Property → List (ℕ × Feature) → List (ℕ × Feature)
  key_ordered (Some p) nfs = in_order (key_goes_before p) nfs
  key_ordered None nfs = nfs

  -- ---- a layer

  -- What is listed of a layer as it is shown is known, with the features that pass.
  abbrev pub IsWritable : Show → List Property → List (ℕ × Feature) → Type 0
  IsWritable Plain ps nfs = AreKnown None ps × AreAllKnown ps nfs
  IsWritable OutsideFilter ps nfs = AreKnown None ps
  IsWritable Hidden ps nfs = Unit {0}
  IsWritable Unread ps nfs = Unit {0}
