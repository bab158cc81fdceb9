-- What the listing of a layer costs, by what each evaluation does: 1 for their number, and for the steps the nodes of
-- an expression. Source: own.
use Rattle.std.specs.Prelude.{ℕ, ◌+◌, List, [], ◌∷◌, Option, Some, None, take, drop, if◌then◌else◌}
use Rattle.tile_reader.specs.declared.tile.Feature.{Feature}
use Rattle.expr_nodes.specs.Evaluators.{Sized, nodes_at}
use Rattle.layer_buckets.specs.declared.cell.CellItem.TheVariants as items
use Rattle.layer_buckets.specs.declared.cell.Source.{Source}
use Rattle.listing_text.specs.declared.show.Show.{Show}
use Rattle.listing_text.specs.declared.show.Show.TheVariants.{Plain, Hidden, Unread, OutsideFilter}
use Rattle.style_layout.specs.Forms.{Property, Scene}
use Rattle.style_layout.specs.Layers.{StyleLayer}
use Rattle.style_layout.specs.Shown.{LayerFeature, SourceTile, is_shown, layer_features, numbered, with_state}
use Rattle.asked_cells.specs.Asked.{is_listed}
use Rattle.asked_cells.specs.Asking.{has_feature_cells}
use Rattle.bare_listing.specs.Given.{ItemSources}

-- an item without a source is not evaluated
abbrev pub one_of : Option Source → ℕ
one_of (Some s) = 1
one_of None = 0

abbrev pub nodes_by : List Sized → Option Source → ℕ
nodes_by slots (Some s) = nodes_at slots s.slot
nodes_by slots None = 0

module _ (cost : Option Source → ℕ) (sources : ItemSources) where
  abbrev pub value_cost : Property → ℕ
  value_cost p = cost (sources (items.Property p.row.number))

  abbrev pub values_cost : Option LayerFeature → List Property → ℕ
  values_cost feature [] = 0
  values_cost feature (p ∷ ps) = (if is_listed feature p then value_cost p else 0) + values_cost feature ps

  -- the cell of a filter that serves all features, and the cell that a filter has for each
  abbrev pub common_cost : ℕ
  common_cost = if has_feature_cells (sources items.Filter) then 0 else cost (sources items.Filter)

  abbrev pub own_cost : ℕ
  own_cost = if has_feature_cells (sources items.Filter) then cost (sources items.Filter) else 0

  -- the values of a feature but the one at a place
  abbrev pub rest_cost : ℕ → List Property → LayerFeature → ℕ
  rest_cost place ps f = values_cost (Some f) (take place ps) + values_cost (Some f) (drop (place + 1) ps)

  abbrev pub rests_cost : ℕ → List Property → List LayerFeature → ℕ
  rests_cost place ps [] = 0
  rests_cost place ps (f ∷ fs) = rest_cost place ps f + rests_cost place ps fs

  module _ (scene : Scene) (layer : StyleLayer) where
    abbrev pub feature_cost : LayerFeature → ℕ
    feature_cost f = own_cost + (if is_shown scene layer f then values_cost (Some f) layer.properties else 0)

    abbrev pub each_cost : List (ℕ × Feature) → ℕ
    each_cost [] = 0
    each_cost (nf ∷ nfs) = feature_cost (with_state scene layer nf) + each_cost nfs

    -- the filter and the property that orders features
    abbrev pub key_cost : Source → LayerFeature → ℕ
    key_cost s f = own_cost + (if is_shown scene layer f then cost (Some s) else 0)

    abbrev pub keys_cost : Source → List (ℕ × Feature) → ℕ
    keys_cost s [] = 0
    keys_cost s (nf ∷ nfs) = key_cost s (with_state scene layer nf) + keys_cost s nfs

    abbrev pub features_cost : List SourceTile → ℕ
    features_cost tiles = each_cost (numbered 0 (layer_features tiles layer))

    abbrev pub shown_cost : Show → List SourceTile → ℕ
    shown_cost Plain tiles = values_cost None layer.properties + (common_cost + features_cost tiles)
    shown_cost OutsideFilter tiles = values_cost None layer.properties
    shown_cost Hidden tiles = 0
    shown_cost Unread tiles = 0
