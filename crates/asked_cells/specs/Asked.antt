-- The cells of a layer, what they mean, and which of them a listing asks, in their order. Source: own.
use Rattle.std.specs.Prelude.{◌≡◌, ℕ, ℤ, List, [], ◌∷◌, ◌++◌, flat_map, Bool, true, false, not, ◌&&◌, Option, Some}
use Rattle.std.specs.Prelude.{None, option_map, Ok, if◌then◌else◌}
use Rattle.std.specs.List.{slice_get}
use Rattle.fixed_num.specs.Number.{floor_of}
use Rattle.prop_values.specs.Data.{boolean, null}
use Rattle.tile_reader.specs.declared.tile.Feature.{Feature}
use Rattle.expr_syntax.specs.Mentioned.{mentions}
use Rattle.expr_syntax.specs.Term.{literal}
use Rattle.expr_syntax.specs.TermSize.{nodes}
use Rattle.operator_values.specs.Evaluated.{Evaluated}
use Rattle.eval_face.specs.Meaning.{mean}
use Rattle.eval_face.specs.World.{World, no_feature}
use Rattle.eval_face.specs.Resolved.{passes}
use Rattle.layer_buckets.specs.Cells.{feature_eq, item_eq}
use Rattle.layer_buckets.specs.declared.cell.Cell.{Cell}
use Rattle.layer_buckets.specs.declared.cell.CellItem.{CellItem}
use Rattle.layer_buckets.specs.declared.cell.CellItem.TheVariants as items
use Rattle.listing_text.specs.declared.show.Show.{Show}
use Rattle.listing_text.specs.declared.show.Show.TheVariants.{Plain, Hidden, Unread, OutsideFilter}
use Rattle.style_layout.specs.Forms as forms
use Rattle.style_layout.specs.Forms.{Property, Scene, reads_feature}
use Rattle.style_layout.specs.Layers.{StyleLayer, has_features, show_of}
use Rattle.style_layout.specs.Shown.{LayerFeature, SourceTile, is_shown, layer_features, numbered, with_state, world_at}
use Rattle.asked_cells.specs.Expressions.{CellExpression, LayerExpressions}

-- ---- a cell of a layer

-- The value of an item, for a feature by its number, or for all.
pub record LayerCell : Type 0 where
  pub feature : Option ℕ
  pub item : CellItem

abbrev pub layer_cell_eq : LayerCell → LayerCell → Bool
layer_cell_eq a b = item_eq a.item b.item && feature_eq a.feature b.feature

-- the cell of the layer that has a number in buckets
abbrev pub cell_in : ℕ → LayerCell → Cell
cell_in number c = record { layer = number; feature = c.feature; item = c.item }

-- a cell is of a feature, or of its layer as a whole
abbrev pub feature_number : Option LayerFeature → Option ℕ
feature_number (Some f) = Some f.number
feature_number None = None

-- what the value of a cell reads at a zoom
abbrev pub cell_world : Scene → ℤ → Option LayerFeature → World
cell_world scene zoom (Some f) = world_at scene zoom f.feature f.state
cell_world scene zoom None = world_at scene zoom no_feature []

-- ---- what a cell means

module _ (scene : Scene) where
  -- a paint value sees the zoom, every other its floor
  abbrev pub item_zoom : CellExpression → ℤ
  item_zoom e = if e.paint then scene.zoom else floor_of scene.zoom

  abbrev pub given_by : CellExpression → Option LayerFeature → Evaluated
  given_by e feature = mean e.term e.want [] (cell_world scene (item_zoom e) feature)

  -- An item without an expression has no cells: nobody asks for what the second equation gives.
  abbrev pub meaning_by : Option CellExpression → Option LayerFeature → Evaluated
  meaning_by (Some e) feature = given_by e feature
  meaning_by None feature = Ok null

  module _ (tiles : List SourceTile) (layer : StyleLayer) where
    abbrev pub feature_at : Option ℕ → Option LayerFeature
    feature_at (Some n) =
        option_map (λ f. with_state scene layer (n, f)) (slice_get (layer_features tiles layer) n)
    feature_at None = None

    -- The value or the fault of a cell: what its expression gives of its feature.
    abbrev pub meaning : LayerExpressions → LayerCell → Evaluated
    meaning expressions c = meaning_by (expressions c.item) (feature_at c.feature)

-- ---- what is asked

-- A cell that is asked, what its expression gives, and how many nodes the expression has.
pub record AskedCell : Type 0 where
  pub cell : LayerCell
  pub given : Evaluated
  pub nodes : ℕ

-- An item has cells where it has an expression.
abbrev pub asked_by : Scene → Option CellExpression → Option LayerFeature → CellItem → List AskedCell
asked_by scene (Some e) feature item = record {
  cell = record { feature = feature_number feature; item = item };
  given = given_by scene e feature;
  nodes = nodes e.term;
} ∷ []
asked_by scene None feature item = []

-- a value is listed with each feature, or with the layer
abbrev pub is_listed : Option LayerFeature → Property → Bool
is_listed (Some f) p = p.is_per_feature
is_listed None p = not p.is_per_feature

module _ (expressions : LayerExpressions) (scene : Scene) where
  abbrev pub item_asked : Option LayerFeature → CellItem → List AskedCell
  item_asked feature item = asked_by scene (expressions item) feature item

  abbrev pub value_asked : Option LayerFeature → Property → List AskedCell
  value_asked feature p = if is_listed feature p then item_asked feature (items.Property p.row.number) else []

  -- The values that are listed with a feature, or with the layer. A sort key is among those of a feature.
  abbrev pub values_asked : Option LayerFeature → List Property → List AskedCell
  values_asked feature ps = flat_map (value_asked feature) ps

  abbrev pub filter_asked : Option LayerFeature → List AskedCell
  filter_asked feature = item_asked feature items.Filter

-- ---- filters

-- the cell of the filter of a layer that serves all features
abbrev pub common_cell : LayerCell
common_cell = record { feature = None; item = items.Filter }

-- A filter that reads a feature or its state has a cell for each feature, and every other one cell.
abbrev pub has_own_cells : Option CellExpression → Bool
has_own_cells (Some e) = reads_feature (mentions e.term)
has_own_cells None = false

-- what a filter that has no cell answers of every feature
abbrev pub constant_answer : forms.LayerFilter → Bool
constant_answer forms.every = true
constant_answer (forms.condition (literal (boolean b))) = b
constant_answer _ = false

module _ (scene : Scene) where
  -- what a filter answers of a feature, by its expression
  abbrev pub answer_by : Option CellExpression → forms.LayerFilter → LayerFeature → Bool
  answer_by (Some e) f feature =
      passes (given_by scene e (if reads_feature (mentions e.term) then Some feature else None))
  answer_by None f feature = constant_answer f

  -- The expression of the filter of a layer says which features pass.
  abbrev pub IsDecided : Option CellExpression → StyleLayer → Type 0
  IsDecided expression layer = has_features layer.type ≡ true → (feature : LayerFeature) →
      is_shown scene layer feature ≡ answer_by expression layer.filter feature

-- ---- layers

module _ (expressions : LayerExpressions) (scene : Scene) where
  -- the cell of a filter that serves all features
  abbrev pub common_asked : List AskedCell
  common_asked =
      if has_own_cells (expressions items.Filter) then [] else filter_asked expressions scene None

  abbrev pub own_filter_asked : LayerFeature → List AskedCell
  own_filter_asked f =
      if has_own_cells (expressions items.Filter) then filter_asked expressions scene (Some f) else []

  abbrev pub passed_asked : Bool → LayerFeature → List Property → List AskedCell
  passed_asked passes f ps = if passes then values_asked expressions scene (Some f) ps else []

  -- a feature's values are asked where it passes
  abbrev pub feature_asked : StyleLayer → LayerFeature → List AskedCell
  feature_asked layer f = own_filter_asked f ++ passed_asked (is_shown scene layer f) f layer.properties

  abbrev pub numbered_asked : StyleLayer → ℕ × Feature → List AskedCell
  numbered_asked layer nf = feature_asked layer (with_state scene layer nf)

  abbrev pub each_asked : StyleLayer → List (ℕ × Feature) → List AskedCell
  each_asked layer nfs = flat_map (numbered_asked layer) nfs

  -- A cell of the filter that serves all features is asked also where the layer has no feature.
  abbrev pub features_asked : List SourceTile → StyleLayer → List AskedCell
  features_asked tiles layer = common_asked ++ each_asked layer (numbered 0 (layer_features tiles layer))

  abbrev pub shown_asked : List SourceTile → Show → StyleLayer → List AskedCell
  shown_asked tiles Plain layer =
      values_asked expressions scene None layer.properties ++ features_asked tiles layer
  shown_asked tiles OutsideFilter layer = values_asked expressions scene None layer.properties
  shown_asked tiles Hidden layer = []
  shown_asked tiles Unread layer = []

  -- The cells that a listing asks of a layer.
  abbrev pub layer_asked : List SourceTile → StyleLayer → List AskedCell
  layer_asked tiles layer = shown_asked tiles (show_of scene.zoom layer) layer
