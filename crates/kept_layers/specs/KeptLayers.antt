-- Which cells of the layers of a style are kept, what drops them, and what a listing makes of them. Source: own.
use Rattle.std.specs.Prelude.{ℕ, ℤ, ◌+◌, List, [], ◌∷◌, map, slice_index_or, slice_set, Bool, false, not, ◌||◌, ◌&&◌}
use Rattle.std.specs.Prelude.{Option, Some, None, unwrap_or, if◌then◌else◌}
use Rattle.std.specs.List.{slice_get}
use Rattle.std.specs.Option.{option_and_then}
use Rattle.std.specs.Ordering.{int_eq}
use Rattle.fixed_num.specs.Number.{floor_of}
use Rattle.decimal_json.specs.Tree.{Tree}
use Rattle.prop_values.specs.Data.{Data}
use Rattle.property_tables.specs.declared.layer_type.LayerType.{LayerType}
use Rattle.property_tables.specs.declared.layer_type.LayerType.TheVariants.{Background}
use Rattle.expr_syntax.specs.Mentioned.{mentions}
use Rattle.value_forms.specs.LayerTypes.{layer_type}
use Rattle.layer_buckets.specs.Cells.{item_eq}
use Rattle.layer_buckets.specs.declared.cell.CellItem.{CellItem}
use Rattle.feature_states.specs.Features.{same_feature}
use Rattle.style_layout.specs.Forms.{Scene}
use Rattle.style_layout.specs.Layers.{StyleLayer, typed_layer}
use Rattle.style_layout.specs.Outlines.{layer_outline}
use Rattle.style_layout.specs.Shown.{SourceTile, layer_features}
use Rattle.tile_reader.specs.declared.tile.Feature.{Feature}
use Rattle.asked_cells.specs.Asked.{AskedCell, LayerCell, layer_asked}
use Rattle.asked_cells.specs.Counted.{evaluations, is_asked, total_nodes}
use Rattle.asked_cells.specs.Expressions.{CellExpression, LayerExpressions}
use Rattle.cell_sources.specs.CellExpressions.{item_expression}
use Rattle.cell_sources.specs.CellLaws.{reads_globals}

-- ---- the layers of a document without findings, by the values of the global state

-- each has a type
abbrev pub type_of : Tree → LayerType
type_of t = unwrap_or (layer_type t) Background

abbrev pub prepared_layer : List (List ℕ × Data) → Tree → StyleLayer
prepared_layer globals t = typed_layer globals t (type_of t)

abbrev pub prepared_layers : List (List ℕ × Data) → List Tree → List StyleLayer
prepared_layers globals ts = map (prepared_layer globals) ts

-- what is prepared of a layer
abbrev pub outline_of : List (List ℕ × Data) → Tree → StyleLayer
outline_of globals t = layer_outline (prepared_layer globals t)

abbrev pub outlines_of : List (List ℕ × Data) → List Tree → List StyleLayer
outlines_of globals ts = map (outline_of globals) ts

abbrev pub layer_expressions : List (List ℕ × Data) → Tree → LayerExpressions
layer_expressions globals t = item_expression globals (type_of t) t

-- ---- what is kept

-- the cells of a layer that are kept
abbrev pub LayerKept : Type 0
LayerKept = LayerCell → Bool

abbrev pub none_kept : LayerKept
none_kept c = false

-- the cells of each layer
abbrev pub StyleKept : Type 0
StyleKept = List LayerKept

abbrev pub kept_but : LayerKept → (LayerCell → Bool) → LayerKept
kept_but kept stale c = kept c && not (stale c)

-- ---- what drops cells of all layers

-- the zoom that the value of an expression sees at a zoom: a paint value that zoom, every other its floor
abbrev pub seen_zoom : ℤ → CellExpression → ℤ
seen_zoom zoom e = if e.paint then zoom else floor_of zoom

-- a value that reads the zoom sees another one
abbrev pub is_stale_at : (old new : ℤ) → Option CellExpression → Bool
is_stale_at old new (Some e) = (mentions e.term).zoom && not (int_eq (seen_zoom old e) (seen_zoom new e))
is_stale_at old new None = false

abbrev pub reads_images : Option CellExpression → Bool
reads_images (Some e) = (mentions e.term).image
reads_images None = false

abbrev pub reads_state : Option CellExpression → Bool
reads_state (Some e) = (mentions e.term).state
reads_state None = false

-- the id of the feature of a cell
abbrev pub id_at : List SourceTile → StyleLayer → Option ℕ → Option ℕ
id_at tiles layer (Some n) = option_and_then (λ (f : Feature). f.id) (slice_get (layer_features tiles layer) n)
id_at tiles layer None = None

abbrev pub is_feature : (source layer : List ℕ) → ℕ → StyleLayer → Option ℕ → Bool
is_feature source layer id shown (Some i) = same_feature source layer id shown.source shown.source_layer i
is_feature source layer id shown None = false

module _ (tiles : List SourceTile) (globals : List (List ℕ × Data)) where
  -- Whether a change of the state of a feature, by its source, source layer and id, drops a cell of a layer.
  abbrev pub is_stale_state : (source layer : List ℕ) → ℕ → Tree → LayerCell → Bool
  is_stale_state source layer id t c = reads_state (layer_expressions globals t c.item)
      && is_feature source layer id (prepared_layer globals t) (id_at tiles (prepared_layer globals t) c.feature)

module _ (globals : List (List ℕ × Data)) where
  abbrev pub is_stale_zoom : (old new : ℤ) → Tree → LayerCell → Bool
  is_stale_zoom old new t c = is_stale_at old new (layer_expressions globals t c.item)

  abbrev pub is_stale_image : Tree → LayerCell → Bool
  is_stale_image t c = reads_images (layer_expressions globals t c.item)

  abbrev pub is_stale_global : Tree → LayerCell → Bool
  is_stale_global t c = reads_globals (layer_expressions globals t c.item)

-- what is made of what is kept of each layer
abbrev pub of_each : (Tree → LayerKept → LayerKept) → List Tree → StyleKept → StyleKept
of_each f (t ∷ ts) (k ∷ ks) = f t k ∷ of_each f ts ks
of_each f [] ks = []
of_each f (t ∷ ts) [] = []

abbrev pub sum_of_each : (Tree → LayerKept → ℕ) → List Tree → StyleKept → ℕ
sum_of_each f (t ∷ ts) (k ∷ ks) = f t k + sum_of_each f ts ks
sum_of_each f [] ks = 0
sum_of_each f (t ∷ ts) [] = 0

-- what is kept of each layer but the stale cells
abbrev pub kept_of_each : (Tree → LayerCell → Bool) → List Tree → StyleKept → StyleKept
kept_of_each stale ts ks = of_each (λ t k. kept_but k (stale t)) ts ks

-- what is kept of the layer at a place but the cells of an item
abbrev pub kept_without : ℕ → CellItem → StyleKept → StyleKept
kept_without place item ks =
    slice_set ks place (kept_but (slice_index_or ks place none_kept) (λ c. item_eq item c.item))

-- ---- a listing

module _ (scene : Scene) (tiles : List SourceTile) (globals : List (List ℕ × Data)) where
  -- the cells that it asks of a layer
  abbrev pub asked_of : Tree → List AskedCell
  asked_of t = layer_asked (layer_expressions globals t) scene tiles (prepared_layer globals t)

  -- what is asked is kept
  abbrev pub kept_with : Tree → LayerKept → LayerKept
  kept_with t k c = k c || is_asked (asked_of t) c

  abbrev pub kept_after : List Tree → StyleKept → StyleKept
  kept_after ts ks = of_each kept_with ts ks

  -- The number of a listing: of the asked cells those that are not kept.
  abbrev pub evaluations_in : Tree → LayerKept → ℕ
  evaluations_in t k = evaluations k (asked_of t)

  abbrev pub evaluations_of : List Tree → StyleKept → ℕ
  evaluations_of ts ks = sum_of_each evaluations_in ts ks

  -- The nodes of their expressions.
  abbrev pub nodes_in : Tree → LayerKept → ℕ
  nodes_in t k = total_nodes k (asked_of t)

  abbrev pub nodes_of : List Tree → StyleKept → ℕ
  nodes_of ts ks = sum_of_each nodes_in ts ks
