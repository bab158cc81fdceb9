-- What clauses see of the program's values.
use Rattle.std.specs.Prelude.{◌≡◌, ◌<◌, ℕ, List, [], ◌∷◌, map, is_some, true, false}
use Rattle.decimal_json.specs.Tree.{Tree}
use Rattle.decimal_json.specs.View.{items_view}
use Rattle.prop_values.specs.Data.{Data}
use Rattle.expr_nodes.specs.Evaluators.{Sized}
use Rattle.form_pool.specs.declared.form_pool.FormPool.{FormPool}
use Rattle.value_forms.specs.LayerTypes.{layer_type}
use Rattle.layer_buckets.specs.Seen.{IsSound}
use Rattle.noted_places.specs.Places.{AreNoted, places_in}
use Rattle.style_layout.specs.CodeView.{layers_seen, tile_seen}
use Rattle.style_layout.specs.Forms.{Scene}
use Rattle.style_layout.specs.Shown.{SourceTile}
use Rattle.style_layout.specs.StyleLayout.{cell_count}
use Rattle.kept_layers.specs.Holding as holding
use Rattle.kept_layers.specs.Holding.{AbsentAreBare, AreApart, AreThere, NoneReadsGlobals, ReadsNoState, style_kept}
use Rattle.kept_layers.specs.KeptLayers.{StyleKept, outlines_of, prepared_layers}
use Rattle.kept_layers.specs.declared.kept_layers.KeptLayers.{KeptLayers}
use Rattle.kept_layers.specs.declared.style_layers.StyleLayers.{StyleLayers}

-- which cells of each layer are kept
abbrev pub kept_seen : KeptLayers → StyleKept
kept_seen k = style_kept k.cells.buckets k.numbers.items

-- Layers have numbers of their own, and those of other numbers are not there. Where it is not noted that an expression
-- was read by the values of the global state, none was; and where the place of a layer is not noted, none of its
-- expressions reads a state. A fact that each call asks and hands on.
pub record AreNumbered (k : KeptLayers) : Type 0 where
  pub sound : IsSound k.cells.buckets
  pub apart : AreApart k.numbers.items
  pub there : AreThere k.cells.buckets k.numbers.items
  pub bare : AbsentAreBare k.cells.buckets
  pub noted : k.reads_globals ≡ false → NoneReadsGlobals k.cells.buckets
  pub states : AreNoted (ReadsNoState k.cells.buckets) k.numbers.items (places_in k.state_places)

module _ (slots : FormPool → List Sized) (tiles : List SourceTile) (globals : List (List ℕ × Data)) where
  -- they are those of a document, in their order
  abbrev pub HoldsLayers : List Tree → KeptLayers → Type 0
  HoldsLayers ts k = holding.AreHeld slots tiles globals k.cells.buckets k.numbers.items ts

  -- and what is kept of them is right in a scene
  abbrev pub IsRightIn : Scene → List Tree → KeptLayers → Type 0
  IsRightIn scene ts k = holding.AreRightIn slots tiles globals k.cells.buckets scene k.numbers.items ts

-- ---- a style

abbrev pub trees_in : StyleLayers → List Tree
trees_in s = items_view s.layers.now

abbrev pub tiles_in : StyleLayers → List SourceTile
tiles_in s = map tile_seen s.tiles.now

abbrev pub globals_in : StyleLayers → List (List ℕ × Data)
globals_in s = s.globals.now

abbrev pub IsTyped : Tree → Type 0
IsTyped t = is_some (layer_type t) ≡ true

abbrev pub AreTyped : List Tree → Type 0
AreTyped [] = Unit {0}
AreTyped (t ∷ ts) = IsTyped t × AreTyped ts

-- Its layers have types, are prepared, and have fewer than 2^32 - 1 cells.
pub record IsPrepared (s : StyleLayers) : Type 0 where
  pub typed : AreTyped (trees_in s)
  pub prepared : layers_seen s.style.now ≡ outlines_of (globals_in s) (trees_in s)
  pub few : cell_count (tiles_in s) (prepared_layers (globals_in s) (trees_in s)) < 4294967295
