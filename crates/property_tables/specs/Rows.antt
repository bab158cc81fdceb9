-- The table of style properties: this project's profile of the MapLibre style specification, version 8. The
-- order of rows is the order of the table; the rows of layout are before those of paint. Source: own, each
-- cell of it.
use Rattle.std.specs.Prelude.{ℕ, ◌+◌, ◌*◌, ℤ, pos, negsuc, List, [], ◌∷◌, Bool, true, false, ◌||◌, Option, Some, None}
use Rattle.std.specs.Prelude.{codes, if◌then◌else◌}
use Prim.Native.String.{String}
use Rattle.prop_values.specs.Equality.{same_text}
use Rattle.prop_values.specs.declared.choice.Choice.{Choice}
use Rattle.prop_values.specs.declared.choice.Choice.TheVariants.{Visibility, Anchor, MapViewport, MapViewportAuto}
use Rattle.prop_values.specs.declared.choice.Choice.TheVariants.{Overlap, LineCap, LineJoin, SymbolPlacement}
use Rattle.prop_values.specs.declared.choice.Choice.TheVariants.{SymbolZOrder, IconTextFit, TextRotationAlignment}
use Rattle.prop_values.specs.declared.choice.Choice.TheVariants.{TextJustify, TextWritingMode, TextTransform}
use Rattle.prop_values.specs.declared.choice.Choice.TheVariants.{RasterResampling}
use Rattle.prop_values.specs.declared.kinds.Item.TheVariants as items
use Rattle.prop_values.specs.declared.kinds.Want.{Want}
use Rattle.prop_values.specs.declared.kinds.Want.TheVariants as wants
use Rattle.property_tables.specs.declared.layer_type.LayerType.{LayerType}
use Rattle.property_tables.specs.declared.layer_type.LayerType.TheVariants as types
use Rattle.property_tables.specs.declared.property_row.Place.{Place}
use Rattle.property_tables.specs.declared.property_row.Place.TheVariants.{Layout, Paint}

-- the default of a property without a value of its own: nothing, a flag, a number of millionths, a word, a
-- list of this many zeros, the fonts
pub data Default : Type 0 where
  absent : Default
  flag : Bool → Default
  amount : ℤ → Default
  word : List ℕ → Default
  zeros : ℕ → Default
  fonts : Default

-- the least and the most number that a literal may be, or each of its items, in millionths
pub record Limits : Type 0 where
  pub least : Option ℤ
  pub most : Option ℤ

-- what the value of a property may read, and whether a function on it ramps
pub record AllowedReads : Type 0 where
  pub zoom : Bool
  pub feature : Bool
  pub state : Bool
  pub ramps : Bool

-- `number`: the place among the rows of its type, counted from 0; `takes_tokens`: whether a text with tokens is a token
-- text
pub record RowData : Type 0 where
  pub number : ℕ
  pub name : List ℕ
  pub place : Place
  pub want : Want
  pub fallback : Default
  pub limits : Limits
  pub reads : AllowedReads
  pub takes_tokens : Bool

-- The words of the table.

abbrev layout : String → Want → Default → Limits → AllowedReads → RowData
layout s w d l r = record { number = 0; name = codes s; place = Layout; want = w; fallback = d; limits = l; reads = r; takes_tokens = false }

abbrev layout_with_tokens : String → Want → Default → Limits → AllowedReads → RowData
layout_with_tokens s w d l r = record (layout s w d l r) { takes_tokens = true }

abbrev paint : String → Want → Default → Limits → AllowedReads → RowData
paint s w d l r = record { number = 0; name = codes s; place = Paint; want = w; fallback = d; limits = l; reads = r; takes_tokens = false }

abbrev one_of : Choice → Want
one_of c = wants.Enum c

abbrev some_of : Choice → Want
some_of c = wants.EnumList c

abbrev numbers : Want
numbers = wants.List items.Number None

abbrev numbers_2 : Want
numbers_2 = wants.List items.Number (Some 2)

abbrev numbers_4 : Want
numbers_4 = wants.List items.Number (Some 4)

abbrev texts : Want
texts = wants.List items.Text None

abbrev units : ℕ → Default
units n = amount (pos (n * 1000000))

abbrev millionths : ℕ → Default
millionths n = amount (pos n)

abbrev named : String → Default
named s = word (codes s)

abbrev free : Limits
free = record { least = None; most = None }

abbrev from_0 : Limits
from_0 = record { least = Some (pos 0); most = None }

abbrev from_1 : Limits
from_1 = record { least = Some (pos 1000000); most = None }

abbrev from_0_to_1 : Limits
from_0_to_1 = record { least = Some (pos 0); most = Some (pos 1000000) }

-- from -1 to 1
abbrev within_1 : Limits
within_1 = record { least = Some (negsuc 999999); most = Some (pos 1000000) }

-- z: the zoom, f: feature data, s: feature state, i: it ramps
abbrev none : AllowedReads
none = record { zoom = false; feature = false; state = false; ramps = false }

abbrev z : AllowedReads
z = record { zoom = true; feature = false; state = false; ramps = false }

abbrev z_i : AllowedReads
z_i = record { zoom = true; feature = false; state = false; ramps = true }

abbrev zf : AllowedReads
zf = record { zoom = true; feature = true; state = false; ramps = false }

abbrev zf_i : AllowedReads
zf_i = record { zoom = true; feature = true; state = false; ramps = true }

abbrev zfs_i : AllowedReads
zfs_i = record { zoom = true; feature = true; state = true; ramps = true }

-- The table.

unfoldable pub background_rows : List RowData
background_rows =
    layout "visibility" (one_of Visibility) (named "visible") free none ∷
    paint "background-color" wants.Color (named "#000000") free z_i ∷
    paint "background-pattern" wants.Image absent free z ∷
    paint "background-opacity" wants.Number (units 1) from_0_to_1 z_i ∷
    []

unfoldable pub fill_rows : List RowData
fill_rows =
    layout "visibility" (one_of Visibility) (named "visible") free none ∷
    layout "fill-sort-key" wants.Number absent free zf ∷
    paint "fill-antialias" wants.Boolean (flag true) free z ∷
    paint "fill-opacity" wants.Number (units 1) from_0_to_1 zfs_i ∷
    paint "fill-color" wants.Color (named "#000000") free zfs_i ∷
    paint "fill-outline-color" wants.Color absent free zfs_i ∷
    paint "fill-translate" numbers_2 (zeros 2) free z_i ∷
    paint "fill-translate-anchor" (one_of MapViewport) (named "map") free z ∷
    paint "fill-pattern" wants.Image absent free zf ∷
    []

unfoldable pub line_rows : List RowData
line_rows =
    layout "visibility" (one_of Visibility) (named "visible") free none ∷
    layout "line-cap" (one_of LineCap) (named "butt") free z ∷
    layout "line-join" (one_of LineJoin) (named "miter") free zf ∷
    layout "line-miter-limit" wants.Number (units 2) free z_i ∷
    layout "line-round-limit" wants.Number (millionths 1050000) free z_i ∷
    layout "line-sort-key" wants.Number absent free zf ∷
    paint "line-opacity" wants.Number (units 1) from_0_to_1 zfs_i ∷
    paint "line-color" wants.Color (named "#000000") free zfs_i ∷
    paint "line-translate" numbers_2 (zeros 2) free z_i ∷
    paint "line-translate-anchor" (one_of MapViewport) (named "map") free z ∷
    paint "line-width" wants.Number (units 1) from_0 zfs_i ∷
    paint "line-gap-width" wants.Number (units 0) from_0 zfs_i ∷
    paint "line-offset" wants.Number (units 0) free zfs_i ∷
    paint "line-blur" wants.Number (units 0) from_0 zfs_i ∷
    paint "line-dasharray" numbers absent from_0 z ∷
    paint "line-pattern" wants.Image absent free zf ∷
    []

unfoldable pub symbol_rows : List RowData
symbol_rows =
    layout "visibility" (one_of Visibility) (named "visible") free none ∷
    layout "symbol-placement" (one_of SymbolPlacement) (named "point") free z ∷
    layout "symbol-spacing" wants.Number (units 250) from_1 z_i ∷
    layout "symbol-avoid-edges" wants.Boolean (flag false) free z ∷
    layout "symbol-sort-key" wants.Number absent free zf ∷
    layout "symbol-z-order" (one_of SymbolZOrder) (named "auto") free z ∷
    layout "icon-allow-overlap" wants.Boolean (flag false) free z ∷
    layout "icon-overlap" (one_of Overlap) absent free z ∷
    layout "icon-ignore-placement" wants.Boolean (flag false) free z ∷
    layout "icon-optional" wants.Boolean (flag false) free z ∷
    layout "icon-rotation-alignment" (one_of MapViewportAuto) (named "auto") free z ∷
    layout "icon-size" wants.Number (units 1) from_0 zf_i ∷
    layout "icon-text-fit" (one_of IconTextFit) (named "none") free z ∷
    layout "icon-text-fit-padding" numbers_4 (zeros 4) free z_i ∷
    layout_with_tokens "icon-image" wants.Image absent free zf ∷
    layout "icon-rotate" wants.Number (units 0) free zf_i ∷
    layout "icon-keep-upright" wants.Boolean (flag false) free z ∷
    layout "icon-offset" numbers_2 (zeros 2) free zf_i ∷
    layout "icon-anchor" (one_of Anchor) (named "center") free zf ∷
    layout "icon-pitch-alignment" (one_of MapViewportAuto) (named "auto") free z ∷
    layout "text-pitch-alignment" (one_of MapViewportAuto) (named "auto") free z ∷
    layout "text-rotation-alignment" (one_of TextRotationAlignment) (named "auto") free z ∷
    layout_with_tokens "text-field" wants.Shown (named "") free zf ∷
    layout "text-font" texts fonts free zf ∷
    layout "text-size" wants.Number (units 16) from_0 zf_i ∷
    layout "text-max-width" wants.Number (units 10) from_0 zf_i ∷
    layout "text-line-height" wants.Number (millionths 1200000) free z_i ∷
    layout "text-letter-spacing" wants.Number (units 0) free zf_i ∷
    layout "text-justify" (one_of TextJustify) (named "center") free zf ∷
    layout "text-radial-offset" wants.Number (units 0) free zf_i ∷
    layout "text-variable-anchor" (some_of Anchor) absent free z ∷
    layout "text-anchor" (one_of Anchor) (named "center") free zf ∷
    layout "text-max-angle" wants.Number (units 45) free z_i ∷
    layout "text-writing-mode" (some_of TextWritingMode) absent free z ∷
    layout "text-rotate" wants.Number (units 0) free zf_i ∷
    layout "text-padding" wants.Number (units 2) from_0 z_i ∷
    layout "text-keep-upright" wants.Boolean (flag true) free z ∷
    layout "text-transform" (one_of TextTransform) (named "none") free zf ∷
    layout "text-offset" numbers_2 (zeros 2) free zf_i ∷
    layout "text-allow-overlap" wants.Boolean (flag false) free z ∷
    layout "text-overlap" (one_of Overlap) absent free z ∷
    layout "text-ignore-placement" wants.Boolean (flag false) free z ∷
    layout "text-optional" wants.Boolean (flag false) free z ∷
    paint "icon-opacity" wants.Number (units 1) from_0_to_1 zfs_i ∷
    paint "icon-color" wants.Color (named "#000000") free zfs_i ∷
    paint "icon-halo-color" wants.Color (named "rgba(0,0,0,0)") free zfs_i ∷
    paint "icon-halo-width" wants.Number (units 0) from_0 zfs_i ∷
    paint "icon-halo-blur" wants.Number (units 0) from_0 zfs_i ∷
    paint "icon-translate" numbers_2 (zeros 2) free z_i ∷
    paint "icon-translate-anchor" (one_of MapViewport) (named "map") free z ∷
    paint "text-opacity" wants.Number (units 1) from_0_to_1 zfs_i ∷
    paint "text-color" wants.Color (named "#000000") free zfs_i ∷
    paint "text-halo-color" wants.Color (named "rgba(0,0,0,0)") free zfs_i ∷
    paint "text-halo-width" wants.Number (units 0) from_0 zfs_i ∷
    paint "text-halo-blur" wants.Number (units 0) from_0 zfs_i ∷
    paint "text-translate" numbers_2 (zeros 2) free z_i ∷
    paint "text-translate-anchor" (one_of MapViewport) (named "map") free z ∷
    []

unfoldable pub circle_rows : List RowData
circle_rows =
    layout "visibility" (one_of Visibility) (named "visible") free none ∷
    layout "circle-sort-key" wants.Number absent free zf ∷
    paint "circle-radius" wants.Number (units 5) from_0 zfs_i ∷
    paint "circle-color" wants.Color (named "#000000") free zfs_i ∷
    paint "circle-blur" wants.Number (units 0) free zfs_i ∷
    paint "circle-opacity" wants.Number (units 1) from_0_to_1 zfs_i ∷
    paint "circle-translate" numbers_2 (zeros 2) free z_i ∷
    paint "circle-translate-anchor" (one_of MapViewport) (named "map") free z ∷
    paint "circle-pitch-scale" (one_of MapViewport) (named "map") free z ∷
    paint "circle-pitch-alignment" (one_of MapViewport) (named "viewport") free z ∷
    paint "circle-stroke-width" wants.Number (units 0) from_0 zfs_i ∷
    paint "circle-stroke-color" wants.Color (named "#000000") free zfs_i ∷
    paint "circle-stroke-opacity" wants.Number (units 1) from_0_to_1 zfs_i ∷
    []

unfoldable pub heatmap_rows : List RowData
heatmap_rows =
    layout "visibility" (one_of Visibility) (named "visible") free none ∷
    paint "heatmap-radius" wants.Number (units 30) from_1 zfs_i ∷
    paint "heatmap-weight" wants.Number (units 1) from_0 zfs_i ∷
    paint "heatmap-intensity" wants.Number (units 1) from_0 z_i ∷
    paint "heatmap-opacity" wants.Number (units 1) from_0_to_1 z_i ∷
    []

unfoldable pub fill_extrusion_rows : List RowData
fill_extrusion_rows =
    layout "visibility" (one_of Visibility) (named "visible") free none ∷
    paint "fill-extrusion-opacity" wants.Number (units 1) from_0_to_1 z_i ∷
    paint "fill-extrusion-color" wants.Color (named "#000000") free zfs_i ∷
    paint "fill-extrusion-translate" numbers_2 (zeros 2) free z_i ∷
    paint "fill-extrusion-translate-anchor" (one_of MapViewport) (named "map") free z ∷
    paint "fill-extrusion-pattern" wants.Image absent free zf ∷
    paint "fill-extrusion-height" wants.Number (units 0) from_0 zfs_i ∷
    paint "fill-extrusion-base" wants.Number (units 0) from_0 zfs_i ∷
    paint "fill-extrusion-vertical-gradient" wants.Boolean (flag true) free z ∷
    []

unfoldable pub raster_rows : List RowData
raster_rows =
    layout "visibility" (one_of Visibility) (named "visible") free none ∷
    paint "raster-opacity" wants.Number (units 1) from_0_to_1 z_i ∷
    paint "raster-hue-rotate" wants.Number (units 0) free z_i ∷
    paint "raster-brightness-min" wants.Number (units 0) from_0_to_1 z_i ∷
    paint "raster-brightness-max" wants.Number (units 1) from_0_to_1 z_i ∷
    paint "raster-saturation" wants.Number (units 0) within_1 z_i ∷
    paint "raster-contrast" wants.Number (units 0) within_1 z_i ∷
    paint "raster-resampling" (one_of RasterResampling) (named "linear") free z ∷
    paint "raster-fade-duration" wants.Number (units 300) from_0 z_i ∷
    []

unfoldable pub hillshade_rows : List RowData
hillshade_rows =
    layout "visibility" (one_of Visibility) (named "visible") free none ∷
    []

unfoldable pub color_relief_rows : List RowData
color_relief_rows =
    layout "visibility" (one_of Visibility) (named "visible") free none ∷
    []

abbrev pub table_of : LayerType → List RowData
table_of types.Background = background_rows
table_of types.Fill = fill_rows
table_of types.Line = line_rows
table_of types.Symbol = symbol_rows
table_of types.Circle = circle_rows
table_of types.Heatmap = heatmap_rows
table_of types.FillExtrusion = fill_extrusion_rows
table_of types.Raster = raster_rows
table_of types.Hillshade = hillshade_rows
table_of types.ColorRelief = color_relief_rows

-- rows with their numbers, from this number on
abbrev pub numbered : ℕ → List RowData → List RowData
numbered n [] = []
numbered n (r ∷ rs) = record r { number = n } ∷ numbered (n + 1) rs

-- the rows of a type in the order of the table
abbrev pub rows_of : LayerType → List RowData
rows_of t = numbered 0 (table_of t)

-- the row of a name, with its number among the rows, which are counted from this number on
abbrev pub row_named : ℕ → List ℕ → List RowData → Option (ℕ × RowData)
row_named n name [] = None
row_named n name (r ∷ rs) = if same_text name r.name then Some (n, r) else row_named (n + 1) name rs

abbrev pub is_at : Place → Place → Bool
is_at Layout Layout = true
is_at Paint Paint = true
is_at _ _ = false

-- what is at the place
abbrev pub at_place : Place → Option (ℕ × RowData) → Option (ℕ × RowData)
at_place p None = None
at_place p (Some found) = if is_at p found.1.place then Some found else None

-- the row of a type, a place and a name, with its number among the rows of the type
abbrev pub row_of : LayerType → Place → List ℕ → Option (ℕ × RowData)
row_of t p name = at_place p (row_named 0 name (rows_of t))

-- Names that are let pass unread: four of them, and all but `visibility` of two types.
abbrev pub is_unread : LayerType → Place → List ℕ → Bool
is_unread types.Heatmap Paint name = same_text name (codes "heatmap-color")
is_unread types.Line Paint name = same_text name (codes "line-gradient")
is_unread types.Symbol Layout name =
    same_text name (codes "icon-padding") || same_text name (codes "text-variable-anchor-offset")
is_unread types.Hillshade _ name = true
is_unread types.ColorRelief _ name = true
is_unread _ _ name = false
