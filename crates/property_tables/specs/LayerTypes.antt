-- The types of layers and their names. Source: MapLibre style specification, version 8, layers.
use Rattle.std.specs.Prelude.{ℕ, List, codes, Option, Some, None, if◌then◌else◌}
use Rattle.std.specs.Str.{bytes_eq}
use Rattle.property_tables.specs.declared.layer_type.LayerType.{LayerType}
use Rattle.property_tables.specs.declared.layer_type.LayerType.TheVariants.{Background, Fill, Line, Symbol, Circle}
use Rattle.property_tables.specs.declared.layer_type.LayerType.TheVariants.{Heatmap, FillExtrusion, Raster, Hillshade}
use Rattle.property_tables.specs.declared.layer_type.LayerType.TheVariants.{ColorRelief}

abbrev pub type_name : LayerType → List ℕ
type_name Background = codes "background"
type_name Fill = codes "fill"
type_name Line = codes "line"
type_name Symbol = codes "symbol"
type_name Circle = codes "circle"
type_name Heatmap = codes "heatmap"
type_name FillExtrusion = codes "fill-extrusion"
type_name Raster = codes "raster"
type_name Hillshade = codes "hillshade"
type_name ColorRelief = codes "color-relief"

-- the type of a name
abbrev pub type_named : List ℕ → Option LayerType
type_named name =
    if bytes_eq name (codes "background") then Some Background else
    if bytes_eq name (codes "fill") then Some Fill else
    if bytes_eq name (codes "line") then Some Line else
    if bytes_eq name (codes "symbol") then Some Symbol else
    if bytes_eq name (codes "circle") then Some Circle else
    if bytes_eq name (codes "heatmap") then Some Heatmap else
    if bytes_eq name (codes "fill-extrusion") then Some FillExtrusion else
    if bytes_eq name (codes "raster") then Some Raster else
    if bytes_eq name (codes "hillshade") then Some Hillshade else
    if bytes_eq name (codes "color-relief") then Some ColorRelief else
    None
