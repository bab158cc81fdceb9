-- The names of shapes.
use Rattle.std.specs.Prelude.{ℕ, List, codes}
use Rattle.tile_reader.specs.declared.tile.Shape.{Shape}
use Rattle.tile_reader.specs.declared.tile.Shape.TheVariants.{Unknown, Point, LineString, Polygon}

-- Geometries of several parts have the name of those of one. Source: Vector Tile 2.1 §4.3.4.1.
abbrev pub shape_name : Shape → List ℕ
shape_name Unknown = codes "Unknown"
shape_name Point = codes "Point"
shape_name LineString = codes "LineString"
shape_name Polygon = codes "Polygon"
