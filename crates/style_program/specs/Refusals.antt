-- The lines on standard error that say why something is refused.
use Rattle.std.specs.Prelude.{ℕ, List, ◌++◌, codes, decimal}
use Rattle.decimal_json.specs.JsonText.{text_json}
use Rattle.decimal_json.specs.Place.{path_json}
use Rattle.expr_syntax.specs.FaultName.{code_name}
use Rattle.expr_syntax.specs.declared.fault.SynFault.{SynFault}
use Rattle.expr_types.specs.FaultName.{code_name as type_name}
use Rattle.expr_types.specs.declared.fault.TypeFault.{TypeFault}
use Rattle.edit_session.specs.Opening.{Fault, has_findings, unknown_source, not_vector, too_many_cells, zoom_range}
use Rattle.proto_wire.specs.declared.wire.WireKind.TheVariants as wire
use Rattle.tile_reader.specs.declared.fault.TileFault.{TileFault}
use Rattle.tile_reader.specs.declared.fault.TileKind.{TileKind}
use Rattle.tile_reader.specs.declared.fault.TileKind.TheVariants as tiles
use Rattle.program_runs.specs.Outcome.{RunOutcome, refused}
use Rattle.program_runs.specs.Refusals.{tile_text, tile_number}

-- an expression with a node that is outside of what is evaluated
abbrev pub outside : RunOutcome
outside = refused (codes "expr Outside")

-- no expression: the code of its first fault, and the path of its node
abbrev pub no_expression : SynFault → RunOutcome
no_expression fault = refused (codes "expr " ++ (code_name fault.code ++ (codes " " ++ path_json fault.path)))

-- an expression that is not well typed: the code of its first fault, and the path of its node
abbrev pub no_type : TypeFault → RunOutcome
no_type fault = refused (codes "expr " ++ (type_name fault.code ++ (codes " " ++ path_json fault.path)))

-- the kinds of faults of tiles
abbrev pub tile_kind_name : TileKind → List ℕ
tile_kind_name (tiles.Wire wire.Varint) = codes "Varint"
tile_kind_name (tiles.Wire wire.Truncated) = codes "Truncated"
tile_kind_name (tiles.Wire wire.WireType) = codes "WireType"
tile_kind_name tiles.Compressed = codes "Compressed"
tile_kind_name tiles.NoName = codes "NoName"
tile_kind_name tiles.NoVersion = codes "NoVersion"
tile_kind_name tiles.Version = codes "Version"
tile_kind_name tiles.RepeatedName = codes "RepeatedName"
tile_kind_name tiles.TagIndex = codes "TagIndex"
tile_kind_name tiles.OddTags = codes "OddTags"
tile_kind_name tiles.ValueKind = codes "ValueKind"
tile_kind_name tiles.FloatValue = codes "FloatValue"
tile_kind_name tiles.Utf8 = codes "Utf8"
tile_kind_name tiles.FieldType = codes "FieldType"
tile_kind_name tiles.GeometryType = codes "GeometryType"

-- the tile of a source is none: the kind of the fault, its place, and which of the source's tiles it is
abbrev pub no_tile : (source : List ℕ) (number : ℕ) → TileFault → RunOutcome
no_tile source number fault =
    refused (tile_text source
    ++ (codes " " ++ (tile_kind_name fault.kind ++ (codes " " ++ (decimal fault.at ++ tile_number number)))))

-- A style that cannot be opened over tiles: the source of a tile is none of its sources, or not of type
-- vector; there are more cells than are allowed; the zoom is not from 0 to 24. One with findings is not
-- opened at all.
abbrev pub open_fault_text : Fault → List ℕ
open_fault_text has_findings = codes "Findings"
open_fault_text (unknown_source source) = codes "UnknownSource " ++ text_json source
open_fault_text (not_vector source) = codes "NotVector " ++ text_json source
open_fault_text (too_many_cells count) = codes "CellLimit " ++ decimal count
open_fault_text zoom_range = codes "ZoomRange"

abbrev pub not_opened : Fault → RunOutcome
not_opened fault = refused (codes "open " ++ open_fault_text fault)
