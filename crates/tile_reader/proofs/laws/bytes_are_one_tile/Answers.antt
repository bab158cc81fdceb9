use Rattle.tile_reader.proofs.TileFormat.{tile_or_fault, never_both, one_tile, tiles_are_read}
use Rattle.tile_reader.proofs.LayerFaults.{faults_come_first}
use Rattle.tile_reader.proofs.laws.bytes_are_one_tile.Goals as goal

pub returns-clause-read : goal.returns-clause-read
returns-clause-read c = tiles_are_read

pub returns-clause-first : goal.returns-clause-first
returns-clause-first c = faults_come_first

pub returns-clause-some : goal.returns-clause-some
returns-clause-some c = tile_or_fault

pub returns-clause-apart : goal.returns-clause-apart
returns-clause-apart c = never_both

pub returns-clause-only : goal.returns-clause-only
returns-clause-only c = one_tile
