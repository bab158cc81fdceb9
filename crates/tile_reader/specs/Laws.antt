-- The laws that say what the definitions of this crate mean.
use Rattle.std.specs.Prelude.{◌≡◌, ℕ, ◌⊎◌, ◌↔◌, List, [], Ok, Err}
use Rattle.proto_wire.specs.Reading.{AreFields}
use Rattle.prop_values.specs.Data.{Data}
use Rattle.prop_values.specs.Keys.{HasDistinctKeys}
use Rattle.tile_reader.specs.declared.fault.TileFault.{TileFault}
use Rattle.tile_reader.specs.declared.tile.TileLayer.{TileLayer}
use Rattle.tile_reader.specs.Message.{message}
use Rattle.tile_reader.specs.Properties.{put_all}
use Rattle.tile_reader.specs.Tile.{tile_of}
use Rattle.tile_reader.specs.Format.{IsTile}
use Rattle.tile_reader.specs.FirstFault.{IsFirstFault}

-- A tile is read exactly where the bytes are that tile.
abbrev pub TilesAreRead : Type 0
TilesAreRead = (b : List ℕ) (layers : List TileLayer) → (tile_of b ≡ Ok layers) ↔ IsTile b layers

-- All bytes are a tile or have a first fault,
abbrev pub TileOrFault : Type 0
TileOrFault = (b : List ℕ) → ((layers : List TileLayer) × IsTile b layers)
    ⊎ ((fault : TileFault) × (tile_of b ≡ Err fault))

-- not both,
abbrev pub NeverBoth : Type 0
NeverBoth = (b : List ℕ) (layers : List TileLayer) (fault : TileFault) → IsTile b layers → tile_of b ≡ Err fault → ⊥

-- and are no two tiles.
abbrev pub OneTile : Type 0
OneTile = (b : List ℕ) (layers others : List TileLayer) → IsTile b layers → IsTile b others → others ≡ layers

-- The fault that is read is the first one in the reading order: no fault is before it.
abbrev pub FaultsComeFirst : Type 0
FaultsComeFirst = (b : List ℕ) (fault : TileFault) → tile_of b ≡ Err fault → IsFirstFault b fault

-- a message is the fields that its bytes have in order, up to the end or up to a fault
abbrev pub MessagesAreCut : Type 0
MessagesAreCut = (at : ℕ) (b : List ℕ) → AreFields at b (message at b).fields (message at b).fault

-- no key of a feature occurs twice
abbrev pub KeysDiffer : Type 0
KeysDiffer = (pairs : List (List ℕ × Data)) → HasDistinctKeys (put_all [] pairs)
