-- What contracts see of a sink that is held in memory, and what one write to it does.
use Rattle.std.specs.Prelude.{ℕ, ◌-◌, Bool, ◌&&◌, List, ◌++◌, take, length, min, find, Option, is_none, unwrap_or}
use Rattle.std.specs.Prelude.{nat_eq, nat_le, if◌then◌else◌}
use Rattle.std.specs.Option.{option_map}
use Rattle.outside_io.specs.Counts.{raised}

-- a `SinkInMemory`
pub record SinkState : Type 0 where
  pub bytes : List ℕ
  -- how many bytes it has room for
  pub room : ℕ
  -- the number of each write that fails, counted from 0, and how many bytes of its piece it still takes
  pub fails : List (ℕ × ℕ)
  -- how many writes there were
  pub writes : ℕ
  pub faults : ℕ

-- how many bytes the write of this number still takes, where it is listed as failing. The first entry of a
-- number counts
abbrev pub listed : List (ℕ × ℕ) → ℕ → Option ℕ
listed fails number = option_map (λ entry. entry.1) (find (λ entry. nat_eq entry.0 number) fails)

-- how many bytes more it has room for
abbrev pub room_left : SinkState → ℕ
room_left s = s.room - length s.bytes

-- whether the next write, of this piece, succeeds: it is not listed, and the piece fits
abbrev pub takes_all : SinkState → List ℕ → Bool
takes_all s piece = is_none (listed s.fails s.writes) && nat_le (length piece) (room_left s)

-- what the next write takes of this piece: all where it succeeds, and else as many bytes as it still takes
-- and as there is room for, which is none where it is not listed
abbrev pub part_taken : SinkState → List ℕ → List ℕ
part_taken s piece =
    if takes_all s piece then piece else take (min (unwrap_or (listed s.fails s.writes) 0) (room_left s)) piece

-- the sink after the next write, of this piece
abbrev pub after_write : SinkState → List ℕ → SinkState
after_write s piece = record s {
  bytes = s.bytes ++ part_taken s piece;
  writes = raised s.writes;
  faults = if takes_all s piece then s.faults else raised s.faults;
}
