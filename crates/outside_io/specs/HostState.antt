-- What contracts see of real files and streams.
use Rattle.std.specs.Prelude.{ℕ, List, Option}

-- a `HostFiles`
pub record HostFilesState : Type 0 where
  -- how many reads have failed
  pub faults : ℕ
  -- how many bytes were taken
  pub taken : ℕ
  -- the name of the last read that failed
  pub failed : Option (List ℕ)
  -- the names of the reads, in their order
  pub asked : List (List ℕ)

-- a `HostSink`
pub record HostSinkState : Type 0 where
  -- what its writer is known to hold; of real streams nothing is
  pub contents : Option (List ℕ)
  -- how many writes have failed
  pub faults : ℕ
