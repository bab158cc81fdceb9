-- A text that is written to a sink, whole or up to some place. Source: own.
use Rattle.std.specs.Prelude.{◌≡◌, ℕ, List, Option, Result, OnOk, OnErr, IfErr}
use Rattle.halts.specs.declared.halt.Halt.{Halt}
use Rattle.halts.specs.declared.halt.Halt.TheVariants.{Fault, NoMemory}
use Rattle.outside_io.specs.Counts.{raised}
use Rattle.outside_io.specs.Writing.{Gains, GainsPrefix}
use Rattle.outside_io.specs.declared.writing.SinkFailed.{SinkFailed}

-- by the count of failed writes before and after
abbrev pub HasCause : ℕ → ℕ → Halt SinkFailed → Type 0
HasCause old new NoMemory = new ≡ old
HasCause old new (Fault failed) = new ≡ raised old

-- The text was written whole, and no write failed; or a prefix of it, and the count of failed writes says why.
pub record WritesText {O X : Type 0} (held : O → Option (List ℕ)) (faults : O → ℕ) (result : Result X (Halt SinkFailed))
    (old new : O) (text : List ℕ) : Type 0 where
  pub whole : OnOk result (Gains (held old) (held new) text)
  pub still : OnOk result (faults new ≡ faults old)
  pub front : OnErr result (GainsPrefix (held old) (held new) text)
  pub cause : IfErr result (HasCause (faults old) (faults new))
