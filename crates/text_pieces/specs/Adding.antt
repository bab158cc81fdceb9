-- A text that is added to what waits to be written out. Source: own.
use Rattle.std.specs.Prelude.{◌≡◌, ℕ, List, ◌++◌, Option, Result, OnOk, OnErr, IfErr}
use Rattle.halts.specs.declared.halt.Halt.{Halt}
use Rattle.outside_io.specs.Writing.{Gains}
use Rattle.outside_io.specs.declared.writing.SinkFailed.{SinkFailed}
use Rattle.text_pieces.specs.Pieces.{HasCause}
use Rattle.text_pieces.specs.declared.pieces.TextPieces.{TextPieces}

-- a sink holds what it held, and then a front of this text
abbrev pub GainsFront : Option (List ℕ) → Option (List ℕ) → List ℕ → Type 0
GainsFront old new text = (front : List ℕ) × (rest : List ℕ) × Gains old new front × (text ≡ front ++ rest)

module _ {O : Type 0} (held : O → Option (List ℕ)) where
  -- what was written out, and what waits, are what waited before, and the text
  abbrev pub AddsText : TextPieces O → TextPieces O → List ℕ → Type 0
  AddsText old new text = (poured : List ℕ) × Gains (held old.out.now) (held new.out.now) poured
      × (poured ++ new.text.items ≡ old.text.items ++ text)

  -- The text was added, and no write failed; or a front of what waited and the text was written out, and the count of
  -- failed writes says why. The sink is the same one.
  pub record Adds {X : Type 0} (faults : O → ℕ) (result : Result X (Halt SinkFailed)) (old new : TextPieces O)
      (text : List ℕ) : Type 0 where
    pub same : new.out.ghost_name ≡ old.out.ghost_name
    pub adds : OnOk result (AddsText old new text)
    pub still : OnOk result (faults new.out.now ≡ faults old.out.now)
    pub front : OnErr result (GainsFront (held old.out.now) (held new.out.now) (old.text.items ++ text))
    pub cause : IfErr result (HasCause (faults old.out.now) (faults new.out.now))
