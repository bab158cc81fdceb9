-- What a run writes and how it ends.
use Rattle.std.specs.Prelude.{ℕ, List, [], ◌∷◌, ◌++◌, codes}
use Rattle.program_runs.specs.declared.status.Ending.{Ending}
use Rattle.program_runs.specs.declared.status.Ending.TheVariants.{Refused}

pub record RunOutcome : Type 0 where
  -- the bytes for standard output
  pub out : List ℕ
  -- the bytes for standard error
  pub err : List ℕ
  pub ending : Ending
  -- the steps that its evaluations count: at least so many, and at most so many
  pub least : ℕ
  pub most : ℕ

-- both texts and the ending, where no step is counted
abbrev pub plain_outcome : (out err : List ℕ) → Ending → RunOutcome
plain_outcome out err ending = record { out = out; err = err; ending = ending; least = 0; most = 0 }

-- a line is ended by one LF
abbrev pub line : List ℕ → List ℕ
line text = text ++ 10 ∷ []

-- a text on standard output alone
abbrev pub said : List ℕ → Ending → RunOutcome
said text ending = plain_outcome text [] ending

-- a line on standard error alone
abbrev pub told : List ℕ → Ending → RunOutcome
told text ending = plain_outcome [] (line text) ending

-- a refusal, and why
abbrev pub refused : List ℕ → RunOutcome
refused text = told (codes "refused " ++ text) Refused
