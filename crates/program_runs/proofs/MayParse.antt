-- A run goes on with what bytes give that may be a JSON text.
use Rattle.std.specs.Prelude.{◌≡◌, ℕ, ◌+◌, ◌≤◌, List, Option, Some, None, ◌⊎◌}
use Rattle.std.proofs.Common.{subst, inl, inr, arith}
use Rattle.json_tokens.specs.Rules.{all_rules}
use Rattle.decimal_json.specs.Grammar.{Spells}
use Rattle.decimal_json.specs.Parses.{IsAccepted}
use Rattle.decimal_json.specs.Tree.{Tree}
use Rattle.program_runs.specs.Outcome.{RunOutcome}
use Rattle.program_runs.specs.Runs.{Run, counts, may_parse, HasOutcome, HasSaid, HasCounted}
use Rattle.program_runs.specs.Written.{StepsAreDue}
use Rattle.program_runs.proofs.Asked.{none_asked}
use Rattle.program_runs.proofs.Counting.{none_counted}

-- By what a tree gives, or none: it is what is given by the tree that the bytes spell, or by none where they spell none.
abbrev pub IsGiven : {A : Type 0} → (given : Option Tree → A) → (bytes : List ℕ) → A → Type 0
IsGiven given bytes x =
    ((t : Tree) × Spells all_rules bytes t × (x ≡ given (Some t))) ⊎ ((IsAccepted all_rules bytes → ⊥) × (x ≡ given None))

module _ {A : Type 0} (given : Option Tree → A) (after : A → Run) (files : List ℕ → Option (List ℕ)) (asked : List (List ℕ)) (bytes : List ℕ) (x : A) where
  -- the run, which goes on so
  abbrev run : Run
  run = may_parse bytes (λ t. after (given t))

  pub outcome_given : (all : List (List ℕ)) (o : RunOutcome) → IsGiven given bytes x → HasOutcome files (after x) asked all o → HasOutcome files run asked all o
  outcome_given all o (inl (t, spells, is)) made = inl (t, spells, subst (λ (y : A). HasOutcome files (after y) asked all o) is made)
  outcome_given all o (inr (none, is)) made = inr (none, subst (λ (y : A). HasOutcome files (after y) asked all o) is made)

  pub said_given : (now : List (List ℕ)) (text : List ℕ) → IsGiven given bytes x → HasSaid files (after x) asked now text → HasSaid files run asked now text
  said_given now text (inl (t, spells, is)) said = inl (t, spells, subst (λ (y : A). HasSaid files (after y) asked now text) is said)
  said_given now text (inr (none, is)) said = inr (none, subst (λ (y : A). HasSaid files (after y) asked now text) is said)

  pub counted_given : (now : List (List ℕ)) (steps : ℕ) → IsGiven given bytes x → HasCounted files (after x) asked now steps → HasCounted files run asked now steps
  counted_given now steps (inl (t, spells, is)) counted = inr (inl (t, spells, subst (λ (y : A). HasCounted files (after y) asked now steps) is counted))
  counted_given now steps (inr (none, is)) counted = inr (inr (none, subst (λ (y : A). HasCounted files (after y) asked now steps) is counted))

-- Evaluations come next, whose steps rose by no more than they count.
pub counts_due : (files : List ℕ → Option (List ℕ)) (asked : List (List ℕ)) (least most : ℕ) (next : Run) (old new : ℕ) → new ≤ old + most
    → StepsAreDue files (counts least most next) asked asked old new
counts_due files asked least most next old new few =
    (most, (0, none_counted files next asked asked (none_asked files next asked), omega arith), few)
