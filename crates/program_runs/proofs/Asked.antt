-- What a run has read: nothing yet, or all of it.
use Rattle.std.specs.Prelude.{ℕ, List, Option, Some, None}
use Rattle.std.proofs.Common.{refl, inl, inr}
use Rattle.program_runs.specs.Outcome.{RunOutcome}
use Rattle.program_runs.specs.Runs.{Run, ends, says, counts, reads, may_read, parses, may_parse, explains, HasOutcome, HasAsked}

module _ (files : List ℕ → Option (List ℕ)) where
  pub none_asked : (run : Run) (before : List (List ℕ)) → HasAsked files run before before
  none_asked (ends made) before = refl
  none_asked (says text next) before = none_asked next before
  none_asked (counts least most next) before = none_asked next before
  none_asked (reads longer name limit after) before = inl refl
  none_asked (may_read name limit after) before = inl refl
  none_asked (parses what bytes after) before = inl refl
  none_asked (may_parse bytes after) before = inl refl
  none_asked (explains bytes after) before = inl refl

  pub all_asked : (run : Run) (before after : List (List ℕ)) (o : RunOutcome) → HasOutcome files run before after o → HasAsked files run before after
  all_asked (ends made) x y o d = d.1
  all_asked (says text next) x y o (p, d, made) = all_asked next x y p d
  all_asked (counts least most next) x y o (p, d, made) = all_asked next x y p d
  all_asked (reads longer name limit after) x y o (inl d) = inr (inl d.2)
  all_asked (reads longer name limit after) x y o (inr (bytes, is, d)) = inr (inr (bytes, is, all_asked (after bytes) _ y o d))
  all_asked (may_read name limit after) x y o (got, is, d) = inr (inr (got, is, all_asked (after got) _ y o d))
  all_asked (parses what bytes after) x y o (inl (t, spells, d)) = inr (t, spells, all_asked (after t) x y o d)
  all_asked (parses what bytes after) x y o (inr (kind, at, none, place, cause, made, same)) = inl same
  all_asked (may_parse bytes after) x y o (inl (t, spells, d)) = inr (inl (t, spells, all_asked (after (Some t)) x y o d))
  all_asked (may_parse bytes after) x y o (inr (none, d)) = inr (inr (none, all_asked (after None) x y o d))
  all_asked (explains bytes after) x y o (parsed, is, d) = inr (parsed, is, all_asked (after parsed) x y o d)
