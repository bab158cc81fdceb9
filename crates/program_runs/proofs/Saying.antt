-- What a run has come to write: what it has is of each outcome, and what an outcome has it comes to write.
use Rattle.std.specs.Prelude.{◌≡◌, ℕ, List, [], ◌∷◌, ◌++◌, length, take, Option, Some, None, ◌⊎◌}
use Rattle.std.proofs.Common.{sym, ap, subst, ◌∙◌, inl, inr, append-nil, append_assoc}
use Rattle.std.proofs.Math.Seq.{take-append_seam}
use Rattle.outside_io.specs.Writing.{Gains, GainsPrefix}
use Rattle.json_tokens.specs.Rules.{all_rules}
use Rattle.decimal_json.proofs.OneTree.{one_tree}
use Rattle.program_runs.specs.Outcome.{RunOutcome}
use Rattle.program_runs.specs.Runs.{Run, ends, says, counts, reads, may_read, parses, may_parse, explains, HasOutcome, HasSaid, AreTold, IsFront}
use Rattle.program_runs.proofs.RunLaws.{not_both, one_content, one_read, one_parsed}

-- a text is a front of itself
pub whole : (text : List ℕ) → IsFront text text
whole text = ([], sym (append-nil text))

front_is : (o made : RunOutcome) (text : List ℕ) → o ≡ made → IsFront text made.out → IsFront text o.out
front_is o made text is front = subst (λ (p : RunOutcome). IsFront text p.out) (sym is) front

-- a front of a text is one of each that begins with the text
longer_text : (front text more : List ℕ) → IsFront front text → IsFront front (text ++ more)
longer_text front text more (rest, is) = (rest ++ more, ap (λ (t : List ℕ). t ++ more) is ∙ append_assoc front rest more)

later_text : (first front text : List ℕ) → IsFront front text → IsFront (first ++ front) (first ++ text)
later_text first front text (rest, is) = (rest, ap (λ (t : List ℕ). first ++ t) is ∙ sym (append_assoc first front rest))

module _ (files : List ℕ → Option (List ℕ)) where
  -- What a run has come to write begins the out text of each of its outcomes.
  pub said_front : (run : Run) → AreTold files run → (before now all : List (List ℕ)) (text : List ℕ) (o : RunOutcome)
      → HasSaid files run before now text → HasOutcome files run before all o → IsFront text o.out
  said_front (ends made) told x y z text o said d = front_is o made text d.0 said.1
  said_front (says first next) told x y z text o (inl said) (p, d, made) =
      subst (λ (q : RunOutcome). IsFront text q.out) (sym made) (longer_text text first p.out said.1)
  said_front (says first next) told x y z text o (inr (more, said, is)) (p, d, made) =
      subst (λ (q : RunOutcome). IsFront text q.out) (sym made)
      (subst (λ (t : List ℕ). IsFront t (first ++ p.out)) (sym is) (later_text first more p.out (said_front next told x y z more p said d)))
  said_front (counts least most next) told x y z text o said (p, d, made) =
      subst (λ (q : RunOutcome). IsFront text q.out) (sym made) (said_front next told x y z text p said d)
  said_front (reads longer name limit after) told x y z text o (inl said) (inl d) = front_is o longer text d.1 said.2
  said_front (reads longer name limit after) told x y z text o (inl said) (inr (bytes, is, d)) =
      absurd (not_both (files name) limit bytes told.0 said.0 is.0 is.1)
  said_front (reads longer name limit after) told x y z text o (inr (bytes, is, said)) (inl d) =
      absurd (not_both (files name) limit bytes told.0 d.0 is.0 is.1)
  said_front (reads longer name limit after) told x y z text o (inr (bytes, is, said)) (inr (others, are, d)) =
      said_front (after bytes) (told.1 bytes is) (x ++ name ∷ []) y z text o said
      (subst (λ b. HasOutcome files (after b) (x ++ name ∷ []) z o) (one_content (files name) others bytes told.0 are.0 is.0) d)
  said_front (may_read name limit after) told x y z text o (got, is, said) (other, are, d) =
      said_front (after got) (told.1 got is) (x ++ name ∷ []) y z text o said
      (subst (λ g. HasOutcome files (after g) (x ++ name ∷ []) z o) (one_read files name limit other got told.0 are is) d)
  said_front (parses what bytes after) told x y z text o (inl (t, spells, said)) (inl (s, also, d)) =
      said_front (after t) (told t spells) x y z text o said (subst (λ u. HasOutcome files (after u) x z o) (one_tree all_rules bytes s t also spells) d)
  said_front (parses what bytes after) told x y z text o (inl (t, spells, said)) (inr (kind, at, none, place, cause, made, same)) = absurd (none (t, spells))
  said_front (parses what bytes after) told x y z text o (inr (none, same, empty)) d = (o.out, ap (λ (t : List ℕ). t ++ o.out) (sym empty))
  said_front (may_parse bytes after) told x y z text o (inl (t, spells, said)) (inl (s, also, d)) =
      said_front (after (Some t)) (told.0 t spells) x y z text o said
      (subst (λ u. HasOutcome files (after (Some u)) x z o) (one_tree all_rules bytes s t also spells) d)
  said_front (may_parse bytes after) told x y z text o (inl (t, spells, said)) (inr (none, d)) = absurd (none (t, spells))
  said_front (may_parse bytes after) told x y z text o (inr (none, said)) (inl (s, also, d)) = absurd (none (s, also))
  said_front (may_parse bytes after) told x y z text o (inr (none, said)) (inr (neither, d)) = said_front (after None) (told.1 none) x y z text o said d
  said_front (explains bytes after) told x y z text o (parsed, is, said) (other, also, d) =
      said_front (after parsed) (told parsed is) x y z text o said (subst (λ r. HasOutcome files (after r) x z o) (one_parsed bytes other parsed also is) d)

  -- A run with an outcome comes to write its out text.
  pub outcome_said : (run : Run) (before all : List (List ℕ)) (o : RunOutcome) → HasOutcome files run before all o → HasSaid files run before all o.out
  outcome_said (ends made) x y o d = (d.1, front_is made o o.out (sym d.0) (whole o.out))
  outcome_said (says first next) x y o (p, d, made) = inr (p.out, outcome_said next x y p d, ap (λ (q : RunOutcome). q.out) made)
  outcome_said (counts least most next) x y o (p, d, made) =
      subst (λ (t : List ℕ). HasSaid files next x y t) (sym (ap (λ (q : RunOutcome). q.out) made)) (outcome_said next x y p d)
  outcome_said (reads longer name limit after) x y o (inl d) = inl (d.0, d.2, front_is longer o o.out (sym d.1) (whole o.out))
  outcome_said (reads longer name limit after) x y o (inr (bytes, is, d)) = inr (bytes, is, outcome_said (after bytes) (x ++ name ∷ []) y o d)
  outcome_said (may_read name limit after) x y o (got, is, d) = (got, is, outcome_said (after got) (x ++ name ∷ []) y o d)
  outcome_said (parses what bytes after) x y o (inl (t, spells, d)) = inl (t, spells, outcome_said (after t) x y o d)
  outcome_said (parses what bytes after) x y o (inr (kind, at, none, place, cause, made, same)) = inr (none, same, ap (λ (q : RunOutcome). q.out) made)
  outcome_said (may_parse bytes after) x y o (inl (t, spells, d)) = inl (t, spells, outcome_said (after (Some t)) x y o d)
  outcome_said (may_parse bytes after) x y o (inr (none, d)) = inr (none, outcome_said (after None) x y o d)
  outcome_said (explains bytes after) x y o (parsed, is, d) = (parsed, is, outcome_said (after parsed) x y o d)

  -- What a sink holds more is a front of the out text of each outcome, where that is what the run has come to write, or nothing.
  pub said_is_prefix : (run : Run) (before now : List (List ℕ)) (text : List ℕ) (a b : Option (List ℕ)) → Gains a b text
      → (text ≡ []) ⊎ HasSaid files run before now text
      → (all : List (List ℕ)) (o : RunOutcome) → AreTold files run → HasOutcome files run before all o → GainsPrefix a b o.out
  said_is_prefix run x y text a b gains (inl none) z o told d = (0, subst (λ (t : List ℕ). Gains a b t) none gains)
  said_is_prefix run x y text a b gains (inr said) z o told d =
      let front = said_front run told x y z text o said d in
      (length text, subst (λ (t : List ℕ). Gains a b t) (sym (ap (λ (t : List ℕ). take (length text) t) front.1 ∙ take-append_seam text front.0)) gains)
