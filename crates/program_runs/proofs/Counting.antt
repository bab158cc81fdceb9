-- What a run may have counted: no more than each outcome says, and what an outcome says.
use Rattle.std.specs.Prelude.{◌≡◌, ℕ, ◌+◌, ◌≤◌, List, ◌∷◌, ◌++◌, [], Option, Some, None}
use Rattle.std.proofs.Common.{ap, refl, sym, subst, inl, inr, arith}
use Rattle.json_tokens.specs.Rules.{all_rules}
use Rattle.decimal_json.proofs.OneTree.{one_tree}
use Rattle.program_runs.specs.Outcome.{RunOutcome}
use Rattle.program_runs.specs.Runs.{Run, ends, says, counts, reads, may_read, parses, may_parse, explains, HasOutcome, HasAsked, HasCounted, AreTold}
use Rattle.program_runs.specs.Written.{RoseBetween, StepsAreDue}
use Rattle.program_runs.proofs.Asked.{none_asked}
use Rattle.program_runs.proofs.RunLaws.{not_both, one_content, one_read, one_parsed}

module _ (files : List ℕ → Option (List ℕ)) where
  -- Wherever a run has come, it may have counted no step.
  pub none_counted : (run : Run) (before now : List (List ℕ)) → HasAsked files run before now → HasCounted files run before now 0
  none_counted (ends made) x y asked = (asked, omega arith)
  none_counted (says text next) x y asked = none_counted next x y asked
  none_counted (counts least most next) x y asked = (0, none_counted next x y asked, omega arith)
  none_counted (reads longer name limit after) x y asked = inl (asked, refl)
  none_counted (may_read name limit after) x y asked = inl (asked, refl)
  none_counted (parses what bytes after) x y asked = inl (asked, refl)
  none_counted (may_parse bytes after) x y asked = inl (asked, refl)
  none_counted (explains bytes after) x y asked = inl (asked, refl)

  -- What a run may have counted is no more than each of its outcomes says.
  pub counted_at_most : (run : Run) → AreTold files run → (before now all : List (List ℕ)) (steps : ℕ) (o : RunOutcome)
      → HasCounted files run before now steps → HasOutcome files run before all o → steps ≤ o.most
  counted_at_most (ends made) told x y z steps o counted d = let same = ap (λ (q : RunOutcome). q.most) d.0 in omega (arith, same, counted.1)
  counted_at_most (says text next) told x y z steps o counted (p, d, made) =
      let same = ap (λ (q : RunOutcome). q.most) made in
      let rest = counted_at_most next told x y z steps p counted d in
      omega (arith, same, rest)
  counted_at_most (counts least most next) told x y z steps o (more, counted, few) (p, d, made) =
      let same = ap (λ (q : RunOutcome). q.most) made in
      let rest = counted_at_most next told x y z more p counted d in
      omega (arith, same, few, rest)
  counted_at_most (reads longer name limit after) told x y z steps o (inl none) d = let n = none.1 in omega (arith, n)
  counted_at_most (reads longer name limit after) told x y z steps o (inr (inl counted)) (inl d) =
      let same = ap (λ (q : RunOutcome). q.most) d.1 in omega (arith, same, counted.2)
  counted_at_most (reads longer name limit after) told x y z steps o (inr (inl counted)) (inr (bytes, is, d)) =
      absurd (not_both (files name) limit bytes told.0 counted.0 is.0 is.1)
  counted_at_most (reads longer name limit after) told x y z steps o (inr (inr (bytes, is, counted))) (inl d) =
      absurd (not_both (files name) limit bytes told.0 d.0 is.0 is.1)
  counted_at_most (reads longer name limit after) told x y z steps o (inr (inr (bytes, is, counted))) (inr (others, are, d)) =
      counted_at_most (after bytes) (told.1 bytes is) (x ++ name ∷ []) y z steps o counted
      (subst (λ b. HasOutcome files (after b) (x ++ name ∷ []) z o) (one_content (files name) others bytes told.0 are.0 is.0) d)
  counted_at_most (may_read name limit after) told x y z steps o (inl none) d = let n = none.1 in omega (arith, n)
  counted_at_most (may_read name limit after) told x y z steps o (inr (got, is, counted)) (other, are, d) =
      counted_at_most (after got) (told.1 got is) (x ++ name ∷ []) y z steps o counted
      (subst (λ g. HasOutcome files (after g) (x ++ name ∷ []) z o) (one_read files name limit other got told.0 are is) d)
  counted_at_most (parses what bytes after) told x y z steps o (inl none) d = let n = none.1 in omega (arith, n)
  counted_at_most (parses what bytes after) told x y z steps o (inr (t, spells, counted)) (inl (s, also, d)) =
      counted_at_most (after t) (told t spells) x y z steps o counted
      (subst (λ u. HasOutcome files (after u) x z o) (one_tree all_rules bytes s t also spells) d)
  counted_at_most (parses what bytes after) told x y z steps o (inr (t, spells, counted)) (inr (kind, at, none, place, cause, made, same)) =
      absurd (none (t, spells))
  counted_at_most (may_parse bytes after) told x y z steps o (inl none) d = let n = none.1 in omega (arith, n)
  counted_at_most (may_parse bytes after) told x y z steps o (inr (inl (t, spells, counted))) (inl (s, also, d)) =
      counted_at_most (after (Some t)) (told.0 t spells) x y z steps o counted
      (subst (λ u. HasOutcome files (after (Some u)) x z o) (one_tree all_rules bytes s t also spells) d)
  counted_at_most (may_parse bytes after) told x y z steps o (inr (inl (t, spells, counted))) (inr (none, d)) = absurd (none (t, spells))
  counted_at_most (may_parse bytes after) told x y z steps o (inr (inr (none, counted))) (inl (s, also, d)) = absurd (none (s, also))
  counted_at_most (may_parse bytes after) told x y z steps o (inr (inr (none, counted))) (inr (neither, d)) =
      counted_at_most (after None) (told.1 none) x y z steps o counted d
  counted_at_most (explains bytes after) told x y z steps o (inl none) d = let n = none.1 in omega (arith, n)
  counted_at_most (explains bytes after) told x y z steps o (inr (parsed, is, counted)) (other, also, d) =
      counted_at_most (after parsed) (told parsed is) x y z steps o counted
      (subst (λ r. HasOutcome files (after r) x z o) (one_parsed bytes other parsed also is) d)

  -- A run with an outcome may have counted what that says at most.
  pub outcome_counted : (run : Run) (before all : List (List ℕ)) (o : RunOutcome) → HasOutcome files run before all o → HasCounted files run before all o.most
  outcome_counted (ends made) x y o d = let same = ap (λ (q : RunOutcome). q.most) d.0 in (d.1, omega (arith, same))
  outcome_counted (says text next) x y o (p, d, made) =
      subst (λ (n : ℕ). HasCounted files next x y n) (sym (ap (λ (q : RunOutcome). q.most) made)) (outcome_counted next x y p d)
  outcome_counted (counts least most next) x y o (p, d, made) =
      let same = ap (λ (q : RunOutcome). q.most) made in (p.most, outcome_counted next x y p d, omega (arith, same))
  outcome_counted (reads longer name limit after) x y o (inl d) =
      let same = ap (λ (q : RunOutcome). q.most) d.1 in inr (inl (d.0, d.2, omega (arith, same)))
  outcome_counted (reads longer name limit after) x y o (inr (bytes, is, d)) = inr (inr (bytes, is, outcome_counted (after bytes) (x ++ name ∷ []) y o d))
  outcome_counted (may_read name limit after) x y o (got, is, d) = inr (got, is, outcome_counted (after got) (x ++ name ∷ []) y o d)
  outcome_counted (parses what bytes after) x y o (inl (t, spells, d)) = inr (t, spells, outcome_counted (after t) x y o d)
  outcome_counted (parses what bytes after) x y o (inr (kind, at, none, place, cause, made, same)) =
      inl (inl same, ap (λ (q : RunOutcome). q.most) made)
  outcome_counted (may_parse bytes after) x y o (inl (t, spells, d)) = inr (inl (t, spells, outcome_counted (after (Some t)) x y o d))
  outcome_counted (may_parse bytes after) x y o (inr (none, d)) = inr (inr (none, outcome_counted (after None) x y o d))
  outcome_counted (explains bytes after) x y o (parsed, is, d) = inr (parsed, is, outcome_counted (after parsed) x y o d)

  -- ---- the steps that rose

  -- none did
  pub no_steps : (run : Run) (before now : List (List ℕ)) (old new : ℕ) → HasAsked files run before now → new ≤ old → StepsAreDue files run before now old new
  no_steps run before now old new asked few = (0, none_counted run before now asked, omega (arith, few))

  -- as an outcome says
  pub outcome_steps : (run : Run) (before all : List (List ℕ)) (o : RunOutcome) (old new : ℕ) → HasOutcome files run before all o
      → RoseBetween old new o.least o.most → StepsAreDue files run before all old new
  outcome_steps run before all o old new d rose = (o.most, outcome_counted run before all o d, rose.1)

  -- They rose by no more than an outcome says.
  pub steps_front : (run : Run) (before now : List (List ℕ)) (old new : ℕ) → StepsAreDue files run before now old new
      → (all : List (List ℕ)) (o : RunOutcome) → AreTold files run → HasOutcome files run before all o → new ≤ old + o.most
  steps_front run before now old new (most, counted, few) all o told d =
      let within = counted_at_most run told before now all most o counted d in omega (arith, few, within)

-- what rose between, and then between
pub rose_on : (a b c least most least_next most_next : ℕ) → RoseBetween a b least most → RoseBetween b c least_next most_next
    → RoseBetween a c (least + least_next) (most + most_next)
rose_on a b c least most least_next most_next first next =
    (omega (arith, first.0, next.0), omega (arith, first.1, next.1))
