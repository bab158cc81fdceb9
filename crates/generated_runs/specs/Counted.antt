-- A run whose text is counted and not written. Source: own.
use Rattle.std.specs.Prelude.{ℕ, ◌+◌, List, [], ◌∷◌, ◌++◌, length, codes, decimal, nat_eq, if◌then◌else◌}
use Rattle.program_runs.specs.Outcome.{RunOutcome, line}
use Rattle.program_runs.specs.Runs.{Run, ends, says, counts, reads, may_read, parses, may_parse, explains}

-- how many bytes of a text are LF
abbrev pub line_count : List ℕ → ℕ
line_count [] = 0
line_count (b ∷ bs) = (if nat_eq b 10 then 1 else 0) + line_count bs

abbrev pub counts_line : (features lines bytes : ℕ) → List ℕ
counts_line features lines bytes =
    line (codes "features "
    ++ (decimal features ++ (codes " lines " ++ (decimal lines ++ (codes " bytes " ++ decimal bytes)))))

-- the counts of what is written, in the place of it; so many lines and bytes were written before
abbrev pub counted_outcome : (features lines bytes : ℕ) → RunOutcome → RunOutcome
counted_outcome features lines bytes o =
    record o { out = counts_line features (lines + line_count o.out) (bytes + length o.out) }

-- the run with the counts of all texts in the place of them, once so many lines and bytes were counted
abbrev pub counted_after : (features lines bytes : ℕ) → Run → Run
counted_after features lines bytes (ends made) = ends (counted_outcome features lines bytes made)
counted_after features lines bytes (says text next) =
    counted_after features (lines + line_count text) (bytes + length text) next
counted_after features lines bytes (counts least most next) =
    counts least most (counted_after features lines bytes next)
counted_after features lines bytes (reads longer name limit after) =
    reads longer name limit (λ content. counted_after features lines bytes (after content))
counted_after features lines bytes (may_read name limit after) =
    may_read name limit (λ content. counted_after features lines bytes (after content))
counted_after features lines bytes (parses what text after) =
    parses what text (λ t. counted_after features lines bytes (after t))
counted_after features lines bytes (may_parse text after) =
    may_parse text (λ t. counted_after features lines bytes (after t))
counted_after features lines bytes (explains text after) =
    explains text (λ parsed. counted_after features lines bytes (after parsed))

-- A run that ends as another does, with the counts of what that writes.
abbrev pub counted : ℕ → Run → Run
counted features run = counted_after features 0 0 run
