-- The run of lines whose answers are counted.
use Rattle.std.proofs.Common.{◌≡◌, refl, sym, subst, ℕ, ◌+◌, List, [], ◌∷◌, Bool, ◌||◌, inl, inr, length, arith}
use Rattle.std.specs.Prelude.{Option, Result, Ok, Err, IfOk}
use Rattle.edit_session.specs.SessionState.{SessionState}
use Rattle.edit_session.specs.View.{session_state, tiles_of}
use Rattle.edit_session.specs.declared.session.Session.{Session}
use Rattle.program_runs.specs.Outcome.{RunOutcome, said}
use Rattle.program_runs.specs.Progress.{outcome_of, IsAnswered}
use Rattle.program_runs.specs.Runs.{Run, counts, HasOutcome, HasCounted, after_counts}
use Rattle.program_runs.specs.Written.{RoseBetween, StepsAreDue}
use Rattle.program_runs.specs.declared.answer.RunOutput.{RunOutput}
use Rattle.program_runs.proofs.Asked.{none_asked}
use Rattle.program_runs.proofs.Counting.{no_steps, rose_on}
use Rattle.program_runs.proofs.MayParse.{counted_given, counts_due, outcome_given}
use Rattle.edit_script.specs.Edit.{Edit}
use Rattle.edit_script.specs.Line.{AnswersLine}
use Rattle.edit_script.specs.declared.command.LineFault.{LineFault}
use Rattle.script_runs.specs.LineAnswers.{LineGives, StepsAreOfLine}
use Rattle.script_runs.specs.ScriptRun.{LineOut, line_command, line_least, line_most, line_out, lines_run, ending_by}
use Rattle.style_layout.specs.Shown.{SourceTile}
use Rattle.generated_runs.specs.Counted.{counted_after, counts_line, line_count}
use Rattle.generated_runs.specs.Counting.{EndsAs, lines_left}
use Rattle.generated_runs.specs.declared.counting.Counting.{Counting}

sum_assoc : (a b c : ℕ) → (a + b) + c ≡ a + (b + c)
sum_assoc a b c = omega arith

none_sum : (a : ℕ) → 0 + a ≡ a
none_sum a = omega arith

-- ---- a run and the rest of it

-- at first
pub none_yet : (steps : ℕ) (run : Run) → EndsAs steps steps run run
none_yet steps run = (
  0,
  0,
  record {
    outcomes = λ files asked all o made. subst (λ (p : RunOutcome). HasOutcome files run asked all p)
        (λ j. record o { least = sym (none_sum o.least) j; most = sym (none_sum o.most) j }) made;
    counts = λ files asked now more counted. subst (λ (n : ℕ). HasCounted files run asked now n) (sym (none_sum more)) counted;
  },
  (omega arith, omega arith),
)

-- and then on
pub ends_on : (a b c : ℕ) (run mid rest : Run) → EndsAs a b run mid → EndsAs b c mid rest → EndsAs a c run rest
ends_on a b c run mid rest (least, most, ends, rose) (least_next, most_next, next, rises) = (
  least + least_next,
  most + most_next,
  record {
    outcomes = λ files asked all o made. subst (λ (p : RunOutcome). HasOutcome files run asked all p)
        (λ j. record o { least = sym (sum_assoc least least_next o.least) j; most = sym (sum_assoc most most_next o.most) j })
        (ends.outcomes files asked all (after_counts least_next most_next o) (next.outcomes files asked all o made));
    counts = λ files asked now more counted. subst (λ (n : ℕ). HasCounted files run asked now n) (sym (sum_assoc most most_next more))
        (ends.counts files asked now (most_next + more) (next.counts files asked now more counted));
  },
  rose_on a b c least most least_next most_next rose rises,
)

-- The steps of a run are due, where those of the rest are.
pub due_on : (a b c : ℕ) (run rest : Run) (files : List ℕ → Option (List ℕ)) (asked : List (List ℕ)) → EndsAs a b run rest
    → StepsAreDue files rest asked asked b c → StepsAreDue files run asked asked a c
due_on a b c run rest files asked (least, most, ends, rose) (more, counted, few) =
    (most + more, ends.counts files asked asked more counted, omega (arith, rose.1, few))

-- No step was made more.
pub due_so_far : (a b : ℕ) (run rest : Run) (files : List ℕ → Option (List ℕ)) (asked : List (List ℕ)) → EndsAs a b run rest
    → StepsAreDue files run asked asked a b
due_so_far a b run rest files asked ends =
    due_on a b b run rest files asked ends (no_steps files rest asked asked b b (none_asked files rest asked) (omega arith))

-- ---- the next line

-- The code has the lines that are left, and the tests, by other names.
module _ (features : ℕ) (scripts : List ℕ → Bool) (own can_change : Bool) (alike : own ≡ can_change) (has_image : List ℕ → Bool) (before : Session)
    (old : Counting) (lines : List (List ℕ)) (line shown : List ℕ) (rest : List (List ℕ)) (cut : lines ≡ line ∷ rest) (same : shown ≡ line) (a b c : ℕ) (first : Run) where
  -- the run of them
  abbrev left : Bool → List (List ℕ) → Run
  left change ls = lines_left features scripts change has_image before old ls

  this_line : (P : Run → Type 0) → P (left own (shown ∷ rest)) → P (left can_change lines)
  this_line P made =
      subst (λ (ls : List (List ℕ)). P (left can_change ls)) (sym cut)
      (subst (λ (l : List ℕ). P (left can_change (l ∷ rest))) same
      (subst (λ (change : Bool). P (left change (shown ∷ rest))) alike made))

  -- it is answered
  pub one_answered : (next_image : List ℕ → Bool) (after : Session) (new : Counting)
      → EndsAs b c (left own (shown ∷ rest)) (lines_left features scripts own next_image after new rest)
      → EndsAs a b first (left can_change lines) → EndsAs a c first (lines_left features scripts can_change next_image after new rest)
  one_answered next_image after new answers earlier =
      let there : EndsAs b c (left can_change lines) (lines_left features scripts own next_image after new rest) =
      (this_line (λ (r : Run). EndsAs b c r (lines_left features scripts own next_image after new rest)) answers) in
      subst (λ (change : Bool). EndsAs a c first (lines_left features scripts change next_image after new rest)) alike
      (ends_on a b c first (left can_change lines) (lines_left features scripts own next_image after new rest) earlier there)

  -- it was not answered
  pub one_due : (files : List ℕ → Option (List ℕ)) (asked : List (List ℕ)) → StepsAreDue files (left own (shown ∷ rest)) asked asked b c
      → EndsAs a b first (left can_change lines) → StepsAreDue files first asked asked a c
  one_due files asked due earlier =
      due_on a b c first (left can_change lines) files asked earlier
      (this_line (λ (r : Run). StepsAreDue files r asked asked b c) due)

module _ (features : ℕ) (tiles : List SourceTile) (scripts : List ℕ → Bool) (can_change : Bool) (steps_old steps_new : ℕ) where
  module _ (lines bytes number : ℕ) (p : SessionState) (any : Bool) (rest : List (List ℕ)) where
    -- the run after a line that gave this
    abbrev pub counted_next : LineOut → Run
    counted_next l =
        counted_after features (lines + line_count l.text) (bytes + length l.text)
        (lines_run tiles scripts can_change (number + 1) l.after (any || l.is_refused) rest)

    abbrev out_of : Result Edit LineFault → LineOut
    out_of read = line_out tiles scripts can_change number p read

    -- the run from what the line says on
    abbrev read_run : Result Edit LineFault → Run
    read_run read = counts (line_least tiles scripts p read) (line_most tiles scripts p read) (counted_next (out_of read))

    abbrev this_run : List ℕ → Run
    this_run line = counted_after features lines bytes (lines_run tiles scripts can_change number p any (line ∷ rest))

    read_counted : (line : List ℕ) (read : Result Edit LineFault) → AnswersLine line read
        → RoseBetween steps_old steps_new (line_least tiles scripts p read) (line_most tiles scripts p read)
        → EndsAs steps_old steps_new (this_run line) (counted_next (out_of read))
    read_counted line read answers rose =
        let least = line_least tiles scripts p read in
        let most = line_most tiles scripts p read in (
          least,
          most,
          record {
            outcomes = λ files asked all o made. outcome_given line_command read_run files asked line read all (after_counts least most o) answers (o, made, refl);
            counts = λ files asked now more counted. counted_given line_command read_run files asked line read now (most + more) answers
                (more, counted, omega arith);
          },
          rose,
        )

    pub line_counted : (line : List ℕ) (out : LineOut) → LineGives tiles scripts steps_old steps_new can_change number p line out
        → EndsAs steps_old steps_new (this_run line) (counted_next out)
    line_counted line out (read, answers, is, rose) =
        subst (λ (l : LineOut). EndsAs steps_old steps_new (this_run line) (counted_next l)) (sym is) (read_counted line read answers rose)

    -- The steps of a line that was not answered are due.
    pub line_due : (line : List ℕ) (files : List ℕ → Option (List ℕ)) (asked : List (List ℕ)) → StepsAreOfLine tiles scripts steps_old steps_new p line
        → StepsAreDue files (this_run line) asked asked steps_old steps_new
    line_due line files asked (inl few) = no_steps files (this_run line) asked asked steps_old steps_new (none_asked files (this_run line) asked) few
    line_due line files asked (inr (read, answers, few)) =
        let due = counts_due files asked (line_least tiles scripts p read) (line_most tiles scripts p read) (counted_next (out_of read)) steps_old steps_new few in
        (due.0, counted_given line_command read_run files asked line read asked due.0 answers due.1, due.2)

-- The same, with what the code has after the answer.
pub next_counted : (features : ℕ) (scripts : List ℕ → Bool) (can_change : Bool) (steps_old steps_new : ℕ) (before after : Session) (old new : Counting)
    (has_image next_image : List ℕ → Bool) (text : List ℕ) (refused : Bool) (line : List ℕ) (rest : List (List ℕ))
    → tiles_of after ≡ tiles_of before → new.number ≡ old.number + 1 → (old.any || refused) ≡ new.any
    → new.lines ≡ old.lines + line_count text → new.bytes ≡ old.bytes + length text
    → LineGives (tiles_of before) scripts steps_old steps_new can_change old.number (session_state before has_image) line
    (record { after = session_state after next_image; text = text; is_refused = refused })
    → EndsAs steps_old steps_new (lines_left features scripts can_change has_image before old (line ∷ rest))
    (lines_left features scripts can_change next_image after new rest)
next_counted features scripts can_change steps_old steps_new before after old new has_image next_image text refused line rest still next any lines bytes gives =
    let q = session_state after next_image in
    let out : LineOut = record { after = q; text = text; is_refused = refused } in
    let next_run = counted_next features (tiles_of before) scripts can_change steps_old steps_new old.lines old.bytes old.number (session_state before has_image) old.any rest out in
    let there : next_run ≡ lines_left features scripts can_change next_image after new rest =
    (λ j. counted_after features (sym lines j) (sym bytes j) (lines_run (sym still j) scripts can_change (sym next j) q (any j) rest)) in
    subst (λ (r : Run). EndsAs steps_old steps_new (lines_left features scripts can_change has_image before old (line ∷ rest)) r) there
    (line_counted features (tiles_of before) scripts can_change steps_old steps_new old.lines old.bytes old.number (session_state before has_image) old.any rest line out gives)

-- ---- the end

-- Once no line is left, the counts are those of all lines.
pub all_counted : {E : Type 0} (features : ℕ) (scripts : List ℕ → Bool) (can_change : Bool) (has_image : List ℕ → Bool) (session : Session)
    (counting : Counting) (run : Run) (steps_old steps_new : ℕ) (r : Result RunOutput E)
    → EndsAs steps_old steps_new run (lines_left features scripts can_change has_image session counting [])
    → IfOk r (λ a. outcome_of a ≡ said (counts_line features counting.lines counting.bytes) (ending_by counting.any))
    → (files : List ℕ → Option (List ℕ)) (asked : List (List ℕ)) → IfOk r (IsAnswered files run asked asked steps_old steps_new)
all_counted features scripts can_change has_image session counting run steps_old steps_new (Ok a) (least, most, ends, rose) is files asked =
    let same_lines : counting.lines ≡ counting.lines + 0 = omega arith in
    let same_bytes : counting.bytes ≡ counting.bytes + 0 = omega arith in
    let o : RunOutcome = said (counts_line features counting.lines counting.bytes) (ending_by counting.any) in
    let made : HasOutcome files run asked asked (after_counts least most o) =
    (ends.outcomes files asked asked o ((λ j. said (counts_line features (same_lines j) (same_bytes j)) (ending_by counting.any)), refl)) in
    (least, most, subst (λ (x : RunOutcome). HasOutcome files run asked asked (after_counts least most x)) (sym is) made, rose)
all_counted features scripts can_change has_image session counting run steps_old steps_new (Err e) ends is files asked = tt
