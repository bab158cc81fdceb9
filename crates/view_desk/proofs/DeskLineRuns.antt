-- From the answer to a line of a desk to the run of the lines from it on.
use Rattle.std.proofs.Common.{◌≡◌, ◌∙◌, ℕ, ◌+◌, List, ◌∷◌, ◌++◌, Bool, ◌||◌, refl, ap, subst, sym, inl, inr, arith}
use Rattle.std.specs.Prelude.{Option, Some, None, Result, Ok, Err, IfOk, OnErr, ◌⊎◌}
use Rattle.decimal_json.specs.Grammar.{Spells}
use Rattle.decimal_json.specs.Parses.{IsAccepted}
use Rattle.decimal_json.specs.Tree.{Tree}
use Rattle.edit_script.specs.declared.command.LineFault.{LineFault}
use Rattle.json_tokens.specs.Rules.{all_rules}
use Rattle.program_runs.proofs.Asked.{none_asked}
use Rattle.program_runs.proofs.Counting.{no_steps, none_counted}
use Rattle.program_runs.specs.Progress.{Stretch, Writes, after_stretch}
use Rattle.program_runs.specs.Runs.{Run, counts, says, HasOutcome, HasSaid, HasCounted, after_text}
use Rattle.program_runs.specs.Written.{StepsAreDue}
use Rattle.script_runs.proofs.LineRuns.{WritesOnce}
use Rattle.style_layout.specs.Shown.{SourceTile}
use Rattle.view_desk.specs.DeskLines.{DeskEdit, AnswersDeskLine}
use Rattle.view_desk.specs.DeskRun.{DeskOut, desk_line, desk_lines_run, desk_out, desk_replied, desk_text, is_desk_refused}
use Rattle.view_desk.specs.DeskState.{DeskReply, DeskState, desk_least, desk_most}
use Rattle.view_desk.specs.View.{desk_line_seen, DeskGives, DeskLineGives, StepsAreOfDeskLine}
use Rattle.view_desk.specs.declared.script.DeskLineAnswer.{DeskLineAnswer}

-- ---- what is written of an answer

module _ {E : Type 0} (tiles : List SourceTile) (scripts : List ℕ → Bool) (can_change : Bool) (number : ℕ) (d after : DeskState)
    (line : List ℕ) (reply : DeskReply) (steps_old steps_new : ℕ) where
  pub line_given : (r : Result DeskLineAnswer E) → DeskGives tiles scripts steps_old steps_new can_change d line (after, reply)
      → IfOk r (λ a. a.view.items ++ a.text.items ≡ desk_text number reply)
      → IfOk r (λ a. a.is_refused ≡ is_desk_refused reply)
      → IfOk r (λ a. DeskLineGives tiles scripts steps_old steps_new can_change number d line (desk_line_seen after a))
  line_given (Ok a) (read, answers, is, rose) text refused = (
    read,
    answers,
    (λ j. record { after = after; text = text j; is_refused = refused j }) ∙ ap (desk_replied number) is,
    rose,
  )
  line_given (Err lacks) given text refused = tt

  -- the steps of a line whose answer could not be written
  pub line_most : (r : Result DeskLineAnswer E) → DeskGives tiles scripts steps_old steps_new can_change d line (after, reply)
      → OnErr r (StepsAreOfDeskLine tiles scripts steps_old steps_new d line)
  line_most (Ok a) given = tt
  line_most (Err lacks) (read, answers, is, rose) = inr (read, answers, rose.1)

-- ---- the run of the line and those after it

module _ (tiles : List SourceTile) (scripts : List ℕ → Bool) (can_change : Bool) (number : ℕ) (d : DeskState) (any : Bool) (lines : List (List ℕ)) where
  -- the run after a line
  abbrev next_run : DeskOut → Run
  next_run l = desk_lines_run tiles scripts can_change (number + 1) l.after (any || l.is_refused) lines

  -- the run from a line on, by what it says and what it gives
  abbrev line_run : Result DeskEdit LineFault → DeskOut → Run
  line_run read l = counts (desk_least tiles scripts d read) (desk_most tiles scripts d read) (says l.text (next_run l))

  abbrev read_run : Result DeskEdit LineFault → Run
  read_run read = line_run read (desk_out tiles scripts can_change number d read)

  abbrev this_run : List ℕ → Run
  this_run line = desk_lines_run tiles scripts can_change number d any (line ∷ lines)

  module _ (line : List ℕ) (read : Result DeskEdit LineFault) (out : DeskOut) (is : out ≡ desk_out tiles scripts can_change number d read) where
    -- what holds of the run from what was read on holds of the run from what the line spells on
    reached : (P : Run → Type 0) → AnswersDeskLine line read → P (line_run read out)
        → ((t : Tree) × Spells all_rules line t × P (read_run (desk_line (Some t))))
        ⊎ ((IsAccepted all_rules line → ⊥) × P (read_run (desk_line None)))
    reached P (inl (t, spells, e)) holds =
        inl (
          t,
          spells,
          subst (λ (r : Result DeskEdit LineFault). P (read_run r)) e (subst (λ (l : DeskOut). P (line_run read l)) is holds),
        )
    reached P (inr (none, e)) holds =
        inr (
          none,
          subst (λ (r : Result DeskEdit LineFault). P (read_run r)) e (subst (λ (l : DeskOut). P (line_run read l)) is holds),
        )

    -- what the run writes and counts of it
    abbrev stretch : Stretch
    stretch = record { text = out.text; least = desk_least tiles scripts d read; most = desk_most tiles scripts d read }

    line_writes : AnswersDeskLine line read → Writes (this_run line) stretch (next_run out)
    line_writes answers = record {
      outcomes = λ files asked all o made. reached (λ run. HasOutcome files run asked all (after_stretch stretch o)) answers
          (after_text out.text o, (o, made, refl), refl);
      says = λ files asked now more said. reached (λ run. HasSaid files run asked now (out.text ++ more)) answers
          (inr (more, said, refl));
      counts = λ files asked now more counted. inr (reached (λ run. HasCounted files run asked now (stretch.most + more)) answers
          (more, counted, omega arith));
      begins = λ files asked front is. reached (λ run. HasSaid files run asked asked front) answers (inl (refl, is));
    }

  -- the steps of a line are due, also where it is not answered
  steps_due : (files : List ℕ → Option (List ℕ)) (asked : List (List ℕ)) (line : List ℕ) (steps_old steps_new : ℕ)
      → StepsAreOfDeskLine tiles scripts steps_old steps_new d line → StepsAreDue files (this_run line) asked asked steps_old steps_new
  steps_due files asked line steps_old steps_new (inl few) =
      no_steps files (this_run line) asked asked steps_old steps_new (none_asked files (this_run line) asked) few
  steps_due files asked line steps_old steps_new (inr (read, answers, few)) =
      let out : DeskOut = desk_out tiles scripts can_change number d read in
      let most : ℕ = desk_most tiles scripts d read in (
        most,
        inr (reached line read out refl (λ run. HasCounted files run asked asked most) answers
            (0, none_counted files (next_run out) asked asked (none_asked files (next_run out) asked), omega arith)),
        few,
      )

-- ---- where the code has the tiles, its test of images and its lines by other names

module _ (scripts : List ℕ → Bool) (own tiles : List SourceTile) (same : own ≡ tiles) (changes can_change : Bool) (alike : changes ≡ can_change)
    (number : ℕ) (d : DeskState) (any : Bool) (line : List ℕ) (lines rest : List (List ℕ)) (cut : lines ≡ line ∷ rest)
    (steps_old steps_new : ℕ) where
  -- The run of the lines that a script has.
  pub desk_line_writes : (after : DeskState) (text : List ℕ) (refused later : Bool) → (any || refused) ≡ later
      → DeskLineGives own scripts steps_old steps_new changes number d line (record { after = after; text = text; is_refused = refused })
      → WritesOnce steps_old steps_new (desk_lines_run tiles scripts can_change number d any lines) text
      (desk_lines_run tiles scripts can_change (number + 1) after later rest)
  desk_line_writes after text refused later any_is gives =
      let out : DeskOut = record { after = after; text = text; is_refused = refused } in
      let after_line : Bool → Run = λ b. desk_lines_run tiles scripts can_change (number + 1) after b rest in
      let before_line : List (List ℕ) → Run = λ ls. desk_lines_run tiles scripts can_change number d any ls in
      made out (subst (λ (b : Bool). DeskLineGives tiles scripts steps_old steps_new b number d line out) alike
      (subst (λ (ts : List SourceTile). DeskLineGives ts scripts steps_old steps_new changes number d line out) same gives))
      (after_line later) (ap after_line any_is) (before_line lines) (ap before_line cut)
    where
      made : (out : DeskOut) → DeskLineGives tiles scripts steps_old steps_new can_change number d line out
          → (next : Run) → next_run tiles scripts can_change number d any rest out ≡ next
          → (run : Run) → run ≡ this_run tiles scripts can_change number d any rest line
          → WritesOnce steps_old steps_new run out.text next
      made out (read, answers, is, rose) next next_is run run_is = (
        desk_least tiles scripts d read,
        desk_most tiles scripts d read,
        subst (λ (r : Run). Writes r (stretch tiles scripts can_change number d any rest line read out is) next) (sym run_is)
            (subst (λ (n : Run). Writes (this_run tiles scripts can_change number d any rest line) (stretch tiles scripts can_change number d any rest line read out is) n) next_is
            (line_writes tiles scripts can_change number d any rest line read out is answers)),
        rose,
      )

  -- and the steps of one that is not answered
  pub desk_steps_due : (files : List ℕ → Option (List ℕ)) (asked : List (List ℕ)) → StepsAreOfDeskLine own scripts steps_old steps_new d line
      → StepsAreDue files (desk_lines_run tiles scripts can_change number d any lines) asked asked steps_old steps_new
  desk_steps_due files asked steps =
      subst (λ (ls : List (List ℕ)). StepsAreDue files (desk_lines_run tiles scripts can_change number d any ls) asked asked steps_old steps_new) (sym cut)
      (steps_due tiles scripts can_change number d any rest files asked line steps_old steps_new
      (subst (λ (ts : List SourceTile). StepsAreOfDeskLine ts scripts steps_old steps_new d line) same steps))
