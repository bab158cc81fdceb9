-- From the answer to a line to the run of the lines from it on.
use Rattle.std.proofs.Common.{◌≡◌, ℕ, ◌+◌, ◌≤◌, List, ◌∷◌, ◌++◌, Bool, ◌||◌, refl, subst, sym, inl, inr, arith}
use Rattle.std.specs.Prelude.{true, Option, Result, Ok, Err, IfOk}
use Rattle.edit_script.specs.Edit.{Edit}
use Rattle.edit_script.specs.Line.{AnswersLine}
use Rattle.edit_script.specs.declared.command.LineFault.{LineFault}
use Rattle.edit_session.specs.Applied.{Reply, applied, least_steps, most_steps}
use Rattle.edit_session.specs.SessionState.{SessionState}
use Rattle.program_runs.specs.Progress.{Stretch, Writes, after_stretch}
use Rattle.program_runs.specs.Runs.{Run, says, counts, after_text}
use Rattle.program_runs.specs.Written.{RoseBetween, StepsAreDue}
use Rattle.program_runs.proofs.Asked.{none_asked}
use Rattle.program_runs.proofs.Counting.{no_steps}
use Rattle.program_runs.proofs.MayParse.{counted_given, counts_due, outcome_given, said_given}
use Rattle.script_runs.specs.AnswerTexts.{fault_name, refused_line, reply_text, is_refused}
use Rattle.script_runs.specs.LineAnswers.{LineGives, StepsAreOfLine, line_seen}
use Rattle.script_runs.specs.ScriptRun.{LineOut, line_command, line_least, line_most, line_out, lines_run, replied}
use Rattle.script_runs.specs.declared.script.LineAnswer.{LineAnswer}
use Rattle.style_layout.specs.Shown.{SourceTile}

-- A run writes a text, once the steps rose as its evaluations count, and comes to the rest of it.
abbrev pub WritesOnce : (steps_old steps_new : ℕ) → Run → (text : List ℕ) → (rest : Run) → Type 0
WritesOnce steps_old steps_new run text rest =
    (least : ℕ) × (most : ℕ) × Writes run (record { text = text; least = least; most = most }) rest × RoseBetween steps_old steps_new least most

-- the steps of a line that is a command
pub command_steps : (tiles : List SourceTile) (scripts : List ℕ → Bool) (steps_old steps_new : ℕ) (p : SessionState) (line : List ℕ)
    (read : Result Edit LineFault) (edit : Edit) → AnswersLine line read → read ≡ Ok edit
    → steps_new ≤ steps_old + most_steps tiles scripts p edit → StepsAreOfLine tiles scripts steps_old steps_new p line
command_steps tiles scripts steps_old steps_new p line read edit answers is few =
    inr (read, answers, subst (λ (r : Result Edit LineFault). steps_new ≤ steps_old + line_most tiles scripts p r) (sym is) few)

module _ (tiles : List SourceTile) (scripts : List ℕ → Bool) (steps_old steps_new : ℕ) (can_change : Bool) (number : ℕ) (p : SessionState) where
  abbrev Gives : List ℕ → LineOut → Type 0
  Gives line out = LineGives tiles scripts steps_old steps_new can_change number p line out

  -- ---- what a line gives

  pub gives_reply : (line : List ℕ) (read : Result Edit LineFault) (edit : Edit) (after : SessionState) (reply : Reply) (text : List ℕ) (refused : Bool)
      → AnswersLine line read → read ≡ Ok edit → (after, reply) ≡ applied tiles scripts can_change p edit → text ≡ reply_text number reply → refused ≡ is_refused reply
      → RoseBetween steps_old steps_new (least_steps tiles scripts p edit) (most_steps tiles scripts p edit)
      → Gives line (record { after = after; text = text; is_refused = refused })
  gives_reply line read edit after reply text refused answers is applies written says_so rose =
      let here : line_out tiles scripts can_change number p (Ok edit) ≡ record { after = after; text = reply_text number reply; is_refused = is_refused reply } =
      (λ j. replied number (sym applies j)) in
      let out : LineOut = record { after = after; text = text; is_refused = refused } in
      let there : out ≡ record { after = after; text = reply_text number reply; is_refused = is_refused reply } =
      (λ j. record { after = after; text = written j; is_refused = says_so j }) in (
        read,
        answers,
        subst (λ (r : Result Edit LineFault). out ≡ line_out tiles scripts can_change number p r) (sym is)
            (subst (λ (l : LineOut). out ≡ l) (sym here) there),
        subst (λ (r : Result Edit LineFault). RoseBetween steps_old steps_new (line_least tiles scripts p r) (line_most tiles scripts p r)) (sym is) rose,
      )

  pub reply_given : {E : Type 0} (line : List ℕ) (read : Result Edit LineFault) (edit : Edit) (after : SessionState) (reply : Reply) (r : Result LineAnswer E)
      → AnswersLine line read → read ≡ Ok edit → (after, reply) ≡ applied tiles scripts can_change p edit
      → RoseBetween steps_old steps_new (least_steps tiles scripts p edit) (most_steps tiles scripts p edit)
      → IfOk r (λ a. a.text.items ≡ reply_text number reply) → IfOk r (λ a. a.is_refused ≡ is_refused reply)
      → IfOk r (λ a. Gives line (line_seen after a))
  reply_given line read edit after reply (Ok a) answers is applies rose written says_so =
      gives_reply line read edit after reply a.text.items a.is_refused answers is applies written says_so rose
  reply_given line read edit after reply (Err lacks) answers is applies rose written says_so = tt

  pub fault_given : {E : Type 0} (line : List ℕ) (read : Result Edit LineFault) (fault : LineFault) (r : Result LineAnswer E)
      → AnswersLine line read → read ≡ Err fault → steps_new ≡ steps_old
      → IfOk r (λ a. a.text.items ≡ refused_line number (fault_name fault)) → IfOk r (λ a. a.is_refused ≡ true)
      → IfOk r (λ a. Gives line (line_seen p a))
  fault_given line read fault (Ok a) answers is still written says_so =
      let there : line_seen p a ≡ line_out tiles scripts can_change number p (Err fault) =
      (λ j. record { after = p; text = written j; is_refused = says_so j }) in (
        read,
        answers,
        subst (λ (r : Result Edit LineFault). line_seen p a ≡ line_out tiles scripts can_change number p r) (sym is) there,
        subst (λ (r : Result Edit LineFault). RoseBetween steps_old steps_new (line_least tiles scripts p r) (line_most tiles scripts p r)) (sym is)
            (omega (arith, still), omega (arith, still)),
      )
  fault_given line read fault (Err lacks) answers is still written says_so = tt

  -- ---- the run of the line and those after it

  module _ (any : Bool) (lines : List (List ℕ)) where
    abbrev out_of : Result Edit LineFault → LineOut
    out_of read = line_out tiles scripts can_change number p read

    -- the run after a line
    abbrev pub next_run : LineOut → Run
    next_run l = lines_run tiles scripts can_change (number + 1) l.after (any || l.is_refused) lines

    -- the run from what the line says on
    abbrev read_run : Result Edit LineFault → Run
    read_run read =
        counts (line_least tiles scripts p read) (line_most tiles scripts p read) (says (out_of read).text (next_run (out_of read)))

    abbrev this_run : List ℕ → Run
    this_run line = lines_run tiles scripts can_change number p any (line ∷ lines)

    read_writes : (line : List ℕ) (read : Result Edit LineFault) → AnswersLine line read
        → RoseBetween steps_old steps_new (line_least tiles scripts p read) (line_most tiles scripts p read)
        → WritesOnce steps_old steps_new (this_run line) (out_of read).text (next_run (out_of read))
    read_writes line read answers rose =
        let s : Stretch = record { text = (out_of read).text; least = line_least tiles scripts p read; most = line_most tiles scripts p read } in (
          s.least,
          s.most,
          record {
            outcomes = λ files asked all o made. outcome_given line_command read_run files asked line read all (after_stretch s o) answers
                (after_text s.text o, (o, made, refl), refl);
            says = λ files asked now more said. said_given line_command read_run files asked line read now (s.text ++ more) answers (inr (more, said, refl));
            counts = λ files asked now more counted. counted_given line_command read_run files asked line read now (s.most + more) answers
                (more, counted, omega arith);
            begins = λ files asked front is. said_given line_command read_run files asked line read asked front answers (inl (refl, is));
          },
          rose,
        )

    pub line_writes : (line : List ℕ) (out : LineOut) → LineGives tiles scripts steps_old steps_new can_change number p line out
        → WritesOnce steps_old steps_new (this_run line) out.text (next_run out)
    line_writes line out (read, answers, is, rose) =
        subst (λ (l : LineOut). WritesOnce steps_old steps_new (this_run line) l.text (next_run l)) (sym is) (read_writes line read answers rose)

    -- The steps of a line that was not answered are due.
    pub line_due : (line : List ℕ) (files : List ℕ → Option (List ℕ)) (asked : List (List ℕ)) → StepsAreOfLine tiles scripts steps_old steps_new p line
        → StepsAreDue files (this_run line) asked asked steps_old steps_new
    line_due line files asked (inl few) = no_steps files (this_run line) asked asked steps_old steps_new (none_asked files (this_run line) asked) few
    line_due line files asked (inr (read, answers, few)) =
        let due = counts_due files asked (line_least tiles scripts p read) (line_most tiles scripts p read) (says (out_of read).text (next_run (out_of read)))
        steps_old steps_new few in
        (due.0, counted_given line_command read_run files asked line read asked due.0 answers due.1, due.2)

-- The run of the lines that a script has, where the code has their tiles, its test of images and its lines by other names.
module _ (scripts : List ℕ → Bool) (own tiles : List SourceTile) (same : own ≡ tiles) (steps_old steps_new : ℕ) (number : ℕ) (p : SessionState) (any : Bool)
    (line : List ℕ) (lines rest : List (List ℕ)) (cut : lines ≡ line ∷ rest) where
  pub writes_line : (changes can_change : Bool) → changes ≡ can_change → (after : SessionState) (text : List ℕ) (refused later : Bool) → (any || refused) ≡ later
      → LineGives own scripts steps_old steps_new changes number p line (record { after = after; text = text; is_refused = refused })
      → WritesOnce steps_old steps_new (lines_run tiles scripts can_change number p any lines) text (lines_run tiles scripts can_change (number + 1) after later rest)
  writes_line changes can_change alike after text refused later any_is gives =
      let out : LineOut = record { after = after; text = text; is_refused = refused } in
      subst (λ (ls : List (List ℕ)). WritesOnce steps_old steps_new (lines_run tiles scripts can_change number p any ls) text (lines_run tiles scripts can_change (number + 1) after later rest)) (sym cut)
      (subst (λ (b : Bool). WritesOnce steps_old steps_new (lines_run tiles scripts can_change number p any (line ∷ rest)) text (lines_run tiles scripts can_change (number + 1) after b rest)) any_is
      (line_writes tiles scripts steps_old steps_new can_change number p any rest line out
      (subst (λ (b : Bool). LineGives tiles scripts steps_old steps_new b number p line out) alike
      (subst (λ (ts : List SourceTile). LineGives ts scripts steps_old steps_new changes number p line out) same gives))))

  pub due_of_line : (can_change : Bool) (files : List ℕ → Option (List ℕ)) (asked : List (List ℕ)) → StepsAreOfLine own scripts steps_old steps_new p line
      → StepsAreDue files (lines_run tiles scripts can_change number p any lines) asked asked steps_old steps_new
  due_of_line can_change files asked steps =
      subst (λ (ls : List (List ℕ)). StepsAreDue files (lines_run tiles scripts can_change number p any ls) asked asked steps_old steps_new) (sym cut)
      (line_due tiles scripts steps_old steps_new can_change number p any rest line files asked
      (subst (λ (ts : List SourceTile). StepsAreOfLine ts scripts steps_old steps_new p line) same steps))
