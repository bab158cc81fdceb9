-- The runs of scripts: how they come to a script. And how a run that was opened keeps what is promised.
use Rattle.std.proofs.Common.{◌≡◌, ◌∙◌, ℕ, List, [], length, refl, sym, subst, inl, inr}
use Rattle.std.proofs.Math.Seq.{take-length}
use Rattle.std.specs.Prelude.{Option, None, Bool, ◌⊎◌}
use Rattle.edit_session.specs.Opening.{Fault, tiles_fault}
use Rattle.edit_session.specs.SessionState.{SessionState, opened}
use Rattle.outside_io.specs.Writing.{Gains, GainsPrefix}
use Rattle.outside_io.specs.WritingLaws.{front_of_nothing, gains_nothing}
use Rattle.program_runs.specs.Ending.{status_of}
use Rattle.program_runs.specs.FailedReads.{NoneFailed}
use Rattle.program_runs.specs.Outcome.{RunOutcome}
use Rattle.program_runs.specs.Progress.{ComesTo, HaltsAt, GoesOn, Halts, IsBegun, IsCut, IsWritten, stretch_outcome}
use Rattle.program_runs.specs.Runs.{Run, HasOutcome, HasSaid, AreTold, IsFileless}
use Rattle.program_runs.specs.Written.{OutTextIsDue, RoseBetween, StepsAreDue}
use Rattle.program_runs.specs.declared.halt.WriteStop.TheVariants as write
use Rattle.program_runs.specs.declared.status.Ending.{Ending}
use Rattle.program_runs.specs.declared.status.Status.{Status}
use Rattle.program_runs.specs.declared.status.Status.TheVariants as status
use Rattle.program_runs.specs.declared.halt.RunHalt.{RunHalt}
use Rattle.program_runs.proofs.Asked.{none_asked}
use Rattle.program_runs.proofs.Going.{leads_on, halts_on}
use Rattle.program_runs.proofs.Saying.{said_is_prefix}
use Rattle.style_layout.specs.Shown.{SourceTile}
use Rattle.style_program.specs.EvalRun.{opened_or_refused}
use Rattle.style_program.specs.Promises.{KeepsPromises, outside}
use Rattle.style_program.specs.ReplayRun.{Answered, scripted_run, script_part, edited_run}
use Rattle.style_program.specs.ShownRun.{LoadedStyle, load_part}
use Rattle.style_program.specs.Words.{ScriptWords}
use Rattle.style_program.proofs.Kept.{written, lacks_memory, cut_short}

module _ (files : List ℕ → Option (List ℕ)) (limit : ℕ) (w : ScriptWords) (images : List ℕ → Bool) (answered : Answered) (shown : LoadedStyle) (asked_old asked_mid : List (List ℕ)) (goes : GoesOn files (load_part w.shown) asked_old asked_mid shown) where
  abbrev behind_shown : LoadedStyle → Run
  behind_shown s = script_part w.script (edited_run limit w images answered s)

  module _ (then_files : List ℕ → Option (List ℕ)) (same : then_files ≡ files) where
    -- once the script was read
    pub script_read : (asked_new : List (List ℕ)) (script : List ℕ) → GoesOn then_files (script_part w.script) asked_mid asked_new script
        → ComesTo files (scripted_run limit w images answered) (edited_run limit w images answered shown script) asked_old asked_new
    script_read asked_new script read =
        let next : ComesTo files (behind_shown shown) (edited_run limit w images answered shown script) asked_mid asked_new =
        (subst (λ f. ComesTo f (behind_shown shown) (edited_run limit w images answered shown script) asked_mid asked_new) same (read (edited_run limit w images answered shown))) in
        leads_on files (scripted_run limit w images answered) (behind_shown shown) (edited_run limit w images answered shown script) asked_old asked_mid asked_new (goes behind_shown) next

    -- and the style was opened, which the code has by other names
    pub script_comes : (asked_new : List (List ℕ)) (script : List ℕ) → GoesOn then_files (script_part w.script) asked_mid asked_new script
        → (p : SessionState) (tiles : List SourceTile) → None ≡ tiles_fault limit shown.0 shown.1 w.shown.zoom → p ≡ opened limit shown.0 w.shown.zoom images → tiles ≡ shown.1
        → ComesTo files (scripted_run limit w images answered) (answered tiles p script) asked_old asked_new
    script_comes asked_new script read p tiles none first over =
        subst (λ (ts : List SourceTile). ComesTo files (scripted_run limit w images answered) (answered ts p script) asked_old asked_new) (sym over)
        (subst (λ (q : SessionState). ComesTo files (scripted_run limit w images answered) (answered shown.1 q script) asked_old asked_new) (sym first)
        (subst (λ (f : Option Fault). ComesTo files (scripted_run limit w images answered) (opened_or_refused f (answered shown.1 (opened limit shown.0 w.shown.zoom images) script)) asked_old asked_new)
        (sym none) (script_read asked_new script read)))

    pub script_halts : (old mid new : ℕ) (failed_old failed_mid failed_new : Option (List ℕ)) (asked_new : List (List ℕ)) (h : RunHalt) → NoneFailed old mid failed_old failed_mid
        → Halts then_files (script_part w.script) mid new failed_mid failed_new asked_mid asked_new h
        → HaltsAt files (scripted_run limit w images answered) old new failed_old failed_new asked_old asked_new h
    script_halts old mid new failed_old failed_mid failed_new asked_new h before halts =
        halts_on files (scripted_run limit w images answered) (behind_shown shown) old mid new failed_old failed_mid failed_new asked_old asked_mid asked_new h (goes behind_shown) before
        (subst (λ f. HaltsAt f (behind_shown shown) mid new failed_mid failed_new asked_mid asked_new h) same (halts (edited_run limit w images answered shown)))

    -- the style could not be opened
    pub opening_halts : (old mid new : ℕ) (failed_old failed_mid failed_new : Option (List ℕ)) (asked_new : List (List ℕ)) (script : List ℕ) (h : RunHalt)
        → NoneFailed old mid failed_old failed_mid → NoneFailed mid new failed_mid failed_new → GoesOn then_files (script_part w.script) asked_mid asked_new script
        → HaltsAt files (edited_run limit w images answered shown script) new new failed_new failed_new asked_new asked_new h
        → HaltsAt files (scripted_run limit w images answered) old new failed_old failed_new asked_old asked_new h
    opening_halts old mid new failed_old failed_mid failed_new asked_new script h before after read halts =
        halts_on files (scripted_run limit w images answered) (edited_run limit w images answered shown script) old new new failed_old failed_new failed_new asked_old asked_new asked_new h
        (script_read asked_new script read) (after.0 ∙ before.0, after.1 ∙ before.1) halts

-- A run that comes to the rest of it, of which some was written.
module _ (files : List ℕ → Option (List ℕ)) (run rest : Run) (asked_old asked_new : List (List ℕ)) (comes : ComesTo files run rest asked_old asked_new) where
  said_too : (text : List ℕ) → (text ≡ []) ⊎ HasSaid files rest asked_new asked_new text → (text ≡ []) ⊎ HasSaid files run asked_old asked_new text
  said_too text (inl none) = inl none
  said_too text (inr said) = inr (comes.says asked_new text said)

  begun_is_prefix : (a b : Option (List ℕ)) → IsBegun files rest asked_new a b
      → (all : List (List ℕ)) (o : RunOutcome) → AreTold files run → HasOutcome files run asked_old all o → GainsPrefix a b o.out
  begun_is_prefix a b (text, gains, said) = said_is_prefix files run asked_old asked_new text a b gains (said_too text said)

  text_is_due : OutTextIsDue files rest asked_new asked_new → OutTextIsDue files run asked_old asked_new
  text_is_due (text, said, some) = (text, comes.says asked_new text said, some)

  steps_are_due : (old new : ℕ) → StepsAreDue files rest asked_new asked_new old new → StepsAreDue files run asked_old asked_new old new
  steps_are_due old new (most, counted, few) = (most, comes.counts asked_new most counted, few)

  -- What is promised, by how the rest ended. No step was counted before it.
  module _ (FilesStay : Type 0) (fileless : IsFileless run → FilesStay) (reads₀ reads₁ : ℕ) (unread₀ unread₁ out₀ out₁ err : Option (List ℕ)) (outs₀ outs₁ errs : ℕ)
      (steps₀ mid steps₁ : ℕ) (still : mid ≡ steps₀) (none : NoneFailed reads₀ reads₁ unread₀ unread₁) where
    abbrev Keeps : Status → Type 0
    Keeps answer =
        KeepsPromises files run answer (outside reads₀ unread₀ asked_old out₀ outs₀ err errs steps₀)
        (outside reads₁ unread₁ asked_new out₁ outs₁ err errs steps₁) FilesStay

    pub all_answered : (ending : Ending) (answer : Status) → IsWritten files rest asked_new out₀ out₁ mid steps₁ ending → outs₁ ≡ outs₀ → answer ≡ status_of ending → Keeps answer
    all_answered ending answer (s, made, gains, rose) same is =
        written files run FilesStay fileless reads₀ reads₁ asked_old asked_new unread₀ unread₁ out₀ out₁ err err outs₀ outs₁ errs errs steps₀ steps₁
        (stretch_outcome s ending) (comes.outcomes asked_new (stretch_outcome s ending) made) none
        (length s.text, subst (λ (t : List ℕ). Gains out₀ out₁ t) (sym (take-length s.text)) gains) (front_of_nothing err [])
        (subst (λ (n : ℕ). RoseBetween n steps₁ s.least s.most) still rose)
        (gains, gains_nothing err) (same, refl) answer is

    due_now : StepsAreDue files rest asked_new asked_new mid steps₁ → StepsAreDue files run asked_old asked_new steps₀ steps₁
    due_now due = subst (λ (n : ℕ). StepsAreDue files run asked_old asked_new n steps₁) still (steps_are_due mid steps₁ due)

    pub memory_lacked : IsCut files rest asked_new out₀ out₁ mid steps₁ outs₀ outs₁ write.NoMemory → Keeps status.NoMemory
    memory_lacked (begun, due, same) =
        lacks_memory files run FilesStay fileless reads₀ reads₁ asked_old asked_new unread₀ unread₁ steps₀ steps₁ (due_now due) out₀ out₁ err outs₀ outs₁ errs
        none (comes.reads asked_new (none_asked files rest asked_new)) (begun_is_prefix out₀ out₁ begun) same

    pub write_failed : IsCut files rest asked_new out₀ out₁ mid steps₁ outs₀ outs₁ write.Unwritten → Keeps status.WriteFault
    write_failed (begun, steps, due, counted) =
        cut_short files run FilesStay fileless reads₀ reads₁ asked_old asked_new unread₀ unread₁ steps₀ steps₁ (due_now steps) out₀ out₁ err outs₀ outs₁ errs
        none (comes.reads asked_new (none_asked files rest asked_new)) (begun_is_prefix out₀ out₁ begun) (text_is_due due) counted
