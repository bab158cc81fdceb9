-- How each end of a run keeps what is promised.
use Rattle.std.proofs.Common.{◌≡◌, ℕ, ◌<◌, List, [], length, refl, sym, ap, ◌∙◌, inl, inr, arith}
use Rattle.std.specs.Prelude.{Option, Some, None, ◌⊎◌}
use Rattle.std.proofs.lemmas.List.{append-nil}
use Rattle.outside_io.specs.Counts.{raised, Still}
use Rattle.outside_io.specs.Writing.{Gains, GainsPrefix}
use Rattle.program_runs.specs.declared.status.Ending.{Ending}
use Rattle.program_runs.specs.declared.status.Ending.TheVariants as endings
use Rattle.program_runs.specs.declared.status.Status.{Status}
use Rattle.program_runs.specs.declared.status.Status.TheVariants.{Fine, Found, Usage, Refused, NoMemory, ReadFault, WriteFault}
use Rattle.program_runs.specs.Ending.{status_of}
use Rattle.program_runs.specs.FailedReads.{NoneFailed, ReadFails}
use Rattle.program_runs.specs.Outcome.{RunOutcome}
use Rattle.program_runs.specs.Runs.{Run, HasOutcome, HasAsked, AreTold, IsFileless}
use Rattle.program_runs.specs.Written.{EndsUnread, OutTextIsDue, RoseBetween, StepsAreDue, StepsFront, unread_line}
use Rattle.program_runs.proofs.Asked.{all_asked}
use Rattle.program_runs.proofs.Counting.{outcome_steps, steps_front}
use Rattle.program_runs.proofs.Fronts.{front}
use Rattle.program_runs.proofs.Saying.{outcome_said}
use Rattle.style_program.specs.Promises.{outside, KeepsPromises}

-- an ending is no fault of the outside
never_a_read_fault : (e : Ending) → status_of e ≡ ReadFault → ⊥
never_a_read_fault endings.Fine h = cc
never_a_read_fault endings.Found h = cc
never_a_read_fault endings.Usage h = cc
never_a_read_fault endings.Refused h = cc

never_a_write_fault : (e : Ending) → status_of e ≡ WriteFault → ⊥
never_a_write_fault endings.Fine h = cc
never_a_write_fault endings.Found h = cc
never_a_write_fault endings.Usage h = cc
never_a_write_fault endings.Refused h = cc

-- a count that rose is not still
rose : (old new : ℕ) → new ≡ raised old → Still old new → ⊥
rose old new h still = omega (arith, h, still)

gains_nothing : (held : Option (List ℕ)) → Gains held held []
gains_nothing None = refl
gains_nothing (Some bytes) = ap Some (sym (append-nil bytes))

nothing_taken : (held : Option (List ℕ)) (text : List ℕ) → GainsPrefix held held text
nothing_taken held text = (0, gains_nothing held)

module _ (files : List ℕ → Option (List ℕ)) (run : Run) (FilesStay : Type 0) (fileless : IsFileless run → FilesStay)
    (reads₀ reads₁ : ℕ) (asked₀ asked₁ : List (List ℕ)) (unread₀ unread₁ out₀ out₁ err₀ err₁ : Option (List ℕ)) (outs₀ outs₁ errs₀ errs₁ steps₀ steps₁ : ℕ) where
  abbrev Keeps : Status → Type 0
  Keeps status =
      KeepsPromises files run status (outside reads₀ unread₀ asked₀ out₀ outs₀ err₀ errs₀ steps₀)
      (outside reads₁ unread₁ asked₁ out₁ outs₁ err₁ errs₁ steps₁) FilesStay

  module _ (made : RunOutcome) (defined : HasOutcome files run asked₀ asked₁ made) (none : NoneFailed reads₀ reads₁ unread₀ unread₁)
      (out : GainsPrefix out₀ out₁ made.out) (err : GainsPrefix err₀ err₁ made.err) (counted : RoseBetween steps₀ steps₁ made.least made.most) where
    due : StepsAreDue files run asked₀ asked₁ steps₀ steps₁
    due = outcome_steps files run asked₀ asked₁ made steps₀ steps₁ defined counted

    -- both texts were written
    pub written : Gains out₀ out₁ made.out × Gains err₀ err₁ made.err → (outs₁ ≡ outs₀) × (errs₁ ≡ errs₀)
        → (status : Status) → status ≡ status_of made.ending → Keeps status
    written whole same status is = record {
      exact = λ _ _ _ _. record { outcome = made; defined = defined; status = is; out = whole.0; err = whole.1; steps = counted };
      completes = λ _ _ _. record { outcome = made; defined = defined; status = is; out = whole.0; err = whole.1; steps = counted };
      out_front = record { front = front files run asked₀ asked₁ made out₀ out₁ (λ o. o.out) defined out };
      err_front = record { front = inl (front files run asked₀ asked₁ made err₀ err₁ (λ o. o.err) defined err) };
      read_fault = λ fault. absurd (never_a_read_fault made.ending (sym is ∙ fault));
      write_fault = λ fault. absurd (never_a_write_fault made.ending (sym is ∙ fault));
      reads = inl none;
      writes = λ _. same;
      names = all_asked files run asked₀ asked₁ made defined;
      steps = due;
      steps_front = record { front = steps_front files run asked₀ asked₁ steps₀ steps₁ due };
      fileless = fileless;
    }

    -- a write failed
    pub not_written :
        (((0 < length made.out) × (outs₁ ≡ raised outs₀) × (errs₁ ≡ errs₀))
        ⊎ ((0 < length made.err) × (outs₁ ≡ outs₀) × (errs₁ ≡ raised errs₀)))
        → Keeps WriteFault
    not_written (inl failed) = record {
      exact = λ _ _ still _. absurd (rose outs₀ outs₁ failed.1 still);
      completes = λ _ _ other. absurd (other refl);
      out_front = record { front = front files run asked₀ asked₁ made out₀ out₁ (λ o. o.out) defined out };
      err_front = record { front = inl (front files run asked₀ asked₁ made err₀ err₁ (λ o. o.err) defined err) };
      read_fault = λ fault. absurd (cc);
      write_fault = λ _. record { cause = inl ((made.out, outcome_said files run asked₀ asked₁ made defined, failed.0), failed.1, failed.2) };
      reads = inl none;
      writes = λ other. absurd (other refl);
      names = all_asked files run asked₀ asked₁ made defined;
      steps = due;
      steps_front = record { front = steps_front files run asked₀ asked₁ steps₀ steps₁ due };
      fileless = fileless;
    }
    not_written (inr failed) = record {
      exact = λ _ _ _ still. absurd (rose errs₀ errs₁ failed.2 still);
      completes = λ _ _ other. absurd (other refl);
      out_front = record { front = front files run asked₀ asked₁ made out₀ out₁ (λ o. o.out) defined out };
      err_front = record { front = inl (front files run asked₀ asked₁ made err₀ err₁ (λ o. o.err) defined err) };
      read_fault = λ fault. absurd (cc);
      write_fault = λ _. record { cause = inr (inl (made, defined, failed.0), failed.1, failed.2) };
      reads = inl none;
      writes = λ other. absurd (other refl);
      names = all_asked files run asked₀ asked₁ made defined;
      steps = due;
      steps_front = record { front = steps_front files run asked₀ asked₁ steps₀ steps₁ due };
      fileless = fileless;
    }

module _ (files : List ℕ → Option (List ℕ)) (run : Run) (FilesStay : Type 0) (fileless : IsFileless run → FilesStay)
    (reads₀ reads₁ : ℕ) (asked₀ asked₁ : List (List ℕ)) (unread₀ unread₁ : Option (List ℕ)) (steps₀ steps₁ : ℕ) (due : StepsAreDue files run asked₀ asked₁ steps₀ steps₁) where
  few : StepsFront files run asked₀ asked₁ steps₀ steps₁
  few = record { front = steps_front files run asked₀ asked₁ steps₀ steps₁ due }

  -- out holds some of what was to be written more, and err nothing
  module _ (out₀ out₁ err : Option (List ℕ)) (outs₀ outs₁ errs : ℕ)
      (none : NoneFailed reads₀ reads₁ unread₀ unread₁) (asked : HasAsked files run asked₀ asked₁)
      (begun : (all : List (List ℕ)) (o : RunOutcome) → AreTold files run → HasOutcome files run asked₀ all o → GainsPrefix out₀ out₁ o.out) where
    -- an allocation failed
    pub lacks_memory : outs₁ ≡ outs₀
        → KeepsPromises files run NoMemory (outside reads₀ unread₀ asked₀ out₀ outs₀ err errs steps₀) (outside reads₁ unread₁ asked₁ out₁ outs₁ err errs steps₁) FilesStay
    lacks_memory same = record {
      exact = λ memory _ _ _. absurd (memory refl);
      completes = λ memory _ _. absurd (memory refl);
      out_front = record { front = begun };
      err_front = record { front = inl (λ _ o _ _. nothing_taken err o.err) };
      read_fault = λ fault. absurd (cc);
      write_fault = λ fault. absurd (cc);
      reads = inl none;
      writes = λ _. (same, refl);
      names = asked;
      steps = due;
      steps_front = few;
      fileless = fileless;
    }

    -- a write of out failed
    pub cut_short : OutTextIsDue files run asked₀ asked₁ → outs₁ ≡ raised outs₀
        → KeepsPromises files run WriteFault (outside reads₀ unread₀ asked₀ out₀ outs₀ err errs steps₀) (outside reads₁ unread₁ asked₁ out₁ outs₁ err errs steps₁) FilesStay
    cut_short text failed = record {
      exact = λ _ _ still _. absurd (rose outs₀ outs₁ failed still);
      completes = λ _ _ other. absurd (other refl);
      out_front = record { front = begun };
      err_front = record { front = inl (λ _ o _ _. nothing_taken err o.err) };
      read_fault = λ fault. absurd (cc);
      write_fault = λ _. record { cause = inl (text, failed, refl) };
      reads = inl none;
      writes = λ other. absurd (other refl);
      names = asked;
      steps = due;
      steps_front = few;
      fileless = fileless;
    }

  -- a file could not be read
  module _ (out : Option (List ℕ)) (outs : ℕ) (err₀ err₁ : Option (List ℕ)) (errs₀ errs₁ : ℕ) (name : List ℕ) (fails : ReadFails files run reads₀ reads₁ unread₁ asked₀ asked₁ name)
      (line : GainsPrefix err₀ err₁ (unread_line name)) where
    pub stops_unread : (status : Status) → EndsUnread status err₀ err₁ errs₀ errs₁ name
        → KeepsPromises files run status (outside reads₀ unread₀ asked₀ out outs err₀ errs₀ steps₀) (outside reads₁ unread₁ asked₁ out outs err₁ errs₁ steps₁) FilesStay
    stops_unread ReadFault ends = record {
      exact = λ _ still _ _. absurd (rose reads₀ reads₁ fails.counted still);
      completes = λ _ other _. absurd (other refl);
      out_front = record { front = λ _ o _ _. nothing_taken out o.out };
      err_front = record { front = inr (name, fails, line) };
      read_fault = λ _. (name, fails, gains_nothing out, ends.0);
      write_fault = λ fault. absurd (cc);
      reads = inr (fails.counted, tt);
      writes = λ _. (refl, ends.1);
      names = fails.reached;
      steps = due;
      steps_front = few;
      fileless = fileless;
    }
    stops_unread WriteFault ends = record {
      exact = λ _ still _ _. absurd (rose reads₀ reads₁ fails.counted still);
      completes = λ _ _ other. absurd (other refl);
      out_front = record { front = λ _ o _ _. nothing_taken out o.out };
      err_front = record { front = inr (name, fails, line) };
      read_fault = λ fault. absurd (cc);
      write_fault = λ _. record { cause = inr (inr (name, fails), refl, ends) };
      reads = inr (fails.counted, tt);
      writes = λ other. absurd (other refl);
      names = fails.reached;
      steps = due;
      steps_front = few;
      fileless = fileless;
    }
    stops_unread NoMemory ends = record {
      exact = λ memory _ _ _. absurd (memory refl);
      completes = λ memory _ _. absurd (memory refl);
      out_front = record { front = λ _ o _ _. nothing_taken out o.out };
      err_front = record { front = inr (name, fails, line) };
      read_fault = λ fault. absurd (cc);
      write_fault = λ fault. absurd (cc);
      reads = inr (fails.counted, tt);
      writes = λ _. (refl, ends);
      names = fails.reached;
      steps = due;
      steps_front = few;
      fileless = fileless;
    }
    stops_unread Fine ends = absurd ends
    stops_unread Found ends = absurd ends
    stops_unread Usage ends = absurd ends
    stops_unread Refused ends = absurd ends
