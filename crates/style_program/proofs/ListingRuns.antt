-- The run of a listing: how `eval` comes to it, and what holds of it once it is written.
use Rattle.std.proofs.Common.{◌≡◌, ℕ, ◌+◌, ◌<◌, ◌≤◌, List, ◌∷◌, length, take, drop, refl, sym, subst, inr, arith}
use Rattle.std.specs.Prelude.{Bool, None, Option, Result, Ok, Err, IfOk, OnOk}
use Rattle.std.proofs.lemmas.List.{take-append-drop}
use Rattle.edit_script.specs.Edit.{list}
use Rattle.edit_session.specs.Applied.{least_steps, listing_of, most_steps}
use Rattle.edit_session.specs.Opening.{Fault, cell_limit, tiles_fault}
use Rattle.edit_session.specs.SessionState.{SessionState, opened}
use Rattle.edit_session.specs.View.{session_state, tiles_of}
use Rattle.edit_session.specs.declared.session.Session.{Session}
use Rattle.listing_text.specs.Layout.{Layout}
use Rattle.listing_text.specs.Listing.{listing}
use Rattle.outside_io.specs.Counts.{raised}
use Rattle.outside_io.specs.Writing.{Gains, GainsPrefix}
use Rattle.program_runs.specs.Outcome.{said}
use Rattle.program_runs.specs.Progress.{ComesTo, GoesOn, IsBegun, IsCut, IsWritten, Stretch}
use Rattle.program_runs.specs.Runs.{Run, ends}
use Rattle.program_runs.specs.Written.{OutTextIsDue, StepsAreDue}
use Rattle.program_runs.specs.declared.halt.WriteStop.TheVariants.{NoMemory, Unwritten}
use Rattle.program_runs.specs.declared.status.Ending.TheVariants.{Fine}
use Rattle.program_runs.proofs.MayParse.{counts_due}
use Rattle.program_runs.proofs.Saying.{whole}
use Rattle.style_layout.specs.Shown.{SourceTile}
use Rattle.style_program.specs.EvalRun.{eval_run, listed_run, opened_or_refused, shown_at_first}
use Rattle.style_program.specs.PreparedRun.{listing_run, session_run}
use Rattle.style_program.specs.ShownRun.{LoadedStyle, load_part}
use Rattle.style_program.specs.Words.{EvalWords}
use Rattle.style_program.proofs.AnsweredSteps.{answered_rose}

-- ---- how `eval` comes to its listing

module _ (files : List ℕ → Option (List ℕ)) (w : EvalWords) (images scripts : List ℕ → Bool) (shown : LoadedStyle)
    (asked_old asked_new : List (List ℕ)) (goes : GoesOn files (load_part w) asked_old asked_new shown) where
  abbrev CameTo : Run → Type 0
  CameTo rest = ComesTo files (eval_run w images scripts) rest asked_old asked_new

  -- the style was opened, which the code has by other names
  comes_by : (p : SessionState) (tiles : List SourceTile) → None ≡ tiles_fault cell_limit shown.0 shown.1 w.zoom
      → p ≡ shown_at_first w images scripts shown → tiles ≡ shown.1 → CameTo (listing_run tiles scripts p)
  comes_by p tiles none first over =
      subst (λ (ts : List SourceTile). CameTo (listing_run ts scripts p)) (sym over)
      (subst (λ (q : SessionState). CameTo (listing_run shown.1 scripts q)) (sym first)
      (subst (λ (f : Option Fault).
      CameTo (opened_or_refused f (listing_run shown.1 scripts (shown_at_first w images scripts shown)))) (sym none)
      (goes (listed_run w images scripts))))

  pub comes_to_listing : {E : Type 0} (r : Result Session E) → IfOk r (λ session. tiles_of session ≡ shown.1)
      → IfOk r (λ session. (has_image : List ℕ → Bool)
      → session_state session has_image ≡ opened cell_limit shown.0 w.zoom has_image)
      → OnOk r (None ≡ tiles_fault cell_limit shown.0 shown.1 w.zoom)
      → IfOk r (λ session. ComesTo files (eval_run w images scripts) (session_run images scripts session)
      asked_old asked_new)
  comes_to_listing (Ok session) over first none =
      comes_by (session_state session images) (tiles_of session) none (first images) over
  comes_to_listing (Err halt) over first none = tt

-- ---- a listing that is written

starts_some : (c : ℕ) (rest : List ℕ) → 0 < length (c ∷ rest)
starts_some c rest = omega arith

-- A listing begins with the line of the zoom.
has_some_text : (layout : Layout) → 0 < length (listing layout)
unfolding listing
has_some_text layout = starts_some 122 (drop 1 (listing layout))

-- by what out held before and holds now, and the steps before and now
module _ (tiles : List SourceTile) (scripts : List ℕ → Bool) (p : SessionState) (old new : Option (List ℕ))
    (steps_old steps_new : ℕ) where
  abbrev text : List ℕ
  text = listing_of tiles scripts p

  abbrev run : Run
  run = listing_run tiles scripts p

  abbrev least : ℕ
  least = least_steps tiles scripts p list

  abbrev most : ℕ
  most = most_steps tiles scripts p list

  -- all of it was written
  pub listing_written : Gains old new text → steps_old + least ≤ steps_new → steps_new ≤ steps_old + most
      → (files : List ℕ → Option (List ℕ)) (asked : List (List ℕ))
      → IsWritten files run asked old new steps_old steps_new Fine
  listing_written gains many few files asked =
      let s : Stretch = record { text = text; least = least + 0; most = most + 0 } in
      (s, (said text Fine, (refl, refl), refl), gains, answered_rose steps_old steps_new least most (many, few))

  module _ (front : GainsPrefix old new text) (few : steps_new ≤ steps_old + most) (files : List ℕ → Option (List ℕ))
      (asked : List (List ℕ)) where
    begun : IsBegun files run asked old new
    begun = (take front.0 text, front.1, inr (refl, (drop front.0 text, sym (take-append-drop front.0 text))))

    due : StepsAreDue files run asked asked steps_old steps_new
    due = counts_due files asked least most (ends (said text Fine)) steps_old steps_new few

    text_due : OutTextIsDue files run asked asked
    text_due = (text, (refl, whole text), has_some_text _)

    -- an allocation failed
    pub listing_lacks_memory : (faults_old faults_new : ℕ) → faults_new ≡ faults_old
        → IsCut files run asked old new steps_old steps_new faults_old faults_new NoMemory
    listing_lacks_memory faults_old faults_new same = (begun, due, same)

    -- a write failed
    pub listing_unwritten : (faults_old faults_new : ℕ) → faults_new ≡ raised faults_old
        → IsCut files run asked old new steps_old steps_new faults_old faults_new Unwritten
    listing_unwritten faults_old faults_new counted = (begun, due, text_due, counted)
