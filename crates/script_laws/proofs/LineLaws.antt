-- A script goes by its lines, and those that are refused count for nothing.
use Rattle.std.proofs.Common.{◌≡◌, ◌∙◌, ℕ, ◌+◌, List, [], ◌∷◌, ◌++◌, refl, sym, ap, subst, arith, Bool, true, false, Option, Some, None, Ok, Err, inl, inr}
use Rattle.std.proofs.Math.Bool.{or_assoc}
use Rattle.std.specs.Prelude.{not, ◌||◌, if◌then◌else◌}
use Rattle.edit_script.specs.Command.{command_of}
use Rattle.edit_script.specs.Edit as edits
use Rattle.edit_script.specs.Edit.{Edit}
use Rattle.edit_script.specs.declared.command.LineFault.TheVariants.{Json}
use Rattle.style_layout.specs.Shown.{SourceTile}
use Rattle.edit_session.specs.Applied.{least_steps, most_steps, presented_after, unless_refused, refusal, applied}
use Rattle.edit_session.specs.SessionState.{SessionState}
use Rattle.edit_session.specs.declared.answer.Refusal.{Refusal}
use Rattle.program_runs.specs.Outcome.{RunOutcome}
use Rattle.program_runs.specs.Runs.{HasOutcome, after_counts, after_text}
use Rattle.script_runs.specs.AnswerTexts.{is_refused}
use Rattle.script_runs.specs.ScriptLines.{script_lines}
use Rattle.script_runs.specs.ScriptRun.{LineOut, lines_run, line_least, line_most, ending_by}
use Rattle.script_laws.specs.ScriptLaw.{Line, line, outs, least_of, most_of, shown_after, accepted, texts, some_refused, those_accepted}
use Rattle.script_laws.specs.ScriptLaw.{GaveTheSame, AllGaveTheSame, Says, Say, ScriptsGoByTheirLines, RefusedLinesCountForNothing}

none_more : (n m : ℕ) → n ≡ 0 → m ≡ n + m
none_more n m h = omega (arith, h)

module _ (tiles : List SourceTile) (scripts : List ℕ → Bool) (can_change : Bool) where
  -- ---- refused lines

  unless_stays : (r : Option Refusal) (before after : SessionState) → is_refused (unless_refused r before after).1 ≡ true →
      (unless_refused r before after).0 ≡ before
  unless_stays None before after h = absurd (cc)
  unless_stays (Some x) before after h = refl

  edit_stays : (p : SessionState) (e : Edit) → is_refused (applied tiles scripts can_change p e).1 ≡ true →
      (applied tiles scripts can_change p e).0 ≡ p
  edit_stays p edits.list h = absurd (cc)
  edit_stays p edits.stats h = refl
  edit_stays p edits.style h = refl
  edit_stays p e h = unless_stays (refusal tiles scripts can_change p e) p (presented_after tiles p e) h

  -- a refused edit counts no step
  edit_counts : (p : SessionState) (e : Edit) → is_refused (applied tiles scripts can_change p e).1 ≡ true →
      (least_steps tiles scripts p e ≡ 0) × (most_steps tiles scripts p e ≡ 0)
  edit_counts p edits.list h = absurd (cc)
  edit_counts p e h = (refl, refl)

  line_counts : (number : ℕ) (p : SessionState) (l : Line) → (line tiles scripts can_change number p l).is_refused ≡ true →
      (line_least tiles scripts p l ≡ 0) × (line_most tiles scripts p l ≡ 0)
  line_counts number p (Ok e) h = edit_counts p e h
  line_counts number p (Err fault) h = (refl, refl)

  line_stays : (number : ℕ) (p : SessionState) (l : Line) → (line tiles scripts can_change number p l).is_refused ≡ true →
      (line tiles scripts can_change number p l).after ≡ p
  line_stays number p (Ok e) h = edit_stays p e h
  line_stays number p (Err fault) h = refl

  same_line : (other number : ℕ) (p : SessionState) (l : Line) → (line tiles scripts can_change number p l).is_refused ≡ false →
      GaveTheSame (line tiles scripts can_change other p l) (line tiles scripts can_change number p l)
  same_line other number p (Ok e) h = record {
    after = refl;
    reply = (applied tiles scripts can_change p e).1;
    number = other;
    first = refl;
    other = number;
    second = refl;
  }
  same_line other number p (Err fault) h = absurd (cc)

  abbrev StaysSo : (other number : ℕ) (p q : SessionState) (ls more : List Line) (os : List LineOut) (least most : ℕ) → Type 0
  StaysSo other number p q ls more os least most =
      (shown_after tiles scripts can_change other p more ≡ shown_after tiles scripts can_change number q ls)
      × AllGaveTheSame (outs tiles scripts can_change other p more) os
      × (least_of tiles scripts can_change other p more ≡ least)
      × (most_of tiles scripts can_change other p more ≡ most)

  abbrev WithLine : (b : Bool) (other number : ℕ) (p : SessionState) (l : Line) (ls : List Line) → Type 0
  WithLine b other number p l ls =
      let here = line tiles scripts can_change number p l in
      let kept = accepted tiles scripts can_change (number + 1) here.after ls in
      let later = outs tiles scripts can_change (number + 1) here.after ls in
      StaysSo other (number + 1) p here.after ls (if b then kept else l ∷ kept)
      (if not b then here ∷ those_accepted later else those_accepted later)
      (line_least tiles scripts p l + least_of tiles scripts can_change (number + 1) here.after ls)
      (line_most tiles scripts p l + most_of tiles scripts can_change (number + 1) here.after ls)

  -- The lines after a line that is refused, or all of them.
  abbrev StaysLater : (other number : ℕ) (q : SessionState) (ls : List Line) → Type 0
  StaysLater other number q ls =
      StaysSo other number q q ls (accepted tiles scripts can_change number q ls) (those_accepted (outs tiles scripts can_change number q ls))
      (least_of tiles scripts can_change number q ls) (most_of tiles scripts can_change number q ls)

  counted : (other number : ℕ) (p : SessionState) (ls : List Line) → StaysLater other number p ls
  counted other number p [] = (refl, tt, refl, refl)
  counted other number p (l ∷ ls) = by (λ m q. counted m (number + 1) q ls) (line tiles scripts can_change number p l).is_refused refl
    where
      by : ((m : ℕ) (q : SessionState) → StaysLater m (number + 1) q ls) → (b : Bool) →
          (line tiles scripts can_change number p l).is_refused ≡ b → WithLine b other number p l ls
      by rest true h =
          let here = line tiles scripts can_change number p l in
          let kept = accepted tiles scripts can_change (number + 1) here.after ls in
          let later = outs tiles scripts can_change (number + 1) here.after ls in
          let least = least_of tiles scripts can_change (number + 1) here.after ls in
          let most = most_of tiles scripts can_change (number + 1) here.after ls in
          let none = line_counts number p l h in
          subst (λ n. StaysSo other (number + 1) p here.after ls kept (those_accepted later) n (line_most tiles scripts p l + most))
          (none_more (line_least tiles scripts p l) least none.0)
          (subst (λ n. StaysSo other (number + 1) p here.after ls kept (those_accepted later) least n)
          (none_more (line_most tiles scripts p l) most none.1)
          (subst (λ q. StaysSo other (number + 1) q here.after ls kept (those_accepted later) least most) (line_stays number p l h)
          (rest other here.after)))
      by rest false h =
          let here = line tiles scripts can_change number p l in
          let there = line tiles scripts can_change other p l in
          let kept = accepted tiles scripts can_change (number + 1) here.after ls in
          let later = outs tiles scripts can_change (number + 1) here.after ls in
          let least = least_of tiles scripts can_change (number + 1) here.after ls in
          let most = most_of tiles scripts can_change (number + 1) here.after ls in
          let same = same_line other number p l h in
          let more = subst (λ q. StaysSo (other + 1) (number + 1) q here.after ls kept (those_accepted later) least most) (sym same.after)
          (rest (other + 1) here.after) in (
            more.0,
            (same, more.1),
            ap (λ n. line_least tiles scripts p l + n) more.2,
            ap (λ n. line_most tiles scripts p l + n) more.3,
          )

  -- ---- the run of lines

  -- the outcome of lines from this number on; `any` says whether a line before them was refused
  abbrev outcome_from : (number : ℕ) (p : SessionState) (any : Bool) → List Line → RunOutcome
  outcome_from number p any ls = record {
    out = texts (outs tiles scripts can_change number p ls);
    err = [];
    ending = ending_by (any || some_refused (outs tiles scripts can_change number p ls));
    least = least_of tiles scripts can_change number p ls;
    most = most_of tiles scripts can_change number p ls;
  }

  or_none : (b : Bool) → b ≡ (b || false)
  or_none true = refl
  or_none false = refl

  module _ (files : List ℕ → Option (List ℕ)) (asked all : List (List ℕ)) where
    abbrev GoesBy : (number : ℕ) (p : SessionState) (any : Bool) (bs : List (List ℕ)) (o : RunOutcome) → Type 0
    GoesBy number p any bs o = (ls : List Line) × Say bs ls × (all ≡ asked) × (o ≡ outcome_from number p any ls)

    goes_on : (number : ℕ) (p : SessionState) (any : Bool) (b : List ℕ) (bs : List (List ℕ)) (l : Line) (rest said o : RunOutcome) →
        Says b l →
        GoesBy (number + 1) (line tiles scripts can_change number p l).after (any || (line tiles scripts can_change number p l).is_refused) bs rest →
        said ≡ after_text (line tiles scripts can_change number p l).text rest →
        o ≡ after_counts (line_least tiles scripts p l) (line_most tiles scripts p l) said →
        GoesBy number p any (b ∷ bs) o
    goes_on number p any b bs l rest said o says (ls, say, names, is) made counts =
        let here = line tiles scripts can_change number p l in
        let later = outs tiles scripts can_change (number + 1) here.after ls in
        let least = line_least tiles scripts p l in
        let most = line_most tiles scripts p l in (
          l ∷ ls,
          (says, say),
          names,
          counts ∙ (ap (after_counts least most) (made ∙ ap (after_text here.text) is)
              ∙ (λ i. record {
                out = here.text ++ texts later;
                err = [];
                ending = ending_by (or_assoc any here.is_refused (some_refused later) i);
                least = least + least_of tiles scripts can_change (number + 1) here.after ls;
                most = most + most_of tiles scripts can_change (number + 1) here.after ls;
              })),
        )

    lines_go : (number : ℕ) (p : SessionState) (any : Bool) (bs : List (List ℕ)) (o : RunOutcome) →
        HasOutcome files (lines_run tiles scripts can_change number p any bs) asked all o → GoesBy number p any bs o
    lines_go number p any [] o h =
        ([], tt, h.1, h.0 ∙ (λ i. record { out = []; err = []; ending = ending_by (or_none any i); least = 0; most = 0 }))
    lines_go number p any (b ∷ bs) o (inl (t, spelled, (said, (rest, h, made), counts))) =
        goes_on number p any b bs (command_of t) rest said o (inl (t, spelled, refl))
        (lines_go (number + 1) (line tiles scripts can_change number p (command_of t)).after
        (any || (line tiles scripts can_change number p (command_of t)).is_refused) bs rest h) made counts
    lines_go number p any (b ∷ bs) o (inr (none, (said, (rest, h, made), counts))) =
        goes_on number p any b bs (Err Json) rest said o (inr (none, refl))
        (lines_go (number + 1) (line tiles scripts can_change number p (Err Json)).after
        (any || (line tiles scripts can_change number p (Err Json)).is_refused) bs rest h) made counts

pub refused_lines_count_for_nothing : RefusedLinesCountForNothing
refused_lines_count_for_nothing tiles scripts can_change number other p ls = counted tiles scripts can_change other number p ls

pub scripts_go_by_their_lines : ScriptsGoByTheirLines
scripts_go_by_their_lines files tiles scripts can_change p script asked all o h =
    let (ls, say, names, is) = lines_go tiles scripts can_change files asked all 1 p false (script_lines script) o h in
    (ls, say, is, names)
