-- A text that is written piece by piece.
use Rattle.std.specs.Prelude.{◌≡◌, ℕ, ◌+◌, ◌<◌, List, [], ◌++◌, length, take, drop, Option}
use Rattle.std.proofs.Common.{refl, sym, subst, inl, inr, append-nil, append_assoc, arith}
use Rattle.std.proofs.lemmas.List.{length-append, take-append-drop}
use Rattle.outside_io.specs.Counts.{raised}
use Rattle.outside_io.specs.Writing.{Gains, GainsPrefix}
use Rattle.outside_io.specs.WritingLaws.{gains_both}
use Rattle.program_runs.specs.declared.halt.WriteStop.TheVariants.{NoMemory, Unwritten}
use Rattle.program_runs.specs.declared.status.Ending.{Ending}
use Rattle.program_runs.specs.Outcome.{RunOutcome, said}
use Rattle.program_runs.specs.Progress.{Stretch, no_stretch, then_stretch, after_stretch, stretch_outcome, Writes, HasWritten, IsWritten, IsCut}
use Rattle.program_runs.specs.Runs.{Run, ends, HasOutcome, HasSaid, HasCounted}
use Rattle.program_runs.specs.Written.{RoseBetween, StepsAreDue}
use Rattle.program_runs.proofs.Asked.{none_asked}
use Rattle.program_runs.proofs.Counting.{none_counted}
use Rattle.program_runs.proofs.Saying.{whole}

sum_assoc : (a b c : ℕ) → (a + b) + c ≡ a + (b + c)
sum_assoc a b c = omega arith

sum_none : (a : ℕ) → a + 0 ≡ a
sum_none a = omega arith

none_sum : (a : ℕ) → 0 + a ≡ a
none_sum a = omega arith

pub then_after : (s t : Stretch) (o : RunOutcome) → after_stretch (then_stretch s t) o ≡ after_stretch s (after_stretch t o)
then_after s t o = λ j. record {
  out = append_assoc s.text t.text o.out j;
  err = o.err;
  ending = o.ending;
  least = sum_assoc s.least t.least o.least j;
  most = sum_assoc s.most t.most o.most j;
}

after_nothing : (s : Stretch) (ending : Ending) → after_stretch s (said [] ending) ≡ stretch_outcome s ending
after_nothing s ending = λ j. record {
  out = append-nil s.text j;
  err = [];
  ending = ending;
  least = sum_none s.least j;
  most = sum_none s.most j;
}

before_any : (o : RunOutcome) → after_stretch no_stretch o ≡ o
before_any o = λ j. record { out = o.out; err = o.err; ending = o.ending; least = none_sum o.least j; most = none_sum o.most j }

pub none_written : (run : Run) → HasWritten run no_stretch run
none_written run = record {
  outcomes = λ files asked all o d. subst (λ (p : RunOutcome). HasOutcome files run asked all p) (sym (before_any o)) d;
  says = λ files asked now more s. s;
  counts = λ files asked now more counted. subst (λ (n : ℕ). HasCounted files run asked now n) (sym (none_sum more)) counted;
  so_far = λ files asked. inl refl;
}

pub piece_written : (run mid rest : Run) (s piece : Stretch) → HasWritten run s mid → Writes mid piece rest → HasWritten run (then_stretch s piece) rest
piece_written run mid rest s piece before next = record {
  outcomes = λ files asked all o d. subst (λ (p : RunOutcome). HasOutcome files run asked all p) (sym (then_after s piece o))
      (before.outcomes files asked all (after_stretch piece o) (next.outcomes files asked all o d));
  says = λ files asked now more said. subst (λ (t : List ℕ). HasSaid files run asked now t) (sym (append_assoc s.text piece.text more))
      (before.says files asked now (piece.text ++ more) (next.says files asked now more said));
  counts = λ files asked now more counted. subst (λ (n : ℕ). HasCounted files run asked now n) (sym (sum_assoc s.most piece.most more))
      (before.counts files asked now (piece.most + more) (next.counts files asked now more counted));
  so_far = λ files asked. inr (before.says files asked asked piece.text (next.begins files asked piece.text (whole piece.text)));
}

module _ (files : List ℕ → Option (List ℕ)) (run mid : Run) (asked : List (List ℕ)) (s : Stretch) (a b : Option (List ℕ)) (gains : Gains a b s.text)
    (steps_old steps_mid : ℕ) (rose : RoseBetween steps_old steps_mid s.least s.most) where
  pub all_written : (ending : Ending) → HasWritten run s (ends (said [] ending)) → IsWritten files run asked a b steps_old steps_mid ending
  all_written ending before = (
    s,
    subst (λ (p : RunOutcome). HasOutcome files run asked asked p) (after_nothing s ending) (before.outcomes files asked asked (said [] ending) (refl, refl)),
    gains,
    rose,
  )

  -- an allocation failed, once the steps rose as the rest of the run may have counted
  pub cut_by_memory : (steps_new old new : ℕ) → HasWritten run s mid → StepsAreDue files mid asked asked steps_mid steps_new → new ≡ old
      → IsCut files run asked a b steps_old steps_new old new NoMemory
  cut_by_memory steps_new old new before (most, counted, few) same = (
    (s.text, gains, before.so_far files asked),
    (s.most + most, before.counts files asked asked most counted, omega (arith, rose.1, few)),
    same,
  )

  -- a write failed, of a piece whose evaluations were made
  pub cut_by_write : (c : Option (List ℕ)) (rest : Run) (piece : Stretch) (steps_new old new : ℕ) → HasWritten run s mid → Writes mid piece rest
      → RoseBetween steps_mid steps_new piece.least piece.most → GainsPrefix b c piece.text → 0 < length piece.text → new ≡ raised old
      → IsCut files run asked a c steps_old steps_new old new Unwritten
  cut_by_write c rest piece steps_new old new before next rises (n, more) some counted = (
    (
      s.text ++ take n piece.text,
      gains_both a b c s.text (take n piece.text) gains more,
      inr (before.says files asked asked (take n piece.text) (next.begins files asked (take n piece.text) (drop n piece.text, sym (take-append-drop n piece.text)))),
    ),
    (
      s.most + (piece.most + 0),
      before.counts files asked asked (piece.most + 0) (next.counts files asked asked 0 (none_counted files rest asked asked (none_asked files rest asked))),
      omega (arith, rose.1, rises.1),
    ),
    (
      s.text ++ piece.text,
      before.says files asked asked piece.text (next.begins files asked piece.text (whole piece.text)),
      omega (arith, length-append s.text piece.text, some),
    ),
    counted,
  )
