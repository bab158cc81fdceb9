-- Two pieces that are written one after the other.
use Rattle.std.specs.Prelude.{◌≡◌, ℕ, List, ◌++◌, length, take, drop, Option}
use Rattle.std.proofs.Common.{◌∙◌, sym, ap, subst, append_assoc}
use Rattle.std.proofs.Math.Seq.{take-append_seam}
use Rattle.std.proofs.lemmas.List.{take-append-drop}
use Rattle.outside_io.specs.Writing.{Gains, GainsPrefix}
use Rattle.outside_io.specs.WritingLaws.{gains_both}

-- a front of a text, where the text goes on
front_taken : (a b : Option (List ℕ)) (front rest text : List ℕ) → text ≡ front ++ rest → Gains a b front → GainsPrefix a b text
front_taken a b front rest text is gains =
    (length front, subst (λ (t : List ℕ). Gains a b t) (sym (ap (λ (t : List ℕ). take (length front) t) is ∙ take-append_seam front rest)) gains)

-- some of the first piece was written
pub longer_prefix : (a b : Option (List ℕ)) (first second : List ℕ) → GainsPrefix a b first → GainsPrefix a b (first ++ second)
longer_prefix a b first second (n, gains) =
    front_taken a b (take n first) (drop n first ++ second) (first ++ second)
    (ap (λ (t : List ℕ). t ++ second) (sym (take-append-drop n first)) ∙ append_assoc (take n first) (drop n first) second) gains

-- the first piece was written, and some of the second
pub later_prefix : (a b c : Option (List ℕ)) (first second : List ℕ) → Gains a b first → GainsPrefix b c second → GainsPrefix a c (first ++ second)
later_prefix a b c first second gains (n, more) =
    front_taken a c (first ++ take n second) (drop n second) (first ++ second)
    (ap (λ (t : List ℕ). first ++ t) (sym (take-append-drop n second)) ∙ sym (append_assoc first (take n second) (drop n second)))
    (gains_both a b c first (take n second) gains more)
