-- How long a run of bytes is.
use Rattle.std.specs.Prelude.{◌≡◌, ℕ, List, [], ◌∷◌, ◌++◌, Bool, IsTrue, Option, Some, None}
use Rattle.std.specs.List.{list_all}
use Rattle.std.proofs.Common.{refl, ap, ◌∙◌}
use Rattle.std.proofs.lemmas.Bool.{and_parts, both_ways}
use Rattle.json_tokens.specs.Runs.{Stops}

-- The first byte, where there is one. Source: own.
abbrev pub first_of : List ℕ → Option ℕ
first_of [] = None
first_of (b ∷ bs) = Some b

-- Bytes are cut after the run at their front in one way.
pub one_run : (p : ℕ → Bool) (x y q r : List ℕ) → IsTrue (list_all p x) → IsTrue (list_all p y) → Stops p q →
    Stops p r → x ++ q ≡ y ++ r → (x ≡ y) × (q ≡ r)
one_run p [] [] q r in_x in_y at_q at_r e = (refl, e)
one_run p [] (c ∷ y) [] r in_x in_y at_q at_r e = absurd (cc)
one_run p [] (c ∷ y) (b ∷ q) r in_x in_y at_q at_r e =
    let same : b ≡ c = cc in
    absurd (both_ways (p b) at_q (ap p same ∙ (and_parts (p c) (list_all p y) in_y).0))
one_run p (b ∷ x) [] q [] in_x in_y at_q at_r e = absurd (cc)
one_run p (b ∷ x) [] q (c ∷ r) in_x in_y at_q at_r e =
    let same : c ≡ b = cc in
    absurd (both_ways (p c) at_r (ap p same ∙ (and_parts (p b) (list_all p x) in_x).0))
one_run p (b ∷ x) (c ∷ y) q r in_x in_y at_q at_r e =
    let same : b ≡ c = cc in
    let left : x ++ q ≡ y ++ r = cc in
    let both = one_run p x y q r (and_parts (p b) (list_all p x) in_x).1 (and_parts (p c) (list_all p y) in_y).1
    at_q at_r left in
    let run : x ≡ y = both.0 in
    (cc, both.1)
