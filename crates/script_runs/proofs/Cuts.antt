-- Where the first line of a script ends.
use Rattle.std.proofs.Common.{◌≡◌, ℕ, zero, suc, ◌+◌, ◌-◌, ◌<◌, ◌≤◌, List, [], ◌∷◌, ◌++◌, length, take, drop, get_or, Bool, true, false, refl, sym, ap, ◌∙◌, arith}
use Rattle.std.specs.Prelude.{nat_eq, if◌then◌else◌}
use Rattle.std.proofs.lemmas.List.{append-nil, append_assoc}
use Rattle.std.proofs.lemmas.Grind.{common_steps}
use Rattle.script_runs.specs.ScriptLines.{script_lines, lines_from, last_line}

-- no LF is at a place below this
abbrev pub HasNoEnd : List ℕ → ℕ → Type 0
HasNoEnd bytes place = (k : ℕ) → k < place → nat_eq (get_or bytes k 0) 10 ≡ false

is_false : (b : Bool) → (b ≡ true → ⊥) → b ≡ false
is_false true h = absurd (h refl)
is_false false h = refl

later : (b : ℕ) (bs : List ℕ) (place : ℕ) → HasNoEnd (b ∷ bs) (suc place) → HasNoEnd bs place
later b bs place h = λ k below. h (suc k) (omega arith)

goes_on : (read bs : List ℕ) (b : ℕ) → nat_eq b 10 ≡ false → lines_from read (b ∷ bs) ≡ lines_from (read ++ b ∷ []) bs
goes_on read bs b e = ap (λ (t : Bool). if t then read ∷ lines_from [] bs else lines_from (read ++ b ∷ []) bs) e

ends : (read bs : List ℕ) (b : ℕ) → nat_eq b 10 ≡ true → lines_from read (b ∷ bs) ≡ read ∷ lines_from [] bs
ends read bs b e = ap (λ (t : Bool). if t then read ∷ lines_from [] bs else lines_from (read ++ b ∷ []) bs) e

lines_at : (read b : List ℕ) (place : ℕ) → place < length b → nat_eq (get_or b place 0) 10 ≡ true → HasNoEnd b place → lines_from read b ≡ (read ++ take place b) ∷ lines_from [] (drop (suc place) b)
lines_at read [] place within at before = absurd (omega arith)
lines_at read (c ∷ bs) zero within at before = ends read bs c at ∙ ap (λ r. r ∷ lines_from [] bs) (sym (append-nil read))
lines_at read (c ∷ bs) (suc place) within at before =
    goes_on read bs c (before 0 (omega arith)) ∙ lines_at (read ++ c ∷ []) bs place (omega arith) at (later c bs place before)
    ∙ ap (λ r. r ∷ lines_from [] (drop (suc place) bs)) (append_assoc read (c ∷ []) (take place bs))

no_line_ends : (read b : List ℕ) → HasNoEnd b (length b) → lines_from read b ≡ last_line (read ++ b)
no_line_ends read [] before = ap last_line (sym (append-nil read))
no_line_ends read (c ∷ bs) before =
    goes_on read bs c (before 0 (omega arith)) ∙ no_line_ends (read ++ c ∷ []) bs (later c bs (length bs) before) ∙ ap last_line (append_assoc read (c ∷ []) bs)

rest_is : (b : List ℕ) (n : ℕ) → n ≤ length b → take (length b - n) (drop n b) ≡ drop n b
rest_is b n within = grind (arith, common_steps)

module _ (b : List ℕ) where
  abbrev is_end : ℕ → Bool
  is_end x = nat_eq x 10

  -- The first line ends at the first LF.
  pub cut_at : (place : ℕ) → place < length b → nat_eq (get_or b place 0) 10 ≡ true → ((k : ℕ) → 0 ≤ k → k < place → nat_eq (get_or b k 0) 10 ≡ true → ⊥)
      → script_lines b ≡ take place b ∷ script_lines (take (length b - (place + 1)) (drop (place + 1) b))
  cut_at place within at before =
      let n : suc place ≡ place + 1 = omega arith in
      lines_at [] b place within at (λ k below. is_false _ (before k (omega arith) below))
      ∙ ap (λ m. take place b ∷ lines_from [] (drop m b)) n ∙ ap (λ r. take place b ∷ lines_from [] r) (sym (rest_is b (place + 1) (omega arith)))

  -- Without an LF all is one line.
  pub all_is_one : 0 < length b → ((k : ℕ) → 0 ≤ k → k < length b → nat_eq (get_or b k 0) 10 ≡ true → ⊥)
      → script_lines b ≡ b ∷ script_lines (take (length b - length b) (drop (length b) b))
  all_is_one some before =
      let nothing : take (length b - length b) (drop (length b) b) ≡ [] = grind (arith, common_steps) in
      no_line_ends [] b (λ k below. is_false _ (before k (omega arith) below)) ∙ whole b some ∙ ap (λ r. b ∷ lines_from [] r) (sym nothing)
    where
      whole : (x : List ℕ) → 0 < length x → last_line x ≡ x ∷ []
      whole [] h = absurd (omega arith)
      whole (y ∷ x) h = refl
