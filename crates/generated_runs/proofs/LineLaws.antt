-- The lines of the script by their places.
use Rattle.std.proofs.Common.{◌≡◌, ◌∙◌, refl, sym, ap, ℕ, zero, suc, ◌+◌, ◌-◌, ◌<◌, ◌≤◌, List, [], ◌∷◌, ◌++◌, drop, length, arith}
use Rattle.std.proofs.lemmas.List.{length-append}
use Rattle.generated_runs.specs.GeneratedScript.{generated_lines, list_line, state_line, state_lines}

state_at : (count id k : ℕ) (rest : List (List ℕ)) → k < count
    → drop k (state_lines count id ++ rest) ≡ state_line (id + k) ∷ drop (suc k) (state_lines count id ++ rest)
state_at zero id k rest h = absurd (omega (arith, h))
state_at (suc n) id zero rest h =
    let same : id ≡ id + 0 = omega arith in
    ap (λ (i : ℕ). state_line i ∷ (state_lines n (suc id) ++ rest)) same
state_at (suc n) id (suc k) rest h =
    let same : suc id + k ≡ id + suc k = omega arith in
    state_at n (suc id) k rest (omega (arith, h)) ∙ ap (λ (i : ℕ). state_line i ∷ drop (suc k) (state_lines n (suc id) ++ rest)) same

last_at : (count id : ℕ) (l : List ℕ) → drop count (state_lines count id ++ l ∷ []) ≡ l ∷ drop (suc count) (state_lines count id ++ l ∷ [])
last_at zero id l = refl
last_at (suc n) id l = last_at n (suc id) l

states_count : (count id : ℕ) → length (state_lines count id) ≡ count
states_count zero id = refl
states_count (suc n) id = ap suc (states_count n (suc id))

-- there are four lines beside those of states
pub lines_count : (features : ℕ) → length (generated_lines features) ≡ features + 4
lines_count features = omega (arith, length-append (state_lines features 1) (list_line ∷ []), states_count features 1)

pub state_there : (features place : ℕ) → 3 ≤ place → place < features + 3
    → drop place (generated_lines features) ≡ state_line (place - 2) ∷ drop (suc place) (generated_lines features)
state_there features zero h within = absurd (omega (arith, h))
state_there features (suc zero) h within = absurd (omega (arith, h))
state_there features (suc (suc zero)) h within = absurd (omega (arith, h))
state_there features (suc (suc (suc k))) h within =
    let same : 1 + k ≡ suc (suc (suc k)) - 2 = omega arith in
    state_at features 1 k (list_line ∷ []) (omega (arith, within))
    ∙ ap (λ (i : ℕ). state_line i ∷ drop (suc k) (state_lines features 1 ++ list_line ∷ [])) same

after_states : (features k : ℕ) → k ≡ features
    → drop k (state_lines features 1 ++ list_line ∷ []) ≡ list_line ∷ drop (suc k) (state_lines features 1 ++ list_line ∷ [])
after_states features k same =
    ap (λ (i : ℕ). drop i (state_lines features 1 ++ list_line ∷ [])) same
    ∙ (last_at features 1 list_line ∙ ap (λ (i : ℕ). list_line ∷ drop (suc i) (state_lines features 1 ++ list_line ∷ [])) (sym same))

pub listed_at : (features place : ℕ) → (place ≡ 1 → ⊥) → (3 ≤ place → features + 3 ≤ place) → place < length (generated_lines features)
    → drop place (generated_lines features) ≡ list_line ∷ drop (suc place) (generated_lines features)
listed_at features zero other past within = refl
listed_at features (suc zero) other past within = absurd (other refl)
listed_at features (suc (suc zero)) other past within = refl
listed_at features (suc (suc (suc k))) other past within =
    after_states features k (omega (arith, past (omega arith), within, lines_count features))
