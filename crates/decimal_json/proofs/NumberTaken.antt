-- The number that is taken where the walk ends in a whole phase.
use Rattle.std.proofs.Common.{◌≡◌, ◌≤◌, ℕ, ◌+◌, List, [], ◌∷◌, ◌++◌, length, take, refl, sym, ◌∙◌, ap, subst, arith, append-nil}
use Rattle.std.specs.Prelude.{true, false, IsTrue, Some, None}
use Rattle.std.proofs.lemmas.Bool.{both_ways}
use Rattle.json_tokens.specs.Number.{is_number}
use Rattle.json_tokens.specs.NumberToken.{SpellsNumber}
use Rattle.json_tokens.specs.Production.{EndsNumber}
use Rattle.json_tokens.specs.Readers.{IsTaken}
use Rattle.decimal_json.specs.declared.phase.Phase.{Phase}
use Rattle.decimal_json.specs.declared.phase.Phase.TheVariants.{Start}
use Rattle.decimal_json.specs.Automaton.{next, is_whole, needed, reached}
use Rattle.decimal_json.specs.Walk.{LeadsTo, IsStuck}
use Rattle.decimal_json.proofs.Rest.{is_rest, is_rest_of, rest_step, rest_ends, number_behind}
use Rattle.decimal_json.proofs.Fronts.{front_bytes, covers}

-- Where no byte leads on, none may follow the phase.
pub no_rest : (p : Phase) (c : ℕ) (x : List ℕ) → next p c ≡ None → is_rest p (c ∷ x) ≡ true → ⊥
no_rest p c x stuck h = both_ways false refl (sym (ap (λ o. is_rest_of o x) stuck) ∙ (sym (rest_step p c x) ∙ h))

-- The same where bytes of which the first is known begin with it.
pub stuck_rest : (p : Phase) (left more x q : List ℕ) → IsStuck p left → take 1 more ≡ take 1 left → more ≡ x ++ q → is_rest p x ≡ true → x ≡ []
stuck_rest p left more [] q stuck alike e h = refl
stuck_rest p [] more (c ∷ x) q stuck alike e h =
    let first : take 1 more ≡ c ∷ [] = ap (λ b. take 1 b) e in
    absurd (cc)
stuck_rest p (d ∷ left) more (c ∷ x) q stuck alike e h =
    let first : take 1 more ≡ c ∷ [] = ap (λ b. take 1 b) e in
    let same : d ≡ c = cc in
    absurd (no_rest p c x (subst (λ b. next p b ≡ None) same stuck) h)

-- The bytes that lead to a whole phase are a number.
pub whole_number : (front : List ℕ) (p : Phase) → reached (Some Start) front ≡ Some p → is_whole p ≡ true → IsTrue (is_number front)
whole_number front p led whole = ap is_number (sym (append-nil front)) ∙ (number_behind front [] p led ∙ (rest_ends p ∙ whole))

-- The number at the front is the front.
only_front : (front more w q left : List ℕ) (p : Phase) → reached (Some Start) front ≡ Some p → IsStuck p left → take 1 more ≡ take 1 left → front ++ more ≡ w ++ q → IsTrue (is_number w) → EndsNumber q → (w ≡ front) × (q ≡ more)
only_front front more w q left p led stuck alike e number ends =
    let cut = covers front w more q (front_bytes front p led) ends e in
    let nothing : cut.0 ≡ [] = stuck_rest p left more cut.0 q stuck alike cut.2 (sym (number_behind front cut.0 p led) ∙ (sym (ap is_number cut.1) ∙ number)) in
    (cut.1 ∙ (ap (λ x. front ++ x) nothing ∙ append-nil front), sym (cut.2 ∙ ap (λ x. x ++ q) nothing))

pub is_taken : (front left : List ℕ) (p : Phase) → LeadsTo front p → is_whole p ≡ true → IsStuck p left → IsTaken SpellsNumber front front left
is_taken front left p leads whole stuck =
    let fits : length front + needed p ≤ 64 = leads.fits in
    let short : length front ≤ 64 = omega arith in
    record {
      spelled = λ r q ends. (refl, whole_number front p leads.led whole, λ _. short, ends);
      decided = λ r w more q alike spelled. only_front front more w q left p leads.led stuck alike spelled.0 spelled.1 spelled.3;
    }
