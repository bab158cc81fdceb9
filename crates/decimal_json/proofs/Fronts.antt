-- A number of bytes whose front leads to a phase.
use Rattle.std.proofs.Common.{◌≡◌, ◌<◌, ◌≤◌, ℕ, List, [], ◌∷◌, ◌++◌, ◌+◌, zero, suc, length, take, get_or, refl, sym, ◌∙◌, ap, arith}
use Rattle.std.specs.Prelude.{true, IsTrue, Option, Some, slice_index}
use Rattle.std.specs.List.{list_all}
use Rattle.std.specs.Str.{IsAscii}
use Rattle.std.proofs.lemmas.Bool.{and_parts, both_ways}
use Rattle.std.proofs.lemmas.Grind.{common_steps}
use Rattle.std.proofs.lemmas.List.{take_more}
use Rattle.std.proofs.lemmas.List.Folds.{list_all-append}
use Rattle.json_tokens.specs.Number.{is_number_byte}
use Rattle.json_tokens.specs.NumberBytes.{number_bytes}
use Rattle.json_tokens.specs.Production.{EndsNumber}
use Rattle.decimal_json.specs.declared.phase.Phase.{Phase}
use Rattle.decimal_json.specs.declared.phase.Phase.TheVariants.{Start}
use Rattle.decimal_json.specs.Automaton.{next, next_of, needed, reached}
use Rattle.decimal_json.specs.Walk.{LeadsTo}
use Rattle.decimal_json.proofs.Rest.{number_behind, ending, rest_ending}

bytes_of_front : (front b : List ℕ) → IsTrue (list_all is_number_byte (front ++ b)) → IsTrue (list_all is_number_byte front)
bytes_of_front front b h = (and_parts (list_all is_number_byte front) (list_all is_number_byte b) (sym (list_all-append is_number_byte front b) ∙ h)).0

-- The bytes that lead to a phase are those that a number may have.
pub front_bytes : (front : List ℕ) (p : Phase) → reached (Some Start) front ≡ Some p → IsTrue (list_all is_number_byte front)
front_bytes front p led = bytes_of_front front (ending p) (number_bytes (front ++ ending p) (number_behind front (ending p) p led ∙ rest_ending p))

number_byte_is_ascii : (b : ℕ) → is_number_byte b ≡ true → b < 128
number_byte_is_ascii b h = grind arith

ascii_at : (b : List ℕ) (i : ℕ) → IsTrue (list_all is_number_byte b) → slice_index b i < 128
ascii_at [] i h = omega arith
ascii_at (c ∷ b) zero h = number_byte_is_ascii c (and_parts (is_number_byte c) (list_all is_number_byte b) h).0
ascii_at (c ∷ b) (suc i) h = ascii_at b i (and_parts (is_number_byte c) (list_all is_number_byte b) h).1

-- The bytes that a number may have are ASCII.
pub bytes_are_ascii : (b : List ℕ) → IsTrue (list_all is_number_byte b) → IsAscii b
bytes_are_ascii b h = λ i. ascii_at b i h

-- A number that ends at a byte of no number goes as far as the front's bytes at least.
pub covers : (front n b q : List ℕ) → IsTrue (list_all is_number_byte front) → EndsNumber q → front ++ b ≡ n ++ q → (x : List ℕ) × (n ≡ front ++ x) × (b ≡ x ++ q)
covers [] n b q h ends e = (n, refl, e)
covers (c ∷ front) [] b [] h ends e = absurd (cc)
covers (c ∷ front) [] b (d ∷ q) h ends e =
    let same : d ≡ c = cc in
    absurd (both_ways (is_number_byte d) ends (ap is_number_byte same ∙ (and_parts (is_number_byte c) (list_all is_number_byte front) h).0))
covers (c ∷ front) (d ∷ n) b q h ends e =
    let same : c ≡ d = cc in
    let later : front ++ b ≡ n ++ q = cc in
    let rest = covers front n b q (and_parts (is_number_byte c) (list_all is_number_byte front) h).1 ends later in
    let behind : n ≡ front ++ rest.0 = rest.1 in
    (rest.0, cc, rest.2)

reached_more : (front b : List ℕ) (o : Option Phase) → reached o (front ++ b) ≡ reached (reached o front) b
reached_more [] b o = refl
reached_more (c ∷ front) b o = reached_more front b (next_of o c)

-- A byte after the front leads on from where the front leads.
pub leads_on : (front : List ℕ) (c : ℕ) (p to : Phase) → reached (Some Start) front ≡ Some p → next p c ≡ Some to → reached (Some Start) (front ++ c ∷ []) ≡ Some to
leads_on front c p to led goes = reached_more front (c ∷ []) (Some Start) ∙ (ap (λ o. reached o (c ∷ [])) led ∙ goes)

-- The step of the walk.
pub leads_more : (b : List ℕ) (i : ℕ) (p to : Phase) → i < length b → LeadsTo (take i b) p → next p (get_or b i 0) ≡ Some to → i + 1 + needed to ≤ 64 → LeadsTo (take (i + 1) b) to
leads_more b i p to within leads goes fits =
    let front : take (i + 1) b ≡ take i b ++ get_or b i 0 ∷ [] = take_more b i 0 within in
    let count : length (take (i + 1) b) ≡ i + 1 = grind (arith, common_steps) in
    record { led = ap (λ x. reached (Some Start) x) front ∙ leads_on (take i b) (get_or b i 0) p to leads.led goes; fits = omega arith }
