-- The walk over digits, into an integer and into a fraction.
use Rattle.std.specs.Prelude.{◌≡◌, ◌≤◌, ◌<◌, ◌+◌, ◌&&◌, ℕ, List, ◌∷◌, true, length, take, Bool, IsTrue, Some, None, if◌then◌else◌}
use Rattle.std.specs.Char.{is_ascii_digit}
use Rattle.std.specs.List.{list_all}
use Rattle.std.proofs.Common.{zero, suc, drop, refl, arith, get_or, ap, sym, subst}
use Rattle.std.proofs.lemmas.Bool.{and_parts, and_from}
use Rattle.std.proofs.lemmas.List.{drop_more}
use Rattle.decimal_json.specs.declared.phase.Phase.{Phase}
use Rattle.decimal_json.specs.declared.phase.Phase.TheVariants.{Start, Minus, Zero, Digits, Point, Fraction, Letter, Sign, Exponent}
use Rattle.decimal_json.specs.Automaton.{next, needed, repeats}
use Rattle.decimal_json.specs.Walk.{LeadsTo, begins_integer, begins_fraction}
use Rattle.decimal_json.proofs.Digits.{digit_stays}
use Rattle.decimal_json.proofs.Fronts.{leads_more}

none_needed : (p : Phase) → repeats p ≡ true → needed p ≡ 0
none_needed Start r = cc
none_needed Minus r = cc
none_needed Zero r = cc
none_needed Digits r = refl
none_needed Point r = cc
none_needed Fraction r = refl
none_needed Letter r = cc
none_needed Sign r = cc
none_needed Exponent r = refl

-- The step of the walk at a digit that leads from the phase to itself.
pub leads_by_digit : (b : List ℕ) (i : ℕ) (p : Phase) → i < length b → LeadsTo (take i b) p → (repeats p && is_ascii_digit (get_or b i 0)) ≡ true → i < 64 → LeadsTo (take (i + 1) b) p
leads_by_digit b i p within leads stays short =
    let parts = and_parts (repeats p) (is_ascii_digit (get_or b i 0)) stays in
    let none : needed p ≡ 0 = none_needed p parts.0 in
    leads_more b i p p within leads (digit_stays p (get_or b i 0) stays) (omega arith)

-- A block of such digits.
pub leads_by_digits : (b : List ℕ) (i n : ℕ) (p : Phase) → i + n ≤ length b → LeadsTo (take i b) p → repeats p ≡ true → IsTrue (list_all is_ascii_digit (take n (drop i b))) → i + n ≤ 64 → LeadsTo (take (i + n) b) p
leads_by_digits b i zero p within leads on digits short =
    let e : i + 0 ≡ i = omega arith in
    subst (λ k. LeadsTo (take k b) p) (sym e) leads
leads_by_digits b i (suc n) p within leads on digits short =
    let first : drop i b ≡ get_or b i 0 ∷ drop (i + 1) b = drop_more b i 0 (omega arith) in
    let both = and_parts (is_ascii_digit (get_or b i 0)) (list_all is_ascii_digit (take n (drop (i + 1) b))) (subst (λ x. IsTrue (list_all is_ascii_digit (take (suc n) x))) first digits) in
    let next_one : LeadsTo (take (i + 1) b) p = leads_by_digit b i p (omega arith) leads (and_from (repeats p) (is_ascii_digit (get_or b i 0)) on both.0) (omega arith) in
    let e : i + 1 + n ≡ i + suc n = omega arith in
    subst (λ k. LeadsTo (take k b) p) e (leads_by_digits b (i + 1) n p (omega arith) next_one on both.1 (omega arith))

zero_opens : (p : Phase) → begins_integer p ≡ true → next p 48 ≡ Some Zero
zero_opens Start h = refl
zero_opens Minus h = refl
zero_opens Zero h = cc
zero_opens Digits h = cc
zero_opens Point h = cc
zero_opens Fraction h = cc
zero_opens Letter h = cc
zero_opens Sign h = cc
zero_opens Exponent h = cc

digit_opens : (p : Phase) (c : ℕ) → begins_integer p ≡ true → 49 ≤ c → c ≤ 57 → next p c ≡ Some Digits
digit_opens Start c h least most = grind arith
digit_opens Minus c h least most = grind arith
digit_opens Zero c h least most = cc
digit_opens Digits c h least most = cc
digit_opens Point c h least most = cc
digit_opens Fraction c h least most = cc
digit_opens Letter c h least most = cc
digit_opens Sign c h least most = cc
digit_opens Exponent c h least most = cc

point_opens : (p : Phase) → begins_fraction p ≡ true → next p 46 ≡ Some Point
point_opens Start h = cc
point_opens Minus h = cc
point_opens Zero h = refl
point_opens Digits h = refl
point_opens Point h = cc
point_opens Fraction h = cc
point_opens Letter h = cc
point_opens Sign h = cc
point_opens Exponent h = cc

-- The step of the walk into an integer.
pub leads_to_zero : (b : List ℕ) (i : ℕ) (p : Phase) → i < length b → LeadsTo (take i b) p → begins_integer p ≡ true → get_or b i 0 ≡ 48 → i ≤ 1 → LeadsTo (take (i + 1) b) Zero
leads_to_zero b i p within leads opens byte early =
    leads_more b i p Zero within leads (subst (λ c. next p c ≡ Some Zero) (sym byte) (zero_opens p opens)) (omega arith)

pub leads_to_digits : (b : List ℕ) (i : ℕ) (p : Phase) → i < length b → LeadsTo (take i b) p → begins_integer p ≡ true → 49 ≤ get_or b i 0 → get_or b i 0 ≤ 57 → i ≤ 1 → LeadsTo (take (i + 1) b) Digits
leads_to_digits b i p within leads opens least most early =
    leads_more b i p Digits within leads (digit_opens p (get_or b i 0) opens least most) (omega arith)

-- The steps of the walk into a fraction.
pub leads_to_fraction : (b : List ℕ) (i : ℕ) (p : Phase) → i + 1 < length b → LeadsTo (take i b) p → begins_fraction p ≡ true → get_or b i 0 ≡ 46 → is_ascii_digit (get_or b (i + 1) 0) ≡ true → i < 63 → LeadsTo (take (i + 2) b) Fraction
leads_to_fraction b i p within leads opens byte digit short =
    let point : LeadsTo (take (i + 1) b) Point = leads_more b i p Point (omega arith) leads (subst (λ c. next p c ≡ Some Point) (sym byte) (point_opens p opens)) (omega arith) in
    let goes : next Point (get_or b (i + 1) 0) ≡ Some Fraction = ap (λ (d : Bool). if d then Some Fraction else None) digit in
    let two : i + 1 + 1 ≡ i + 2 = omega arith in
    subst (λ n. LeadsTo (take n b) Fraction) two (leads_more b (i + 1) Point Fraction within point goes (omega arith))
