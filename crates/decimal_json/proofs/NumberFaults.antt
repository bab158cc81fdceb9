-- The fault where the walk ends at no number.
use Rattle.std.proofs.Common.{◌≡◌, ◌<◌, ◌≤◌, ℕ, ◌+◌, List, [], ◌∷◌, ◌++◌, length, take, refl, sym, ◌∙◌, ap, arith, append-nil, append_assoc, length-append}
use Rattle.std.specs.Prelude.{◌≢◌, true, false, IsTrue, Some, None}
use Rattle.std.proofs.lemmas.Bool.{both_ways}
use Rattle.json_tokens.specs.declared.kind.JsonKind.{JsonKind}
use Rattle.json_tokens.specs.declared.kind.JsonKind.TheVariants.{Syntax, Utf8, DuplicateKey, Depth, NumberLength, LoneSurrogate}
use Rattle.json_tokens.specs.Rules.{Rules, all_rules, without}
use Rattle.json_tokens.specs.Number.{is_number}
use Rattle.json_tokens.specs.NumberToken.{SpellsNumber}
use Rattle.json_tokens.specs.Production.{EndsNumber}
use Rattle.json_tokens.specs.Readers.{CanEnd, CannotEnd, IsTurn, IsStop, IsFault}
use Rattle.decimal_json.specs.declared.phase.Phase.{Phase}
use Rattle.decimal_json.specs.declared.phase.Phase.TheVariants.{Start}
use Rattle.decimal_json.specs.Automaton.{next, is_whole, needed, reached}
use Rattle.decimal_json.specs.Walk.{LeadsTo, IsStuck, IsTooLong}
use Rattle.decimal_json.proofs.Rest.{is_rest, rest_ends, number_behind, ending, rest_ending, length_ending, needed_least}
use Rattle.decimal_json.proofs.Fronts.{front_bytes, covers, leads_on}
use Rattle.decimal_json.proofs.NumberTaken.{stuck_rest}

-- Bytes that lead to a phase begin a number, of the fewest bytes that end it.
ends_there : (front : List ℕ) (p : Phase) (r : Rules) → reached (Some Start) front ≡ Some p → (r.number ≡ true → length (front ++ ending p) ≤ 64) → CanEnd SpellsNumber r front
ends_there front p r led short = (front ++ ending p, ending p, λ q ends. (sym (append_assoc front (ending p) q), number_behind front (ending p) p led ∙ rest_ending p, short, ends))

can_end : (front : List ℕ) (p : Phase) (r : Rules) → LeadsTo front p → CanEnd SpellsNumber r front
can_end front p r leads =
    let fits : length front + needed p ≤ 64 = leads.fits in
    let ended : length (ending p) ≡ needed p = length_ending p in
    let whole : length (front ++ ending p) ≡ length front + length (ending p) = length-append front (ending p) in
    let short : length (front ++ ending p) ≤ 64 = omega arith in
    ends_there front p r leads.led (λ _. short)

-- A number of bytes whose front leads to a phase is the front and a rest of the phase.
rest_of : (front v b q : List ℕ) (p : Phase) → reached (Some Start) front ≡ Some p → front ++ b ≡ v ++ q → IsTrue (is_number v) → EndsNumber q → (x : List ℕ) × (v ≡ front ++ x) × (b ≡ x ++ q) × (is_rest p x ≡ true)
rest_of front v b q p led e number ends =
    let cut = covers front v b q (front_bytes front p led) ends e in
    (cut.0, cut.1, cut.2, sym (number_behind front cut.0 p led) ∙ (sym (ap is_number cut.1) ∙ number))

unfinished : (p : Phase) → is_whole p ≡ false → is_rest p [] ≡ true → ⊥
unfinished p part h = both_ways (is_whole p) part (sym (rest_ends p) ∙ h)

-- There is no number where the phase is not whole and no byte leads on.
no_number_there : (front left more v q : List ℕ) (p : Phase) → reached (Some Start) front ≡ Some p → is_whole p ≡ false → IsStuck p left → take 1 more ≡ take 1 left → front ++ more ≡ v ++ q → IsTrue (is_number v) → EndsNumber q → ⊥
no_number_there front left more v q p led part stuck alike e number ends =
    let rest = rest_of front v more q p led e number ends in
    let nothing : rest.0 ≡ [] = stuck_rest p left more rest.0 q stuck alike rest.2 rest.3 in
    unfinished p part (sym (ap (λ x. is_rest p x) nothing) ∙ rest.3)

cannot_go_on : (front : List ℕ) (c : ℕ) (p : Phase) (r : Rules) → reached (Some Start) front ≡ Some p → is_whole p ≡ false → next p c ≡ None → CannotEnd SpellsNumber r (front ++ c ∷ [])
cannot_go_on front c p r led part stuck v more q spelled =
    no_number_there front (c ∷ []) (c ∷ more) v q p led part stuck refl (sym (append_assoc front (c ∷ []) more) ∙ spelled.0) spelled.1 spelled.3

syntax_stop : (front left : List ℕ) (p : Phase) → LeadsTo front p → is_whole p ≡ false → IsStuck p left → IsStop SpellsNumber Syntax front left
syntax_stop front [] p leads part stuck =
    (refl, λ v q spelled. no_number_there front [] [] v q p leads.led part stuck refl (append-nil front ∙ spelled.0) spelled.1 spelled.3)
syntax_stop front (c ∷ left) p leads part stuck = record {
  longest = cannot_go_on front c p all_rules leads.led part stuck;
  caused = λ other. absurd (other refl);
  only = λ other _. cannot_go_on front c p (without other) leads.led part stuck;
}

pub syntax_fault : (front left : List ℕ) (p : Phase) → LeadsTo front p → is_whole p ≡ false → IsStuck p left → IsFault SpellsNumber Syntax front left
syntax_fault front left p leads part stuck = record {
  begins = λ r. can_end front p r leads;
  stops = syntax_stop front left p leads part stuck;
}

-- Each rule set but one has the rule on the length.
rule_stays : (other : JsonKind) → other ≢ NumberLength → (without other).number ≡ true
rule_stays Syntax differs = refl
rule_stays Utf8 differs = refl
rule_stays DuplicateKey differs = refl
rule_stays Depth differs = refl
rule_stays NumberLength differs = absurd (differs refl)
rule_stays LoneSurrogate differs = refl

-- No number of at most 64 bytes begins with bytes whose phase needs more.
too_long : (front : List ℕ) (p : Phase) (r : Rules) → reached (Some Start) front ≡ Some p → 64 < length front + needed p → r.number ≡ true → CannotEnd SpellsNumber r front
too_long front p r led long rule v more q spelled =
    let rest = rest_of front v more q p led spelled.0 spelled.1 spelled.3 in
    let least : needed p ≤ length rest.0 = needed_least p rest.0 rest.3 in
    let whole : length v ≡ length front + length rest.0 = ap length rest.1 ∙ length-append front rest.0 in
    let short : length v ≤ 64 = spelled.2 rule in
    absurd (omega arith)

length_turn : (front : List ℕ) (p : Phase) → reached (Some Start) front ≡ Some p → 64 < length front + needed p → IsTurn SpellsNumber NumberLength front
length_turn front p led long = record {
  longest = too_long front p all_rules led long refl;
  caused = λ _. ends_there front p (without NumberLength) led (λ rule. absurd (cc));
  only = λ other differs. too_long front p (without other) led long (rule_stays other differs);
}

length_stop : (front left : List ℕ) (p : Phase) → reached (Some Start) front ≡ Some p → IsTooLong p (length front) left → IsStop SpellsNumber NumberLength front left
length_stop front [] p led long = absurd long
length_stop front (c ∷ left) p led long =
    let more : length (front ++ c ∷ []) ≡ length front + length (c ∷ []) = length-append front (c ∷ []) in
    let past : 64 < length front + 1 + needed long.0 = long.2 in
    let over : 64 < length (front ++ c ∷ []) + needed long.0 = omega arith in
    length_turn (front ++ c ∷ []) long.0 (leads_on front c p long.0 led long.1) over

pub length_fault : (front left : List ℕ) (p : Phase) → LeadsTo front p → IsTooLong p (length front) left → IsFault SpellsNumber NumberLength front left
length_fault front left p leads long = record {
  begins = λ r. can_end front p r leads;
  stops = length_stop front left p leads.led long;
}
