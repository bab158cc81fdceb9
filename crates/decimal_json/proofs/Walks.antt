-- What a walk over the bytes says of the number at their front.
use Rattle.std.proofs.Common.{◌≡◌, ℕ, List, take, drop, sym, ◌∙◌, ap, subst}
use Rattle.std.specs.Prelude.{Option, Some, None, IsTrue}
use Rattle.std.specs.Str.{IsAscii}
use Rattle.json_tokens.specs.declared.kind.JsonKind.{JsonKind}
use Rattle.json_tokens.specs.declared.kind.JsonKind.TheVariants.{Syntax, Utf8, DuplicateKey, Depth, NumberLength, LoneSurrogate}
use Rattle.json_tokens.specs.Number.{is_number}
use Rattle.json_tokens.specs.NumberToken.{SpellsNumber}
use Rattle.json_tokens.specs.Readers.{IsTaken, IsFault}
use Rattle.decimal_json.specs.Walk.{IsWalk}
use Rattle.decimal_json.proofs.Fronts.{front_bytes, bytes_are_ascii}
use Rattle.decimal_json.proofs.NumberTaken.{is_taken, whole_number}
use Rattle.decimal_json.proofs.NumberFaults.{syntax_fault, length_fault}

-- The walk over what is left at the cursor is a walk over what is taken there.
pub walk_at : {rest b front left : List ℕ} {fault : Option JsonKind} (count : ℕ) → IsWalk (take count rest) (drop count rest) fault → rest ≡ b → front ≡ take count b → left ≡ drop count b → IsWalk front left fault
walk_at {b = b} {front = front} {fault = fault} count walk at taken others =
    let here = subst (λ r. IsWalk (take count r) (drop count r) fault) at walk in
    subst (λ l. IsWalk front l fault) (sym others) (subst (λ f. IsWalk f (drop count b) fault) (sym taken) here)

pub walk_is_ascii : (front left : List ℕ) (fault : Option JsonKind) → IsWalk front left fault → IsAscii front
walk_is_ascii front left fault walk = bytes_are_ascii front (front_bytes front walk.phase walk.leads.led)

taken_there : (front left : List ℕ) → IsWalk front left None → IsTaken SpellsNumber front front left
taken_there front left walk = is_taken front left walk.phase walk.leads walk.ends.0 walk.ends.1

pub walk_takes : (front left text : List ℕ) (fault : Option JsonKind) → IsWalk front left fault → fault ≡ None → text ≡ front → IsTaken SpellsNumber text front left
walk_takes front left text fault walk none same =
    subst (λ t. IsTaken SpellsNumber t front left) (sym same) (taken_there front left (subst (λ f. IsWalk front left f) none walk))

number_there : (front left : List ℕ) → IsWalk front left None → IsTrue (is_number front)
number_there front left walk = whole_number front walk.phase walk.leads.led walk.ends.0

pub walk_is_number : (front left text : List ℕ) (fault : Option JsonKind) → IsWalk front left fault → fault ≡ None → text ≡ front → IsTrue (is_number text)
walk_is_number front left text fault walk none same = ap is_number same ∙ number_there front left (subst (λ f. IsWalk front left f) none walk)

fault_there : (front left : List ℕ) (kind : JsonKind) → IsWalk front left (Some kind) → IsFault SpellsNumber kind front left
fault_there front left Syntax walk = syntax_fault front left walk.phase walk.leads walk.ends.0 walk.ends.1
fault_there front left NumberLength walk = length_fault front left walk.phase walk.leads walk.ends
fault_there front left Utf8 walk = absurd walk.ends
fault_there front left DuplicateKey walk = absurd walk.ends
fault_there front left Depth walk = absurd walk.ends
fault_there front left LoneSurrogate walk = absurd walk.ends

pub walk_fails : (front left : List ℕ) (kind : JsonKind) (fault : Option JsonKind) → IsWalk front left fault → fault ≡ Some kind → IsFault SpellsNumber kind front left
walk_fails front left kind fault walk some = fault_there front left kind (subst (λ f. IsWalk front left f) some walk)
