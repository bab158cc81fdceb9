-- What the reader of a text answers.
use Rattle.std.specs.Prelude.{◌≡◌, ◌≤◌, ℕ, ◌+◌, List, [], ◌∷◌, ◌++◌, length, IsUtf8, ◌⊎◌}
use Rattle.std.specs.Prelude.{Result, Ok, Err}
use Rattle.halts.specs.declared.halt.Halt.{Halt}
use Rattle.json_tokens.specs.declared.kind.JsonKind.{JsonKind}
use Rattle.halts.specs.declared.halt.Halt.TheVariants.{Fault, NoMemory}
use Rattle.json_tokens.specs.Rules.{Rules}
use Rattle.json_tokens.specs.Readers.{CanEnd, IsTaken, IsFault}
use Rattle.json_tokens.specs.TextToken.{SpellsText}

-- A text of at least this length, or one that is no UTF-8. Where the keys of an object so far are UTF-8,
-- what can become such a text for each bound can become a key that differs from them. A text that ends in
-- a lone surrogate, where that rule is dropped, can't grow any more, and yet differs. Source: own.
abbrev pub SpellsLong : ℕ → Rules → List ℕ → List ℕ → List ℕ → Type 0
SpellsLong least r s b q = SpellsText r s b q × ((least ≤ length s) ⊎ (IsUtf8 s → ⊥))

-- What a reader of what follows the opening quotation mark answers, and what it leaves. A text that is
-- taken could have gone on, before its closing mark, to one of any length; and whatever follows it,
-- it is the text there. Source: own.
abbrev pub GivesText : {A : Type 0} → (A → List ℕ) → List ℕ → Result A (Halt JsonKind) → List ℕ → Type 0
GivesText view b (Ok s) left =
    (front : List ℕ) × (b ≡ front ++ 34 ∷ left)
    × ((next : List ℕ) → IsTaken SpellsText (view s) (front ++ 34 ∷ []) next)
    × ((least : ℕ) (r : Rules) → CanEnd (SpellsLong least) r front)
GivesText view b (Err (Fault kind)) left =
    (front : List ℕ) × (b ≡ front ++ left) × ((least : ℕ) → IsFault (SpellsLong least) kind front left)
GivesText view b (Err NoMemory) left = Unit {0}
