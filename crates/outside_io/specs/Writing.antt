-- What a sink holds after a write.
use Rattle.std.specs.Prelude.{◌≡◌, ℕ, List, ◌++◌, take, Option}
use Rattle.std.specs.Option.{option_map}

-- it holds what it held, and then this text; where its contents are unknown, they remain unknown
abbrev pub Gains : Option (List ℕ) → Option (List ℕ) → List ℕ → Type 0
Gains old new text = new ≡ option_map (λ bytes. bytes ++ text) old

-- it holds what it held, and then a prefix of this text
abbrev pub GainsPrefix : Option (List ℕ) → Option (List ℕ) → List ℕ → Type 0
GainsPrefix old new text = (n : ℕ) × Gains old new (take n text)
