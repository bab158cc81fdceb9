-- What the answers of a read say.
use Rattle.std.specs.Prelude.{ℕ, ◌+◌, ◌<◌, min, ◌≤◌, List, length, Option, Some, None, ◌⊎◌, [], ◌∷◌, ◌++◌, ◌≡◌}
use Rattle.outside_io.specs.declared.reading.ReadAnswer.{ReadAnswer}
use Rattle.outside_io.specs.declared.reading.ReadAnswer.TheVariants.{Done, TooLong, Failed, NoMemory}

-- the count rose by more than n, or is at its counter's last value
abbrev pub RoseBy : ℕ → ℕ → ℕ → Type 0
RoseBy n old new = min (old + n) 18446744073709551614 < new

-- the fact holds where the read is done
abbrev pub OnDone : ReadAnswer → Type 0 → Type 0
OnDone Done P = P
OnDone TooLong P = Unit {0}
OnDone Failed P = Unit {0}
OnDone NoMemory P = Unit {0}

-- the fact holds after every other answer
abbrev pub OnNotDone : ReadAnswer → Type 0 → Type 0
OnNotDone Done P = Unit {0}
OnNotDone TooLong P = P
OnNotDone Failed P = P
OnNotDone NoMemory P = P

-- the fact holds where the file is too long
abbrev pub OnTooLong : ReadAnswer → Type 0 → Type 0
OnTooLong Done P = Unit {0}
OnTooLong TooLong P = P
OnTooLong Failed P = Unit {0}
OnTooLong NoMemory P = Unit {0}

-- P holds where the read failed, and Q after every other answer
abbrev pub OnFailed : ReadAnswer → Type 0 → Type 0 → Type 0
OnFailed Done P Q = Q
OnFailed TooLong P Q = Q
OnFailed Failed P Q = P
OnFailed NoMemory P Q = Q

-- known bytes are within the limit
abbrev pub IsWithin : Option (List ℕ) → ℕ → Type 0
IsWithin None at_most = Unit {0}
IsWithin (Some told) at_most = length told ≤ at_most

-- known bytes are longer than the limit; where they are unknown, more than the limit was taken, as the count
-- of bytes taken before and after shows
abbrev pub IsLonger : Option (List ℕ) → ℕ → ℕ → ℕ → Type 0
IsLonger None at_most old new = RoseBy at_most old new
IsLonger (Some told) at_most old new = at_most < length told

-- the name was asked, after those before it; a read that failed to allocate may not have come so far
abbrev pub IsAsked : ReadAnswer → (name : List ℕ) → (old new : List (List ℕ)) → Type 0
IsAsked Done name old new = new ≡ old ++ name ∷ []
IsAsked TooLong name old new = new ≡ old ++ name ∷ []
IsAsked Failed name old new = new ≡ old ++ name ∷ []
IsAsked NoMemory name old new = (new ≡ old) ⊎ (new ≡ old ++ name ∷ [])
