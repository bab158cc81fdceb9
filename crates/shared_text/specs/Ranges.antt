-- Ranges of a list of bytes. Source: own.
use Rattle.std.specs.Prelude.{◌≡◌, ℕ, ◌-◌, List, ◌++◌, take, drop}

-- The most bytes of a document: 2 ^ 32 - 1.
abbrev pub LONGEST : ℕ
LONGEST = 4294967295

-- The bytes from one place up to another.
abbrev pub part : ℕ → ℕ → List ℕ → List ℕ
part from to bytes = take (to - from) (drop from bytes)

-- The bytes end the document.
abbrev pub IsRest : List ℕ → List ℕ → Type 0
IsRest rest document = (front : List ℕ) × (document ≡ front ++ rest)
