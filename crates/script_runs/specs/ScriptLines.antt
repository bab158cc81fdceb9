-- The lines of a script. Source: own.
use Rattle.std.specs.Prelude.{ℕ, List, [], ◌∷◌, ◌++◌, nat_eq, if◌then◌else◌}

-- what follows the last LF is a line where it is not empty
abbrev pub last_line : List ℕ → List (List ℕ)
last_line [] = []
last_line (b ∷ bs) = (b ∷ bs) ∷ []

-- the lines of bytes, after those bytes of the first line that were read
abbrev pub lines_from : (read bytes : List ℕ) → List (List ℕ)
lines_from read [] = last_line read
lines_from read (b ∷ bs) = if nat_eq b 10 then read ∷ lines_from [] bs else lines_from (read ++ b ∷ []) bs

-- The lines of a script, which is cut at its LF bytes.
abbrev pub script_lines : List ℕ → List (List ℕ)
script_lines bytes = lines_from [] bytes
