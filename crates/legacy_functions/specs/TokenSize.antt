-- How long the token is that bytes begin with.
use Rattle.std.specs.Prelude.{ℕ, ◌+◌, List, [], ◌∷◌, length, Bool, false, ◌||◌, if◌then◌else◌, Option, Some, None}
use Rattle.std.specs.Prelude.{is_some}
use Rattle.legacy_functions.specs.Tokens.{token_at}

-- with its braces
abbrev pub size_of : Option (List ℕ) → ℕ
size_of (Some name) = length name + 2
size_of None = 0

-- 0 where they begin with none
abbrev pub token_size : List ℕ → ℕ
token_size [] = 0
token_size (b ∷ bs) = size_of (token_at b bs)

abbrev pub begins_token : List ℕ → Bool
begins_token [] = false
begins_token (b ∷ bs) = is_some (token_at b bs)

-- a token begins somewhere
abbrev pub any_token : List ℕ → Bool
any_token [] = false
any_token (b ∷ bs) = is_some (token_at b bs) || any_token bs

-- how many bytes are before the first token
abbrev pub plain_size : List ℕ → ℕ
plain_size [] = 0
plain_size (b ∷ bs) = if is_some (token_at b bs) then 0 else plain_size bs + 1
