-- Token texts, whose tokens represent properties. Source: own.
use Rattle.std.specs.Prelude.{ℕ, ◌+◌, ◌-◌, List, [], ◌∷◌, length, drop, flat_map, map, Bool, true, false, ◌||◌, nat_eq}
use Rattle.std.specs.Prelude.{codes, Option, Some, None, option_map, unwrap_or, if◌then◌else◌}
use Rattle.std.specs.List.{list_any}
use Rattle.decimal_json.specs.Tree.{Tree, text, list, tree, trees_of}
use Rattle.prop_values.specs.Data.{pairs_of}
use Rattle.prop_values.specs.Equality.{at_key}
use Rattle.prop_values.specs.ValueText.{shown_text}
use Rattle.tile_reader.specs.declared.tile.Feature.{Feature}
use Rattle.legacy_functions.specs.declared.tokens.TokenPiece.{TokenPiece}
use Rattle.legacy_functions.specs.declared.tokens.TokenPiece.TheVariants.{Plain, Token}

-- '{' is 123 and '}' is 125
abbrev pub is_brace : ℕ → Bool
is_brace b = nat_eq b 123 || nat_eq b 125

abbrev pub before_brace : List ℕ → List ℕ
before_brace [] = []
before_brace (b ∷ bs) = if is_brace b then [] else b ∷ before_brace bs

abbrev pub closes : List ℕ → Bool
closes [] = false
closes (b ∷ bs) = nat_eq b 125

-- a name is not empty
abbrev pub closed_name : List ℕ → List ℕ → Option (List ℕ)
closed_name [] later = None
closed_name (b ∷ bs) later = if closes later then Some (b ∷ bs) else None

-- The name of the token that a '{' begins, by what follows it: one or more bytes other than braces, and then
-- a '}'.
abbrev pub token_name : List ℕ → Option (List ℕ)
token_name bs = closed_name (before_brace bs) (drop (length (before_brace bs)) bs)

-- the name of the token that a byte begins
abbrev pub token_at : ℕ → List ℕ → Option (List ℕ)
token_at b bs = if nat_eq b 123 then token_name bs else None

-- a byte of no token, before the pieces after it
abbrev pub with_byte : ℕ → List TokenPiece → List TokenPiece
with_byte b (Plain s ∷ ps) = Plain (b ∷ s) ∷ ps
with_byte b (Token name ∷ ps) = Plain (b ∷ []) ∷ Token name ∷ ps
with_byte b [] = Plain (b ∷ []) ∷ []

-- a token, or a byte, before the pieces after it
abbrev pub with_piece : ℕ → Option (List ℕ) → List TokenPiece → List TokenPiece
with_piece b (Some name) ps = Token name ∷ ps
with_piece b None ps = with_byte b ps

-- how many bytes of a token follow its '{'
abbrev pub rest_of_token : Option (List ℕ) → ℕ
rest_of_token (Some name) = length name + 1
rest_of_token None = 0

-- The pieces of a text from the left, after `passed` bytes of a token that was found.
abbrev pub pieces_behind : ℕ → List ℕ → List TokenPiece
pieces_behind k [] = []
pieces_behind k (b ∷ bs) =
    if nat_eq k 0 then with_piece b (token_at b bs) (pieces_behind (rest_of_token (token_at b bs)) bs) else
    pieces_behind (k - 1) bs

abbrev pub pieces : List ℕ → List TokenPiece
pieces s = pieces_behind 0 s

abbrev pub is_token : TokenPiece → Bool
is_token (Plain s) = false
is_token (Token name) = true

abbrev pub has_tokens : List ℕ → Bool
has_tokens s = list_any is_token (pieces s)

-- ---- what a token text is on a feature: each token is replaced by the text of that property, which is empty
-- where it is missing

abbrev pub property_text : List ℕ → Feature → List ℕ
property_text name feature = unwrap_or (option_map shown_text (at_key name (pairs_of feature.properties))) []

abbrev pub piece_text : Feature → TokenPiece → List ℕ
piece_text feature (Plain s) = s
piece_text feature (Token name) = property_text name feature

abbrev pub token_text : List ℕ → Feature → List ℕ
token_text s feature = flat_map (piece_text feature) (pieces s)

-- ---- the expression that means the same: `concat` of the pieces

abbrev pub call : List ℕ → List Tree → Tree
call name elements = list (tree (text name) (trees_of elements))

abbrev pub property_expression : List ℕ → Tree
property_expression name = call (codes "get") (text name ∷ [])

abbrev pub piece_expression : TokenPiece → Tree
piece_expression (Plain s) = text s
piece_expression (Token name) = property_expression name

abbrev pub token_expression : List ℕ → Tree
token_expression s = call (codes "concat") (map piece_expression (pieces s))
