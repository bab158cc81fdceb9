-- Why bytes are no JSON text, by the kind of the fault and the bytes from its place on. Source: RFC 8259; the sentences
-- own.
use Rattle.std.specs.Prelude.{ℕ, List, [], ◌∷◌, codes, nat_eq, Bool, false, ◌&&◌, ◌||◌, if◌then◌else◌}
use Rattle.json_tokens.specs.declared.kind.JsonKind.{JsonKind}
use Rattle.json_tokens.specs.declared.kind.JsonKind.TheVariants as kinds

-- they begin with a byte order mark, U+FEFF
abbrev pub has_mark : List ℕ → Bool
has_mark (a ∷ b ∷ c ∷ rest) = nat_eq a 239 && (nat_eq b 187 && nat_eq c 191)
has_mark _ = false

-- `/` is 47, `#` is 35, `'` is 39, `]` is 93, `}` is 125
abbrev pub byte_sentence : ℕ → List ℕ
byte_sentence c =
    if nat_eq c 47 || nat_eq c 35 then codes "JSON cannot go on so, and has no comments" else
    if nat_eq c 39 then codes "JSON cannot go on so: a text is in \", not in '" else
    if nat_eq c 93 then codes "an array cannot end here: is there a comma before it, or is an object open?" else
    if nat_eq c 125 then codes "an object cannot end here: is there a comma before it, or is an array open?" else
    codes "JSON cannot go on so: is a comma, a colon or a quotation mark missing before it?"

abbrev pub syntax_sentence : List ℕ → List ℕ
syntax_sentence [] = codes "the text ends before the value does"
syntax_sentence (c ∷ rest) =
    if has_mark (c ∷ rest) then codes "there is a byte order mark, which JSON does not have" else byte_sentence c

abbrev pub text_sentence : JsonKind → (rest : List ℕ) → List ℕ
text_sentence kinds.Syntax rest = syntax_sentence rest
text_sentence kinds.Utf8 rest = codes "this is no UTF-8"
text_sentence kinds.DuplicateKey rest = codes "a key is given twice in one object"
text_sentence kinds.Depth rest = codes "more than 64 arrays and objects are open at once"
text_sentence kinds.NumberLength rest = codes "a number is longer than 64 bytes"
text_sentence kinds.LoneSurrogate rest = codes "half of an escaped pair is missing"
