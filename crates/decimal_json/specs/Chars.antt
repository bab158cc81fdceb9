-- What is at the front of some bytes.
use Rattle.std.specs.Prelude.{◌≡◌, ◌≤◌, ◌<◌, ℕ, List, ◌∷◌, ◌++◌, length, take, drop, Bool, ◌&&◌, ◌==◌, nat_le, nat_lt}
use Rattle.std.specs.Prelude.{if◌then◌else◌, IsTrue, IsUtf8}
use Rattle.std.specs.List.{list_all}
use Rattle.json_tokens.specs.TextToken.{is_unescaped}
use Rattle.decimal_json.specs.declared.chars.CharFront.{CharFront}
use Rattle.decimal_json.specs.declared.chars.CharFront.TheVariants.{Whole, Cut}

-- An unescaped byte of ASCII: neither a control byte nor a mark nor a reverse solidus.
-- Source: RFC 8259 §7.
abbrev pub is_plain_ascii : ℕ → Bool
is_plain_ascii c = is_unescaped c && nat_lt c 128

-- A byte of a character of more bytes than one. Source: RFC 3629 §3.
abbrev pub is_beyond_ascii : ℕ → Bool
is_beyond_ascii c = nat_le 128 c

-- A byte that begins a character of more bytes than one: the first bytes of UTF8-2, UTF8-3 and UTF8-4.
-- Source: RFC 3629 §4.
abbrev pub begins_char : ℕ → Bool
begins_char c = nat_le 194 c && nat_le c 244

-- UTF8-tail = %x80-BF. Source: RFC 3629 §4.
abbrev pub goes_on : ℕ → Bool
goes_on c = nat_le 128 c && nat_le c 191

-- The second bytes of the rows of UTF8-2, UTF8-3 and UTF8-4. Source: RFC 3629 §4.
abbrev pub may_follow : ℕ → ℕ → Bool
may_follow first c =
    if first == 224 then nat_le 160 c && nat_le c 191 else
    if first == 237 then nat_le 128 c && nat_le c 159 else
    if first == 240 then nat_le 144 c && nat_le c 191 else
    if first == 244 then nat_le 128 c && nat_le c 143 else
    goes_on c

-- These bytes are characters of more bytes than one each. Source: own.
pub record IsBeyondAscii (b : List ℕ) : Type 0 where
  pub utf8 : IsUtf8 b
  pub bytes : IsTrue (list_all is_beyond_ascii b)

-- The front begins a character of more bytes than one, or nothing has begun; and with the next byte no
-- character goes on or begins. Source: own.
pub record IsCut (front left : List ℕ) : Type 0 where
  pub completes : (more : List ℕ) × IsBeyondAscii (front ++ more)
  pub stuck : (c : ℕ) (rest more : List ℕ) → left ≡ c ∷ rest → IsUtf8 (front ++ c ∷ more) → ⊥

-- A character of `count` bytes is at the front, or `count` bytes that begin one. Source: own.
abbrev pub IsFound : List ℕ → CharFront → Type 0
IsFound b (Whole count) = (0 < count) × (count ≤ length b) × IsBeyondAscii (take count b)
IsFound b (Cut count) = (count ≤ length b) × IsCut (take count b) (drop count b)
