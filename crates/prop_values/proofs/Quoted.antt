-- The JSON string of a UTF-8 text is UTF-8.
use Rattle.std.proofs.Common.{◌≡◌, ℕ, zero, suc, ◌+◌, ◌/◌, ◌%◌, ◌<◌, ◌≤◌, List, [], ◌∷◌, ◌++◌, refl, ap, sym, ◌∙◌, subst, arith, inl, inr}
use Rattle.std.specs.Prelude.{Bool, true, nat_lt, ◌&&◌, flat_map}
use Rattle.std.specs.Str.{IsUtf8, IsAscii}
use Rattle.std.proofs.Math.Utf8.{encode, encodes, scalar, scalars}
use Rattle.std.proofs.lemmas.Bool.{cond_both, and_parts, cond-true, lt-ltb, ltb-true, cases_lt, cases_eq}
use Rattle.std.proofs.lemmas.Grind.{flat_map-append}
use Rattle.std.proofs.lemmas.Str.{IsUtf8-append, IsUtf8-nil, IsUtf8-encode, IsUtf8-from_ascii, IsAscii-append}
use Rattle.std.proofs.lemmas.Str.Ascii.{IsAscii-nil, IsAscii-cons}
use Rattle.decimal_json.specs.JsonText.{byte_json, text_json}

-- a byte outside ASCII is unescaped
high_byte : (b : ℕ) → 128 ≤ b → byte_json b ≡ b ∷ []
high_byte b h = grind arith

one : (b : ℕ) → b < 128 → IsAscii (b ∷ [])
one b h = IsAscii-cons b [] h IsAscii-nil

abbrev are_low : List ℕ → Bool
are_low [] = true
are_low (b ∷ bs) = nat_lt b 128 && are_low bs

low_bytes : (bs : List ℕ) → are_low bs ≡ true → IsAscii bs
low_bytes [] e = IsAscii-nil
low_bytes (b ∷ bs) e =
    let parts = and_parts (nat_lt b 128) (are_low bs) e in
    IsAscii-cons b bs (ltb-true b 128 parts.0) (low_bytes bs parts.1)

-- what is written for the bytes below n is ASCII
abbrev writes_low : ℕ → Bool
writes_low zero = true
writes_low (suc n) = are_low (byte_json n) && writes_low n

written_low : (n : ℕ) → writes_low n ≡ true → (b : ℕ) → b < n → are_low (byte_json b) ≡ true
written_low zero e b h = absurd (omega arith)
written_low (suc n) e b h =
    let parts = and_parts (are_low (byte_json n)) (writes_low n) e in
    elim (cases_eq b n) [ inl same ↦ ap (λ k. are_low (byte_json k)) same ∙ parts.0 | inr other ↦ written_low n parts.1 b (omega arith) ]

-- a byte of ASCII is written in ASCII
low_byte : (b : ℕ) → b < 128 → IsAscii (byte_json b)
low_byte b h = low_bytes (byte_json b) (written_low 128 refl b h)

abbrev AllHigh : List ℕ → Type 0
AllHigh [] = Unit {0}
AllHigh (b ∷ bs) = (128 ≤ b) × AllHigh bs

high_bytes : (bs : List ℕ) → AllHigh bs → flat_map byte_json bs ≡ bs
high_bytes [] h = refl
high_bytes (b ∷ bs) h = λ i. high_byte b h.0 i ++ high_bytes bs h.1 i

encode_high : (c : ℕ) → 128 ≤ c → AllHigh (encode c)
unfolding encode
encode_high c h =
    cond_both (nat_lt c 128) (c ∷ []) _ AllHigh (λ e. (h, tt)) (λ e.
    cond_both (nat_lt c 2048) ((192 + c / 64) ∷ (128 + c % 64) ∷ []) _ AllHigh (λ e. (omega arith, (omega arith, tt))) (λ e.
    cond_both (nat_lt c 65536) ((224 + c / 4096) ∷ (128 + c / 64 % 64) ∷ (128 + c % 64) ∷ []) ((240 + c / 262144) ∷ (128 + c / 4096 % 64) ∷ (128 + c / 64 % 64) ∷ (128 + c % 64) ∷ []) AllHigh
    (λ e. (omega arith, (omega arith, (omega arith, tt))))
    (λ e. (omega arith, (omega arith, (omega arith, (omega arith, tt)))))))

encode_low : (c : ℕ) → c < 128 → encode c ≡ c ∷ []
unfolding encode
encode_low c h = cond-true (nat_lt c 128) (c ∷ []) _ (lt-ltb c 128 h)

low_char : (c : ℕ) → c < 128 → IsUtf8 (flat_map byte_json (encode c))
low_char c h = subst (λ bs. IsUtf8 (flat_map byte_json bs)) (sym (encode_low c h)) (IsUtf8-from_ascii (byte_json c ++ []) (IsAscii-append (byte_json c) [] (low_byte c h) IsAscii-nil))

high_char : (c : ℕ) → scalar c ≡ true → 128 ≤ c → IsUtf8 (flat_map byte_json (encode c))
high_char c s h = subst IsUtf8 (sym (high_bytes (encode c) (encode_high c h))) (IsUtf8-encode c s)

char_json : (c : ℕ) → scalar c ≡ true → IsUtf8 (flat_map byte_json (encode c))
char_json c s = elim (cases_lt c 128) [ inl low ↦ low_char c low | inr high ↦ high_char c s high ]

chars_json : (cs : List ℕ) → scalars cs ≡ true → IsUtf8 (flat_map byte_json (encodes cs))
chars_json [] h = IsUtf8-nil
chars_json (c ∷ cs) h =
    let parts = and_parts (scalar c) (scalars cs) h in
    subst IsUtf8 (sym (flat_map-append byte_json (encode c) (encodes cs))) (IsUtf8-append (flat_map byte_json (encode c)) (flat_map byte_json (encodes cs)) (char_json c parts.0) (chars_json cs parts.1))

quote : IsUtf8 (34 ∷ [])
quote = IsUtf8-from_ascii (34 ∷ []) (one 34 (omega arith))

pub quoted_utf8 : (s : List ℕ) → IsUtf8 s → IsUtf8 (text_json s)
quoted_utf8 s h =
    IsUtf8-append (34 ∷ []) (flat_map byte_json s ++ 34 ∷ []) quote (IsUtf8-append (flat_map byte_json s) (34 ∷ []) (subst (λ bs. IsUtf8 (flat_map byte_json bs)) h.1.1 (chars_json h.0 h.1.0)) quote)
