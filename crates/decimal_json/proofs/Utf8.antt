-- UTF-8 byte by byte, as RFC 3629 §4 has it, against the fact that bytes are UTF-8.
use Rattle.std.proofs.Common.{◌≡◌, ℕ, ◌+◌, ◌-◌, ◌*◌, ◌/◌, ◌<◌, ◌≤◌, List, [], ◌∷◌, ◌++◌, true, false, IsUtf8, refl, sym, ap, ◌∙◌, subst, append_assoc, arith, inl, inr}
use Rattle.std.specs.Prelude.{◌⊎◌, nat_lt}
use Rattle.std.proofs.lemmas.Bool.{and_parts, and_from, both_ways, cases_lt, cases_eq}
use Rattle.std.proofs.lemmas.Str.{IsUtf8-append, IsUtf8-nil, IsUtf8-encode, encode_ascii, IsUtf8-past_char}
use lib.Utf8.{scalar, scalars, next, encode, encodes, low_scalar, scalar_cases}
use Rattle.decimal_json.specs.Chars.{goes_on, may_follow, is_beyond_ascii, IsBeyondAscii, IsCut}

pub ascii_then : (x : ℕ) (xs : List ℕ) → x < 128 → IsUtf8 xs → IsUtf8 (x ∷ xs)
ascii_then x xs small u = IsUtf8-append (x ∷ []) xs (subst IsUtf8 (encode_ascii x small) (IsUtf8-encode x (low_scalar x (omega arith)))) u

-- the bytes of a character by its range
is_less : (m n : ℕ) → m < n → nat_lt m n ≡ true
is_less m n h = grind arith

not_less : (m n : ℕ) → n ≤ m → nat_lt m n ≡ false
not_less m n h = grind arith

two : (c : ℕ) → 128 ≤ c → c < 2048 → encode c ≡ (192 + c / 64) ∷ next c ∷ []
unfolding encode
two c l h = rw (not_less c 128 l, is_less c 2048 h) refl

three : (c : ℕ) → 2048 ≤ c → c < 65536 → encode c ≡ (224 + c / 4096) ∷ next (c / 64) ∷ next c ∷ []
unfolding encode
three c l h = rw (not_less c 128 (omega arith), not_less c 2048 l, is_less c 65536 h) refl

four : (c : ℕ) → 65536 ≤ c → encode c ≡ (240 + c / 262144) ∷ next (c / 4096) ∷ next (c / 64) ∷ next c ∷ []
unfolding encode
four c l = rw (not_less c 128 (omega arith), not_less c 2048 (omega arith), not_less c 65536 l) refl

pub high_scalar : (c : ℕ) → 57344 ≤ c → c < 1114112 → scalar c ≡ true
high_scalar c l h = grind arith

pub low_code : (c : ℕ) → c < 55296 → scalar c ≡ true
low_code c h = low_scalar c h

one_char : (c : ℕ) (b : List ℕ) → scalar c ≡ true → encode c ≡ b → IsUtf8 b
one_char c b is e = subst IsUtf8 e (IsUtf8-encode c is)

after_chars : (cs b : List ℕ) → IsUtf8 (encodes cs ++ b) → IsUtf8 b
after_chars [] b u = u
after_chars (c ∷ cs) b u = after_chars cs b (IsUtf8-past_char _ (encodes cs ++ b) c u (append_assoc (encode c) (encodes cs) b))

-- what follows characters is UTF-8 where all of it is
pub utf8_after : (a b : List ℕ) → IsUtf8 a → IsUtf8 (a ++ b) → IsUtf8 b
utf8_after a b u v = after_chars u.0 b (subst IsUtf8 (ap (λ w. w ++ b) (sym u.1.1)) v)

-- The bytes of the character that a byte beyond ASCII begins.
pub data Lead (x : ℕ) (y : List ℕ) : Type 0 where
  of_two : (b : ℕ) (z : List ℕ) → y ≡ b ∷ z → 194 ≤ x → x < 224 → may_follow x b ≡ true → Lead x y
  of_three : (b d : ℕ) (z : List ℕ) → y ≡ b ∷ d ∷ z → 224 ≤ x → x < 240 → may_follow x b ≡ true → goes_on d ≡ true → Lead x y
  of_four : (b d e : ℕ) (z : List ℕ) → y ≡ b ∷ d ∷ e ∷ z → 240 ≤ x → x ≤ 244 → may_follow x b ≡ true → goes_on d ≡ true → goes_on e ≡ true → Lead x y

follow_two : (x b : ℕ) → x < 224 → 128 ≤ b → b < 192 → may_follow x b ≡ true
follow_two x b h l m = grind arith

follow_three : (x b : ℕ) → 224 ≤ x → x < 240 → 128 ≤ b → b < 192 → (x ≡ 224 → 160 ≤ b) → (x ≡ 237 → b ≤ 159) → may_follow x b ≡ true
follow_three x b h k l m low high = elim (cases_eq x 224) [
  | inl e ↦ let f : 160 ≤ b = low e in grind arith
  | inr n ↦ elim (cases_eq x 237) [
    | inl e ↦ let f : b ≤ 159 = high e in grind arith
    | inr o ↦ grind arith
  ]
]

follow_four : (x b : ℕ) → 240 ≤ x → x ≤ 244 → 128 ≤ b → b < 192 → (x ≡ 240 → 144 ≤ b) → (x ≡ 244 → b ≤ 143) → may_follow x b ≡ true
follow_four x b h k l m low high = elim (cases_eq x 240) [
  | inl e ↦ let f : 144 ≤ b = low e in grind arith
  | inr n ↦ elim (cases_eq x 244) [
    | inl e ↦ let f : b ≤ 143 = high e in grind arith
    | inr o ↦ grind arith
  ]
]

tail_byte : (d : ℕ) → 128 ≤ d → d < 192 → goes_on d ≡ true
tail_byte d l h = grind arith

lead_two : (c x : ℕ) (r y : List ℕ) → 128 ≤ c → c < 2048 → (192 + c / 64) ∷ next c ∷ r ≡ x ∷ y → Lead x y
lead_two c x r y l h e =
    let first : 192 + c / 64 ≡ x = cc in
    let rest : y ≡ next c ∷ r = cc in
    of_two (next c) r rest (omega arith) (omega arith) (follow_two x (next c) (omega arith) (omega arith) (omega arith))

lead_three : (c x : ℕ) (r y : List ℕ) → 2048 ≤ c → c < 65536 → (c < 55296) ⊎ (57344 ≤ c) → (224 + c / 4096) ∷ next (c / 64) ∷ next c ∷ r ≡ x ∷ y → Lead x y
lead_three c x r y l h ok e =
    let first : 224 + c / 4096 ≡ x = cc in
    let rest : y ≡ next (c / 64) ∷ next c ∷ r = cc in
    let high : x ≡ 237 → next (c / 64) ≤ 159 = λ e. elim ok [ inl low ↦ omega arith | inr above ↦ absurd (omega arith) ] in
    of_three (next (c / 64)) (next c) r rest (omega arith) (omega arith) (follow_three x (next (c / 64)) (omega arith) (omega arith) (omega arith) (omega arith) (λ e. omega arith) high) (tail_byte (next c) (omega arith) (omega arith))

lead_four : (c x : ℕ) (r y : List ℕ) → 65536 ≤ c → c < 1114112 → (240 + c / 262144) ∷ next (c / 4096) ∷ next (c / 64) ∷ next c ∷ r ≡ x ∷ y → Lead x y
lead_four c x r y l h e =
    let first : 240 + c / 262144 ≡ x = cc in
    let rest : y ≡ next (c / 4096) ∷ next (c / 64) ∷ next c ∷ r = cc in
    of_four (next (c / 4096)) (next (c / 64)) (next c) r rest (omega arith) (omega arith)
    (follow_four x (next (c / 4096)) (omega arith) (omega arith) (omega arith) (omega arith) (λ e. omega arith) (λ e. omega arith))
    (tail_byte (next (c / 64)) (omega arith) (omega arith)) (tail_byte (next c) (omega arith) (omega arith))

lead_char : (c x : ℕ) (r y : List ℕ) → scalar c ≡ true → 128 ≤ x → encode c ++ r ≡ x ∷ y → Lead x y
lead_char c x r y is beyond e = elim (cases_lt c 128) [
  | inl h ↦ let f : c ∷ r ≡ x ∷ y = ap (λ w. w ++ r) (sym (encode_ascii c h)) ∙ e in let same : c ≡ x = cc in absurd (omega arith)
  | inr h ↦ elim (cases_lt c 2048) [
    | inl k ↦ lead_two c x r y h k (ap (λ w. w ++ r) (sym (two c h k)) ∙ e)
    | inr k ↦ elim (cases_lt c 65536) [
      | inl m ↦ lead_three c x r y k m (elim (scalar_cases c is) [ inl low ↦ inl low | inr above ↦ inr (above.0) ]) (ap (λ w. w ++ r) (sym (three c k m)) ∙ e)
      | inr m ↦ lead_four c x r y m (elim (scalar_cases c is) [ inl low ↦ omega arith | inr above ↦ above.1 ]) (ap (λ w. w ++ r) (sym (four c m)) ∙ e)
    ]
  ]
]

pub lead_of : (x : ℕ) (y : List ℕ) → 128 ≤ x → IsUtf8 (x ∷ y) → Lead x y
lead_of x y beyond ([], ok) = cc (ok.1)
lead_of x y beyond (c ∷ cs, ok) = lead_char c x (encodes cs) y (and_parts (scalar c) (scalars cs) ok.0).0 beyond ok.1

-- whole characters
tail_bounds : (d : ℕ) → goes_on d ≡ true → (128 ≤ d) × (d < 192)
tail_bounds d e = (grind arith, grind arith)

follow_bounds : (x b : ℕ) → may_follow x b ≡ true → (128 ≤ b) × (b < 192)
follow_bounds x b e = (grind arith, grind arith)

follow_224 : (x b : ℕ) → may_follow x b ≡ true → x ≡ 224 → 160 ≤ b
follow_224 x b e s = grind arith

follow_237 : (x b : ℕ) → may_follow x b ≡ true → x ≡ 237 → b ≤ 159
follow_237 x b e s = grind arith

follow_240 : (x b : ℕ) → may_follow x b ≡ true → x ≡ 240 → 144 ≤ b
follow_240 x b e s = grind arith

follow_244 : (x b : ℕ) → may_follow x b ≡ true → x ≡ 244 → b ≤ 143
follow_244 x b e s = grind arith

beyond : (d : ℕ) → 128 ≤ d → is_beyond_ascii d ≡ true
beyond d h = grind arith

utf8_two : (x b : ℕ) → 194 ≤ x → x < 224 → 128 ≤ b → b < 192 → IsUtf8 (x ∷ b ∷ [])
utf8_two x b l h k m =
    let c : ℕ = (x - 192) * 64 + (b - 128) in
    let first : 192 + c / 64 ≡ x = omega arith in
    let last : next c ≡ b = omega arith in
    one_char c (x ∷ b ∷ []) (low_scalar c (omega arith)) (two c (omega arith) (omega arith) ∙ cc)

pub whole_two : (x b : ℕ) → 194 ≤ x → x < 224 → may_follow x b ≡ true → IsBeyondAscii (x ∷ b ∷ [])
whole_two x b l h f =
    let k = follow_bounds x b f in
    record {
      utf8 = utf8_two x b l h k.0 k.1;
      bytes = and_from (is_beyond_ascii x) _ (beyond x (omega arith)) (and_from (is_beyond_ascii b) true (beyond b k.0) refl);
    }

utf8_three : (x b d : ℕ) → 224 ≤ x → x < 240 → may_follow x b ≡ true → goes_on d ≡ true → IsUtf8 (x ∷ b ∷ d ∷ [])
utf8_three x b d l h f t =
    let k = follow_bounds x b f in
    let m = tail_bounds d t in
    let c : ℕ = (x - 224) * 4096 + (b - 128) * 64 + (d - 128) in
    let first : 224 + c / 4096 ≡ x = omega arith in
    let middle : next (c / 64) ≡ b = omega arith in
    let last : next c ≡ d = omega arith in
    let least : 2048 ≤ c = elim (cases_eq x 224) [ inl e ↦ let low : 160 ≤ b = follow_224 x b f e in omega arith | inr above ↦ omega arith ] in
    let is : scalar c ≡ true = elim (cases_eq x 237) [
      | inl e ↦ let high : b ≤ 159 = follow_237 x b f e in low_scalar c (omega arith)
      | inr other ↦ elim (cases_lt x 237) [ inl below ↦ low_scalar c (omega arith) | inr above ↦ high_scalar c (omega arith) (omega arith) ]
    ] in
    one_char c (x ∷ b ∷ d ∷ []) is (three c least (omega arith) ∙ cc)

pub whole_three : (x b d : ℕ) → 224 ≤ x → x < 240 → may_follow x b ≡ true → goes_on d ≡ true → IsBeyondAscii (x ∷ b ∷ d ∷ [])
whole_three x b d l h f t = record {
  utf8 = utf8_three x b d l h f t;
  bytes = and_from (is_beyond_ascii x) _ (beyond x (omega arith)) (and_from (is_beyond_ascii b) _ (beyond b (follow_bounds x b f).0) (and_from (is_beyond_ascii d) true (beyond d (tail_bounds d t).0) refl));
}

utf8_four : (x b d e : ℕ) → 240 ≤ x → x ≤ 244 → may_follow x b ≡ true → goes_on d ≡ true → goes_on e ≡ true → IsUtf8 (x ∷ b ∷ d ∷ e ∷ [])
utf8_four x b d e l h f t s =
    let k = follow_bounds x b f in
    let m = tail_bounds d t in
    let n = tail_bounds e s in
    let c : ℕ = (x - 240) * 262144 + (b - 128) * 4096 + (d - 128) * 64 + (e - 128) in
    let first : 240 + c / 262144 ≡ x = omega arith in
    let near : next (c / 4096) ≡ b = omega arith in
    let middle : next (c / 64) ≡ d = omega arith in
    let last : next c ≡ e = omega arith in
    let least : 65536 ≤ c = elim (cases_eq x 240) [ inl e' ↦ let low : 144 ≤ b = follow_240 x b f e' in omega arith | inr above ↦ omega arith ] in
    let most : c < 1114112 = elim (cases_eq x 244) [ inl e' ↦ let high : b ≤ 143 = follow_244 x b f e' in omega arith | inr below ↦ omega arith ] in
    one_char c (x ∷ b ∷ d ∷ e ∷ []) (high_scalar c (omega arith) most) (four c least ∙ cc)

pub whole_four : (x b d e : ℕ) → 240 ≤ x → x ≤ 244 → may_follow x b ≡ true → goes_on d ≡ true → goes_on e ≡ true → IsBeyondAscii (x ∷ b ∷ d ∷ e ∷ [])
whole_four x b d e l h f t s = record {
  utf8 = utf8_four x b d e l h f t s;
  bytes = and_from (is_beyond_ascii x) _ (beyond x (omega arith)) (and_from (is_beyond_ascii b) _ (beyond b (follow_bounds x b f).0) (and_from (is_beyond_ascii d) _ (beyond d (tail_bounds d t).0) (and_from (is_beyond_ascii e) true (beyond e (tail_bounds e s).0) refl)));
}

-- parts of characters: a byte that may be second
second_byte : (x : ℕ) → (b : ℕ) × (may_follow x b ≡ true)
second_byte x = elim (cases_eq x 224) [
  | inl e ↦ (160, grind arith)
  | inr n ↦ elim (cases_eq x 240) [
    | inl e ↦ (144, grind arith)
    | inr o ↦ (128, grind arith)
  ]
]

pub cut_none : (left : List ℕ) → ((c : ℕ) (rest : List ℕ) → left ≡ c ∷ rest → (128 ≤ c) × ((c < 194) ⊎ (244 < c))) → IsCut [] left
cut_none left h = record {
  completes = ([], record { utf8 = IsUtf8-nil; bytes = refl });
  stuck = λ c rest more e u.
      let (high, none) = h c rest e in
      no_lead c more none (lead_of c more high u);
}
  where
    no_lead : (c : ℕ) (more : List ℕ) → (c < 194) ⊎ (244 < c) → Lead c more → ⊥
    no_lead c more (inl k) (of_two b z e l m f) = omega arith
    no_lead c more (inl k) (of_three b d z e l m f t) = omega arith
    no_lead c more (inl k) (of_four b d x z e l m f t s) = omega arith
    no_lead c more (inr k) (of_two b z e l m f) = omega arith
    no_lead c more (inr k) (of_three b d z e l m f t) = omega arith
    no_lead c more (inr k) (of_four b d x z e l m f t s) = omega arith

second_of : (x c : ℕ) (more : List ℕ) → may_follow x c ≡ false → Lead x (c ∷ more) → ⊥
second_of x c more bad (of_two b z e l m f) = let same : b ≡ c = cc in both_ways (may_follow x c) bad (sym (ap (may_follow x) same) ∙ f)
second_of x c more bad (of_three b d z e l m f t) = let same : b ≡ c = cc in both_ways (may_follow x c) bad (sym (ap (may_follow x) same) ∙ f)
second_of x c more bad (of_four b d w z e l m f t s) = let same : b ≡ c = cc in both_ways (may_follow x c) bad (sym (ap (may_follow x) same) ∙ f)

third_of : (x b c : ℕ) (more : List ℕ) → 224 ≤ x → goes_on c ≡ false → Lead x (b ∷ c ∷ more) → ⊥
third_of x b c more k bad (of_two b' z e l m f) = omega arith
third_of x b c more k bad (of_three b' d z e l m f t) = let same : d ≡ c = cc in both_ways (goes_on c) bad (sym (ap goes_on same) ∙ t)
third_of x b c more k bad (of_four b' d w z e l m f t s) = let same : d ≡ c = cc in both_ways (goes_on c) bad (sym (ap goes_on same) ∙ t)

fourth_of : (x b d c : ℕ) (more : List ℕ) → 240 ≤ x → goes_on c ≡ false → Lead x (b ∷ d ∷ c ∷ more) → ⊥
fourth_of x b d c more k bad (of_two b' z e l m f) = omega arith
fourth_of x b d c more k bad (of_three b' d' z e l m f t) = omega arith
fourth_of x b d c more k bad (of_four b' d' w z e l m f t s) = let same : w ≡ c = cc in both_ways (goes_on c) bad (sym (ap goes_on same) ∙ s)

pub cut_one : (x : ℕ) (left : List ℕ) → 194 ≤ x → x ≤ 244 → ((c : ℕ) (rest : List ℕ) → left ≡ c ∷ rest → may_follow x c ≡ false) → IsCut (x ∷ []) left
cut_one x left l h bad =
    let (b, f) = second_byte x in
    record {
      completes = elim (cases_lt x 224) [
        | inl k ↦ (b ∷ [], whole_two x b l k f)
        | inr k ↦ elim (cases_lt x 240) [
          | inl m ↦ (b ∷ 128 ∷ [], whole_three x b 128 k m f refl)
          | inr m ↦ (b ∷ 128 ∷ 128 ∷ [], whole_four x b 128 128 m h f refl refl)
        ]
      ];
      stuck = λ c rest more e u. second_of x c more (bad c rest e) (lead_of x (c ∷ more) (omega arith) u);
    }

pub cut_two : (x b : ℕ) (left : List ℕ) → 224 ≤ x → x ≤ 244 → may_follow x b ≡ true → ((c : ℕ) (rest : List ℕ) → left ≡ c ∷ rest → goes_on c ≡ false) → IsCut (x ∷ b ∷ []) left
cut_two x b left l h f bad = record {
  completes = elim (cases_lt x 240) [
    | inl m ↦ (128 ∷ [], whole_three x b 128 l m f refl)
    | inr m ↦ (128 ∷ 128 ∷ [], whole_four x b 128 128 m h f refl refl)
  ];
  stuck = λ c rest more e u. third_of x b c more l (bad c rest e) (lead_of x (b ∷ c ∷ more) (omega arith) u);
}

pub cut_three : (x b d : ℕ) (left : List ℕ) → 240 ≤ x → x ≤ 244 → may_follow x b ≡ true → goes_on d ≡ true → ((c : ℕ) (rest : List ℕ) → left ≡ c ∷ rest → goes_on c ≡ false) → IsCut (x ∷ b ∷ d ∷ []) left
cut_three x b d left l h f t bad = record {
  completes = (128 ∷ [], whole_four x b d 128 l h f t refl);
  stuck = λ c rest more e u. fourth_of x b d c more l (bad c rest e) (lead_of x (b ∷ d ∷ c ∷ more) (omega arith) u);
}

-- The three bytes of a lone surrogate are no UTF-8.
pub lone_bytes : (h : ℕ) → 55296 ≤ h → h < 57344 → IsUtf8 (encode h) → ⊥
lone_bytes h l k u =
    let f : IsUtf8 ((224 + h / 4096) ∷ next (h / 64) ∷ next h ∷ []) = subst IsUtf8 (three h (omega arith) (omega arith)) u in
    wrong (224 + h / 4096) (next (h / 64)) (next h ∷ []) (omega arith) (omega arith) (lead_of (224 + h / 4096) (next (h / 64) ∷ next h ∷ []) (omega arith) f)
  where
    wrong : (x b : ℕ) (y : List ℕ) → x ≡ 237 → 160 ≤ b → Lead x (b ∷ y) → ⊥
    wrong x b y e m (of_two d z s l o f) = let same : d ≡ b = cc in absurd (omega arith)
    wrong x b y e m (of_three d w z s l o f t) = let same : d ≡ b = cc in let n : d ≤ 159 = follow_237 x d f e in omega arith
    wrong x b y e m (of_four d w v z s l o f t i) = omega arith
