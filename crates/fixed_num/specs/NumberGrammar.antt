-- The texts of JSON numbers as a grammar. Source: RFC 8259 §6, whose rules are quoted.
use Rattle.std.specs.Prelude.{◌≡◌, ℕ, ◌<◌, List, [], ◌∷◌, ◌++◌, ◌⊎◌, length, slice_index, Bool, true, false}
use Rattle.std.specs.Char.{is_ascii_digit}
use Rattle.std.specs.List.{list_all}

-- 1*DIGIT
pub record IsDigits (ds : List ℕ) : Type 0 where
  pub some : 0 < length ds
  pub digits : list_all is_ascii_digit ds ≡ true

-- [ minus ]: '-' is 45
abbrev pub minus_text : Bool → List ℕ
minus_text true = 45 ∷ []
minus_text false = []

-- int = zero / ( digit1-9 *DIGIT ): '0' is 48
pub record IsWhole (ds : List ℕ) : Type 0 where
  pub digits : IsDigits ds
  pub no_zero_before : slice_index ds 0 ≡ 48 → length ds ≡ 1

-- [ frac ], frac = decimal-point 1*DIGIT: '.' is 46
abbrev pub IsFraction : List ℕ → List ℕ → Type 0
IsFraction text ds = ((text ≡ []) × (ds ≡ [])) ⊎ ((text ≡ 46 ∷ ds) × IsDigits ds)

-- e = %x65 / %x45
abbrev pub IsMark : ℕ → Type 0
IsMark mark = (mark ≡ 101) ⊎ (mark ≡ 69)

-- [ minus / plus ]: '+' is 43
abbrev pub IsSign : List ℕ → Bool → Type 0
IsSign text is_down = ((text ≡ 45 ∷ []) × (is_down ≡ true)) ⊎ (((text ≡ 43 ∷ []) ⊎ (text ≡ [])) × (is_down ≡ false))

-- exp = e [ minus / plus ] 1*DIGIT
pub record IsPower (text : List ℕ) (is_down : Bool) (ds : List ℕ) : Type 0 where
  pub mark : ℕ
  pub sign : List ℕ
  pub all : text ≡ mark ∷ (sign ++ ds)
  pub is_mark : IsMark mark
  pub is_sign : IsSign sign is_down
  pub digits : IsDigits ds

-- [ exp ]; without one the exponent is zero
abbrev pub IsExponent : List ℕ → Bool → List ℕ → Type 0
IsExponent text is_down ds = ((text ≡ []) × (is_down ≡ false) × (ds ≡ [])) ⊎ IsPower text is_down ds

-- number = [ minus ] int [ frac ] [ exp ]
pub record IsNumberText (bs : List ℕ) (negative : Bool) (whole fraction : List ℕ) (is_down : Bool)
    (exponent : List ℕ) : Type 0 where
  pub frac : List ℕ
  pub exp : List ℕ
  pub all : bs ≡ minus_text negative ++ (whole ++ (frac ++ exp))
  pub is_whole : IsWhole whole
  pub is_fraction : IsFraction frac fraction
  pub is_exponent : IsExponent exp is_down exponent

-- a text of the grammar
abbrev pub HasNumberParts : List ℕ → Type 0
HasNumberParts bs =
    (negative : Bool) × (whole : List ℕ) × (fraction : List ℕ) × (is_down : Bool) × (exponent : List ℕ)
    × IsNumberText bs negative whole fraction is_down exponent
