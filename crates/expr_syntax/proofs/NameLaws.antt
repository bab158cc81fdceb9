-- Looking the name of an operator up.
use Rattle.std.proofs.Common.{◌≡◌, ◌<◌, refl, sym, ◌∙◌, subst, List, [], ◌∷◌, ℕ, zero, suc, length, get_or, true, false, inl, inr, arith}
use Rattle.std.specs.Prelude.{Bool, ◌&&◌, nat_lt, Some, None, slice_index_or}
use Rattle.std.specs.Str.{bytes_eq}
use Rattle.std.proofs.lemmas.Bool.{cases_Bool, false≢true}
use Rattle.std.proofs.lemmas.Slice.Eq.{bytes_eq-Decides}
use Rattle.expr_syntax.specs.declared.names.Name.{Name}
use Rattle.expr_syntax.specs.declared.names.Name.TheVariants.{Literal, Array, Boolean, Number, String, Object, ToBoolean, ToColor, ToNumber, ToString, TypeOf, Get, Has, Properties, Id, GeometryType, FeatureState, At, In, IndexOf, Length, Slice, Not, Equal, NotEqual, Less, LessOrEqual, Greater, GreaterOrEqual, All, Any, Case, Match, Coalesce, Step, Interpolate, Let, Var, Zoom, Concat, Rgb, Rgba, ToRgba, Add, Multiply, Subtract, Divide, Remainder, Abs, Ceil, Floor, Round, Min, Max, Image, IsSupportedScript, GlobalState, Format, Upcase, Downcase, Collator, ResolvedLocale, NumberFormat, Within, Distance, InterpolateHcl, InterpolateLab, Power, Sqrt, Ln, Log10, Log2, Sin, Cos, Tan, Asin, Acos, Atan, E, Pi, Ln2, HeatmapDensity, LineProgress, Accumulated}
use Rattle.expr_syntax.specs.Names.{row, names, name_of, first_named}
use Rattle.expr_syntax.specs.Slots.{slot_of, slots, name_in}

both_left : (x y : Bool) → (x && y) ≡ true → x ≡ true
both_left true y e = refl
both_left false y e = e

both_right : (x y : Bool) → (x && y) ≡ true → y ≡ true
both_right true y e = e
both_right false y e = absurd (false≢true e)

-- every name is found by its text
named_again : (n : Name) → name_of (row n).text ≡ Some n
named_again Literal = refl
named_again Array = refl
named_again Boolean = refl
named_again Number = refl
named_again String = refl
named_again Object = refl
named_again ToBoolean = refl
named_again ToColor = refl
named_again ToNumber = refl
named_again ToString = refl
named_again TypeOf = refl
named_again Get = refl
named_again Has = refl
named_again Properties = refl
named_again Id = refl
named_again GeometryType = refl
named_again FeatureState = refl
named_again At = refl
named_again In = refl
named_again IndexOf = refl
named_again Length = refl
named_again Slice = refl
named_again Not = refl
named_again Equal = refl
named_again NotEqual = refl
named_again Less = refl
named_again LessOrEqual = refl
named_again Greater = refl
named_again GreaterOrEqual = refl
named_again All = refl
named_again Any = refl
named_again Case = refl
named_again Match = refl
named_again Coalesce = refl
named_again Step = refl
named_again Interpolate = refl
named_again Let = refl
named_again Var = refl
named_again Zoom = refl
named_again Concat = refl
named_again Rgb = refl
named_again Rgba = refl
named_again ToRgba = refl
named_again Add = refl
named_again Multiply = refl
named_again Subtract = refl
named_again Divide = refl
named_again Remainder = refl
named_again Abs = refl
named_again Ceil = refl
named_again Floor = refl
named_again Round = refl
named_again Min = refl
named_again Max = refl
named_again Image = refl
named_again IsSupportedScript = refl
named_again GlobalState = refl
named_again Format = refl
named_again Upcase = refl
named_again Downcase = refl
named_again Collator = refl
named_again ResolvedLocale = refl
named_again NumberFormat = refl
named_again Within = refl
named_again Distance = refl
named_again InterpolateHcl = refl
named_again InterpolateLab = refl
named_again Power = refl
named_again Sqrt = refl
named_again Ln = refl
named_again Log10 = refl
named_again Log2 = refl
named_again Sin = refl
named_again Cos = refl
named_again Tan = refl
named_again Asin = refl
named_again Acos = refl
named_again Atan = refl
named_again E = refl
named_again Pi = refl
named_again Ln2 = refl
named_again HeatmapDensity = refl
named_again LineProgress = refl
named_again Accumulated = refl

pub name_found : (n : Name) (text : List ℕ) → (row n).text ≡ text → name_of text ≡ Some n
name_found n text e = subst (λ t. name_of t ≡ Some n) e (named_again n)

-- whether each of some names has its slot
abbrev pub have_slots : List Name → Bool
have_slots [] = true
have_slots (n ∷ ns) = bytes_eq (row (name_in (slot_of (row n).text))).text (row n).text && have_slots ns

names_have_slots : have_slots names ≡ true
unfolding slots
names_have_slots = refl

lost_among : (text : List ℕ) (ns : List Name) → have_slots ns ≡ true → bytes_eq (row (name_in (slot_of text))).text text ≡ false → first_named text ns ≡ None
lost_among text [] have other = refl
lost_among text (n ∷ ns) have other = elim (cases_Bool (bytes_eq (row n).text text)) [
  | inl same ↦
      let e : (row n).text ≡ text = (bytes_eq-Decides (row n).text text).0 same in
      let found : bytes_eq (row (name_in (slot_of text))).text text ≡ true = subst (λ t. bytes_eq (row (name_in (slot_of t))).text t ≡ true) e (both_left _ _ have) in
      absurd (false≢true (sym other ∙ found))
  | inr differs ↦ rw differs (lost_among text ns (both_right _ _ have) other)
]

-- a text that is not the name of its slot is no name
pub name_lost : (text : List ℕ) → bytes_eq (row (name_in (slot_of text))).text text ≡ false → name_of text ≡ None
name_lost text other = lost_among text names names_have_slots other

-- whether numbers are places of names
abbrev pub are_places : List ℕ → Bool
are_places [] = true
are_places (k ∷ ks) = nat_lt k 84 && are_places ks

below : (k : ℕ) → nat_lt k 84 ≡ true → k < 84
below k h = grind arith

place_among : (ks : List ℕ) (i : ℕ) → are_places ks ≡ true → i < length ks → get_or ks i 0 < 84
place_among [] i all within = absurd (omega arith)
place_among (k ∷ ks) zero all within = below k (both_left (nat_lt k 84) (are_places ks) all)
place_among (k ∷ ks) (suc i) all within = place_among ks i (both_right (nat_lt k 84) (are_places ks) all) (omega arith)

pub slot_place : (slot : ℕ) → slot < 256 → slice_index_or slots slot 0 < 84
unfolding slots
slot_place slot within = place_among slots slot refl within
