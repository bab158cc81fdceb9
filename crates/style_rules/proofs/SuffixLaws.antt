-- What a text without its suffix is.
use Rattle.std.specs.Prelude.{◌≡◌, ◌≢◌, ℕ, ◌+◌, ◌-◌, List, ◌++◌, length, take, drop, true, Option, Some, None, option_map, MatchOption, if◌then◌else◌}
use Rattle.std.specs.Borrow.{Bor}
use Rattle.std.specs.Str.{bytes_eq}
use Rattle.std.specs.Str.Pattern.{StripsSuffix, FindsTextSuffix}
use Rattle.std.proofs.Common.{sym, ap, ◌∙◌, inl, inr, arith}
use Rattle.std.proofs.lemmas.Bool.{cases_Bool}
use Rattle.std.proofs.Math.Seq.{drop-append_seam}
use Rattle.std.proofs.lemmas.List.{take-append-drop, length-append}
use Rattle.std.proofs.lemmas.Slice.Eq.{bytes_eq-Decides}
use Rattle.style_rules.specs.Places.{before_suffix}

module _ (suffix name : List ℕ) where
  abbrev cut : ℕ
  cut = length name - length suffix

  tail_is : (front : List ℕ) → name ≡ front ++ suffix → drop cut name ≡ suffix
  tail_is front is =
      let size : length front ≡ cut = omega (arith, ap length is, length-append front suffix) in
      ap (λ n. drop n name) (sym size) ∙ (ap (drop (length front)) is ∙ drop-append_seam front suffix)

  found : (x : List ℕ) → StripsSuffix (FindsTextSuffix suffix) name x → Some x ≡ before_suffix suffix name
  found x (n, (at, is, char), kept, size) =
      let tail : bytes_eq (drop cut name) suffix ≡ true = (bytes_eq-Decides (drop cut name) suffix).1 (tail_is (take (length name - n) name) is) in
      ap Some (kept ∙ ap (λ k. take (length name - k) name) at) ∙ sym (ap (λ b. if b then Some (take cut name) else None) tail)

  lost : ((front : List ℕ) → name ≢ front ++ suffix) → None ≡ before_suffix suffix name
  lost none = elim (cases_Bool (bytes_eq (drop cut name) suffix)) [
    | inl same ↦ absurd (none (take cut name) (sym (take-append-drop cut name) ∙ ap (λ t. take cut name ++ t) ((bytes_eq-Decides (drop cut name) suffix).0 same)))
    | inr other ↦ sym (ap (λ b. if b then Some (take cut name) else None) other)
  ]

  pub stripped : (r : Option (Bor (List ℕ))) → MatchOption r (FindsTextSuffix suffix name None) (λ x. StripsSuffix (FindsTextSuffix suffix) name x.now) → option_map (λ x. x.now) r ≡ before_suffix suffix name
  stripped (Some x) h = found x.now h
  stripped None h = lost h
