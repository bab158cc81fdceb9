-- The pieces between commas, one by one from the front.
use Rattle.std.proofs.Common.{◌≡◌, ◌∙◌, ℕ, suc, ◌+◌, sym, ap, refl, List, [], ◌∷◌, drop, take, true, false, length, arith, inl, inr}
use Rattle.std.specs.Prelude.{Option, Some, None, nat_eq, if◌then◌else◌, option_map}
use Rattle.std.specs.Borrow.{Bor}
use Rattle.std.specs.Option.{is_some, unwrap_or}
use Rattle.std.proofs.lemmas.Bool.{cases_Bool, cases_eq, eq-eqb, ne_eqb}
use Rattle.color_values.specs.Parts.{cut, parts_of, trimmed}
use Rattle.color_values.specs.Views.{before_comma, first_piece, pair_of, parts_with_last}

eq_more : (a b : ℕ) → nat_eq (1 + a) (suc b) ≡ nat_eq a b
eq_more a b = elim (cases_eq a b) [
  | inl same ↦ eq-eqb (1 + a) (suc b) (omega arith) ∙ sym (eq-eqb a b same)
  | inr other ↦ ne_eqb (1 + a) (suc b) (λ h. other (omega arith)) ∙ sym (ne_eqb a b other)
]

-- all where there is no comma, else what is before the first one and the pieces after it
pub cut_is : (bs : List ℕ) → cut bs ≡ (if nat_eq (before_comma bs) (length bs) then bs ∷ [] else take (before_comma bs) bs ∷ cut (drop 1 (drop (before_comma bs) bs)))
unfolding cut
cut_is [] = refl
cut_is (c ∷ cs) = elim (cases_Bool (nat_eq c 44)) [
  | inl comma ↦ let some : nat_eq 0 (suc (length cs)) ≡ false = ne_eqb 0 (suc (length cs)) (λ h. absurd (omega arith)) in rw (comma, some) refl
  | inr other ↦ elim (cases_Bool (nat_eq (before_comma cs) (length cs))) [
    | inl all ↦
        let rest : cut cs ≡ cs ∷ [] = rw all at (cut_is cs) in
        rw (other, eq_more (before_comma cs) (length cs), all, rest) refl
    | inr some ↦
        let rest : cut cs ≡ take (before_comma cs) cs ∷ cut (drop 1 (drop (before_comma cs) cs)) = rw some at (cut_is cs) in
        let next : 1 + before_comma cs ≡ suc (before_comma cs) = omega arith in
        rw (other, eq_more (before_comma cs) (length cs), some, rest, next) refl
  ]
]

pub cut-none : (bs : List ℕ) → None ≡ first_piece bs → cut bs ≡ bs ∷ []
unfolding first_piece
cut-none bs h = elim (cases_Bool (nat_eq (before_comma bs) (length bs))) [
  | inl all ↦ rw all at (cut_is bs)
  | inr some ↦ let other = rw some at h in cc
]

pub cut-some : (bs a rest : List ℕ) → Some (a, rest) ≡ first_piece bs → cut bs ≡ a ∷ cut rest
unfolding first_piece
cut-some bs a rest h = elim (cases_Bool (nat_eq (before_comma bs) (length bs))) [
  | inl all ↦ let other = rw all at h in cc
  | inr some ↦
      let same = rw some at h in
      let here = rw some at (cut_is bs) in
      let front : a ≡ take (before_comma bs) bs = ap (λ (o : Option (List ℕ × List ℕ)). (unwrap_or o (a, rest)).0) same in
      let back : rest ≡ drop 1 (drop (before_comma bs) bs) = ap (λ (o : Option (List ℕ × List ℕ)). (unwrap_or o (a, rest)).1) same in
      here ∙ sym (ap (λ w. w ∷ cut (drop 1 (drop (before_comma bs) bs))) front) ∙ sym (ap (λ w. a ∷ cut w) back)
]

abbrev pub HasPieces : List ℕ → Type 0
HasPieces bs = (p : List ℕ) × (ps : List (List ℕ)) × (cut bs ≡ p ∷ ps)

has_pieces : (bs : List ℕ) → HasPieces bs
has_pieces bs = elim (cases_Bool (nat_eq (before_comma bs) (length bs))) [
  | inl all ↦ (bs, [], rw all at (cut_is bs))
  | inr some ↦ (take (before_comma bs) bs, cut (drop 1 (drop (before_comma bs) bs)), rw some at (cut_is bs))
]

-- how many pieces there are, and the arguments that they are
pub one_piece : (bs : List ℕ) → None ≡ first_piece bs → parts_of bs ≡ None
unfolding parts_of
one_piece bs h = rw (cut-none bs h) refl

pub two_pieces : (bs a rest : List ℕ) → Some (a, rest) ≡ first_piece bs → None ≡ first_piece rest → parts_of bs ≡ None
unfolding parts_of
two_pieces bs a rest h g = rw (cut-some bs a rest h, cut-none rest g) refl

pub three_pieces : (bs a r b c : List ℕ) → Some (a, r) ≡ first_piece bs → Some (b, c) ≡ first_piece r → None ≡ first_piece c
    → parts_of bs ≡ Some (record { first = trimmed a; second = trimmed b; third = trimmed c; opacity = None })
unfolding parts_of
three_pieces bs a r b c h g f = rw (cut-some bs a r h, cut-some r b c g, cut-none c f) refl

pub more_pieces : (bs a r b s c d : List ℕ) → Some (a, r) ≡ first_piece bs → Some (b, s) ≡ first_piece r → Some (c, d) ≡ first_piece s
    → parts_of bs ≡ parts_with_last a b c d
unfolding parts_of parts_with_last
more_pieces bs a r b s c d h g f = last (first_piece d) refl
  where
    last : (o : Option (List ℕ × List ℕ)) → o ≡ first_piece d → parts_of bs ≡ parts_with_last a b c d
    last None none = rw (cut-some bs a r h, cut-some r b s g, cut-some s c d f, cut-none d none, sym none) refl
    last (Some (e, more)) some =
        let pieces = has_pieces more in
        rw (cut-some bs a r h, cut-some r b s g, cut-some s c d f, cut-some d e more some, pieces.2, sym some) refl

-- four arguments, or more
pub piece_follows : (x y z a : List ℕ) (o : Option (List ℕ × List ℕ)) → is_some o ≡ true → o ≡ first_piece a → None ≡ parts_with_last x y z a
unfolding parts_with_last
piece_follows x y z a o some e = rw (sym e, some) refl

pub piece_is_last : (x y z a : List ℕ) (o : Option (List ℕ × List ℕ)) → is_some o ≡ false → o ≡ first_piece a
    → Some (record { first = trimmed x; second = trimmed y; third = trimmed z; opacity = Some (trimmed a) }) ≡ parts_with_last x y z a
unfolding parts_with_last
piece_is_last x y z a o none e = rw (sym e, none) refl

pub is_some-pairs : (o : Option (Bor (List ℕ) × Bor (List ℕ))) → is_some (option_map pair_of o) ≡ is_some o
is_some-pairs None = refl
is_some-pairs (Some p) = refl
