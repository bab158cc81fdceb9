-- Of which changes at least one member is left.
use Rattle.std.proofs.Common.{◌≡◌, ◌<◌, ℕ, List, [], ◌∷◌, length, refl, ap, sym, ◌∙◌, subst, arith, Bool, true, false, inl, inr}
use Rattle.std.proofs.lemmas.List.{length-map}
use Rattle.std.specs.Prelude.{nat_eq, if◌then◌else◌}
use Rattle.std.proofs.lemmas.Bool.{cases_Bool, both_ways}
use Rattle.prop_values.specs.Changes.{with_member, merged, without_key}
use Rattle.prop_values.specs.Data.{Data}
use Rattle.prop_values.specs.Equality.{same_text}
use Rattle.prop_values.specs.Keys.{LacksKey}
use Rattle.prop_values.specs.ViewParts.{entry_view, entries_view}
use Rattle.prop_values.specs.declared.value.Entry.{Entry}
use Rattle.prop_values.proofs.KeyLaws.{texts_same, same_texts}

-- a member that is set is there
with_some : (key : List ℕ) (d : Data) (ps : List (List ℕ × Data)) → 0 < length (with_member key d ps)
with_some key d [] = omega arith
with_some key d (p ∷ ps) =
    elim (same_text p.0 key) as (λ (same : Bool). 0 < length (if same then (p.0, d) ∷ ps else p ∷ with_member key d ps)) [ true ↦ omega arith | false ↦ omega arith ]

-- what has members has some once more are set
pub merged_stays : (ps qs : List (List ℕ × Data)) → 0 < length ps → 0 < length (merged ps qs)
merged_stays ps [] h = h
merged_stays ps (q ∷ qs) h = merged_stays (with_member q.0 q.1 ps) qs (with_some q.0 q.1 ps)

-- members that are set are there
pub merged_given : (ps qs : List (List ℕ × Data)) → 0 < length qs → 0 < length (merged ps qs)
merged_given ps [] h = absurd (omega (arith, h))
merged_given ps (q ∷ qs) h = merged_stays (with_member q.0 q.1 ps) qs (with_some q.0 q.1 ps)

-- without the key of the only member none is left
pub only_goes : (key : List ℕ) (ps : List (List ℕ × Data)) → length ps ≡ 1 → ¬ (LacksKey key ps) → without_key key ps ≡ []
only_goes key [] l h = refl
only_goes key (p ∷ []) l h = elim (cases_Bool (same_text p.0 key)) [
  | inl same ↦ rw same refl
  | inr other ↦ absurd (h (λ q. both_ways (same_text p.0 key) other (texts_same p.0 key q), tt))
]
only_goes key (p ∷ r ∷ ps) l h = absurd (omega (arith, l))

-- of more than one some are left
pub more_stay : (key : List ℕ) (ps : List (List ℕ × Data)) → 1 < length ps → 0 < length (without_key key ps)
more_stay key [] h = absurd (omega (arith, h))
more_stay key (p ∷ []) h = absurd (omega (arith, h))
more_stay key (p ∷ r ∷ ps) h = elim (cases_Bool (same_text p.0 key)) [ inl same ↦ rw same (omega arith) | inr other ↦ rw other (omega arith) ]

-- where no member has the key all are left
pub lacking_stay : (key : List ℕ) (ps : List (List ℕ × Data)) → LacksKey key ps → 0 < length ps → 0 < length (without_key key ps)
lacking_stay key [] h some = absurd (omega (arith, some))
lacking_stay key (p ∷ ps) h some = elim (cases_Bool (same_text p.0 key)) [
  | inl same ↦ absurd (h.0 (same_texts p.0 key same))
  | inr other ↦ rw other (omega arith)
]

-- ---- the entries that are looked at

one_is : (n : ℕ) → nat_eq n 1 ≡ true → n ≡ 1
one_is n h = grind (arith, h)

other_is : (n : ℕ) → nat_eq n 1 ≡ false → 0 < n → 1 < n
other_is n h some = grind (arith, h, some)

module _ (key : List ℕ) (es : List Entry) (ps now : List (List ℕ × Data)) (entries : entries_view es ≡ ps) (view : ps ≡ now) where
  count : length ps ≡ length es
  count = sym (ap length entries) ∙ length-map es entry_view

  pub only_seen : ¬ (LacksKey key ps) → nat_eq (length es) 1 ≡ true → without_key key now ≡ []
  only_seen there h = subst (λ xs. without_key key xs ≡ []) view (only_goes key ps (count ∙ one_is (length es) h) there)

  pub more_seen : 0 < length ps → nat_eq (length es) 1 ≡ false → 0 < length (without_key key now)
  more_seen some h =
      subst (λ xs. 0 < length (without_key key xs)) view
      (more_stay key ps (subst (λ n. 1 < n) (sym count) (other_is (length es) h (subst (λ n. 0 < n) count some))))
