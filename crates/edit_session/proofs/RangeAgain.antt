-- A layer whose range is set twice has the second range.
use Rattle.std.proofs.Common.{◌≡◌, ◌∙◌, ℕ, ℤ, List, [], ◌∷◌, refl, ap, sym, subst, Bool, true, false, Option, Some, None}
use Rattle.std.proofs.lemmas.Bool.{both_ways, cond-true, cond-false}
use Rattle.std.proofs.lemmas.Slice.Eq.{bytes_eq-Decides}
use Rattle.std.specs.Prelude.{codes, if◌then◌else◌}
use Rattle.std.specs.Str.{bytes_eq}
use Rattle.fixed_num.specs.NumberText.{number_text}
use Rattle.decimal_json.specs.Editing.{members_with, members_without}
use Rattle.decimal_json.specs.Sound.{HasDistinctKeys, LacksKey}
use Rattle.decimal_json.specs.Tree.{Tree, object, number, Fields, fields_of, members_of}
use Rattle.style_edits.specs.Layer.{with_limit, without_limits, with_range}
use Rattle.style_edits.specs.Objects.{object_without}
use Rattle.style_edits.proofs.ObjectLaws.{fields_members, with_object, without_object}

abbrev Members : Type 0
Members = List (List ℕ × Tree)

-- ---- one key

module _ (key : List ℕ) where
  same_key : bytes_eq key key ≡ true
  same_key = (bytes_eq-Decides key key).1 refl

  -- what is put is taken out again
  without_put : (t : Tree) (ms : Members) → members_without key (members_with key t ms) ≡ members_without key ms
  without_put t [] = cond-true (bytes_eq key key) _ _ same_key
  without_put t (m ∷ ms) = step (bytes_eq m.0 key) refl (without_put t ms)
    where
      step : (same : Bool) → bytes_eq m.0 key ≡ same → members_without key (members_with key t ms) ≡ members_without key ms
          → members_without key (if same then (m.0, t) ∷ ms else m ∷ members_with key t ms) ≡ (if same then ms else m ∷ members_without key ms)
      step true e later = cond-true (bytes_eq m.0 key) _ _ e
      step false e later = cond-false (bytes_eq m.0 key) _ _ e ∙ ap (λ xs. m ∷ xs) later

  -- what is not there stays
  without_none : (ms : Members) → LacksKey key ms → members_without key ms ≡ ms
  without_none [] lacks = refl
  without_none (m ∷ ms) lacks = step (bytes_eq m.0 key) refl (without_none ms lacks.1)
    where
      step : (same : Bool) → bytes_eq m.0 key ≡ same → members_without key ms ≡ ms → (if same then ms else m ∷ members_without key ms) ≡ m ∷ ms
      step true e later = absurd (lacks.0 ((bytes_eq-Decides m.0 key).0 e))
      step false e later = ap (λ xs. m ∷ xs) later

  lacks_still : (other : List ℕ) (ms : Members) → LacksKey other ms → LacksKey other (members_without key ms)
  lacks_still other [] lacks = tt
  lacks_still other (m ∷ ms) lacks = step (bytes_eq m.0 key) (lacks_still other ms lacks.1)
    where
      step : (same : Bool) → LacksKey other (members_without key ms) → LacksKey other (if same then ms else m ∷ members_without key ms)
      step true later = lacks.1
      step false later = (lacks.0, later)

  distinct_still : (ms : Members) → HasDistinctKeys ms → HasDistinctKeys (members_without key ms)
  distinct_still [] distinct = tt
  distinct_still (m ∷ ms) distinct = step (bytes_eq m.0 key) (distinct_still ms distinct.1)
    where
      step : (same : Bool) → HasDistinctKeys (members_without key ms) → HasDistinctKeys (if same then ms else m ∷ members_without key ms)
      step true later = distinct.1
      step false later = (lacks_still m.0 ms distinct.0, later)

  lacks_own : (ms : Members) → HasDistinctKeys ms → LacksKey key (members_without key ms)
  lacks_own [] distinct = tt
  lacks_own (m ∷ ms) distinct = step (bytes_eq m.0 key) refl (lacks_own ms distinct.1)
    where
      renamed : (k : List ℕ) → k ≡ key → LacksKey k ms → LacksKey key ms
      renamed k e lacks = subst (λ x. LacksKey x ms) e lacks

      step : (same : Bool) → bytes_eq m.0 key ≡ same → LacksKey key (members_without key ms)
          → LacksKey key (if same then ms else m ∷ members_without key ms)
      step true e later = renamed m.0 ((bytes_eq-Decides m.0 key).0 e) distinct.0
      step false e later = ((λ is. both_ways (bytes_eq m.0 key) e ((bytes_eq-Decides m.0 key).1 is)), later)

  without_twice : (ms : Members) → HasDistinctKeys ms → members_without key (members_without key ms) ≡ members_without key ms
  without_twice ms distinct = without_none (members_without key ms) (lacks_own ms distinct)

-- ---- two keys

module _ (key other : List ℕ) (apart : bytes_eq key other ≡ false) where
  not_both : {A : Type 0} (k : List ℕ) → bytes_eq k key ≡ true → bytes_eq k other ≡ true → A
  not_both k e f =
      let same : key ≡ other = sym ((bytes_eq-Decides k key).0 e) ∙ (bytes_eq-Decides k other).0 f in
      absurd (both_ways (bytes_eq key other) apart ((bytes_eq-Decides key other).1 same))

  put_without : (t : Tree) (ms : Members) → members_without other (members_with key t ms) ≡ members_with key t (members_without other ms)
  put_without t [] = cond-false (bytes_eq key other) _ _ apart
  put_without t (m ∷ ms) = step (bytes_eq m.0 key) (bytes_eq m.0 other) refl refl (put_without t ms)
    where
      step : (a b : Bool) → bytes_eq m.0 key ≡ a → bytes_eq m.0 other ≡ b
          → members_without other (members_with key t ms) ≡ members_with key t (members_without other ms)
          → members_without other (if a then (m.0, t) ∷ ms else m ∷ members_with key t ms)
          ≡ members_with key t (if b then ms else m ∷ members_without other ms)
      step true true e f later = not_both m.0 e f
      step true false e f later = cond-false (bytes_eq m.0 other) _ _ f ∙ sym (cond-true (bytes_eq m.0 key) _ _ e)
      step false true e f later = cond-true (bytes_eq m.0 other) _ _ f
      step false false e f later =
          cond-false (bytes_eq m.0 other) _ _ f ∙ (ap (λ xs. m ∷ xs) later ∙ sym (cond-false (bytes_eq m.0 key) _ _ e))

  without_both : (ms : Members) → members_without key (members_without other ms) ≡ members_without other (members_without key ms)
  without_both [] = refl
  without_both (m ∷ ms) = step (bytes_eq m.0 key) (bytes_eq m.0 other) refl refl (without_both ms)
    where
      step : (a b : Bool) → bytes_eq m.0 key ≡ a → bytes_eq m.0 other ≡ b
          → members_without key (members_without other ms) ≡ members_without other (members_without key ms)
          → members_without key (if b then ms else m ∷ members_without other ms)
          ≡ members_without other (if a then ms else m ∷ members_without key ms)
      step true true e f later = not_both m.0 e f
      step true false e f later = cond-true (bytes_eq m.0 key) _ _ e
      step false true e f later = sym (cond-true (bytes_eq m.0 other) _ _ f)
      step false false e f later =
          cond-false (bytes_eq m.0 key) _ _ e ∙ (ap (λ xs. m ∷ xs) later ∙ sym (cond-false (bytes_eq m.0 other) _ _ f))

-- ---- the range of a layer

abbrev min_key : List ℕ
min_key = codes "minzoom"

abbrev max_key : List ℕ
max_key = codes "maxzoom"

abbrev limited : List ℕ → Option ℤ → Members → Members
limited key (Some zoom) ms = members_with key (number (number_text zoom)) ms
limited key None ms = ms

abbrev unlimited : Members → Members
unlimited ms = members_without max_key (members_without min_key ms)

abbrev layer_with : Members → Tree
layer_with ms = object (fields_of ms)

limited_is : (key : List ℕ) (limit : Option ℤ) (ms : Members) → with_limit key limit (layer_with ms) ≡ layer_with (limited key limit ms)
limited_is key (Some zoom) ms = with_object key (number (number_text zoom)) ms
limited_is key None ms = refl

unlimited_is : (ms : Members) → without_limits (layer_with ms) ≡ layer_with (unlimited ms)
unlimited_is ms = ap (object_without max_key) (without_object min_key ms) ∙ without_object max_key (members_without min_key ms)

ranged_is : (min max : Option ℤ) (ms : Members) → with_range min max (layer_with ms) ≡ layer_with (limited max_key max (limited min_key min (unlimited ms)))
ranged_is min max ms =
    ap (λ t. with_limit max_key max (with_limit min_key min t)) (unlimited_is ms)
    ∙ (ap (with_limit max_key max) (limited_is min_key min (unlimited ms)) ∙ limited_is max_key max (limited min_key min (unlimited ms)))

without_limited : (key : List ℕ) (limit : Option ℤ) (ms : Members) → members_without key (limited key limit ms) ≡ members_without key ms
without_limited key (Some zoom) ms = without_put key (number (number_text zoom)) ms
without_limited key None ms = refl

limited_without : (key other : List ℕ) → bytes_eq key other ≡ false → (limit : Option ℤ) (ms : Members)
    → members_without other (limited key limit ms) ≡ limited key limit (members_without other ms)
limited_without key other apart (Some zoom) ms = put_without key other apart (number (number_text zoom)) ms
limited_without key other apart None ms = refl

-- the limits are taken away, whatever they were set to
unlimited_again : (min max : Option ℤ) (ms : Members) → HasDistinctKeys ms → unlimited (limited max_key max (limited min_key min (unlimited ms))) ≡ unlimited ms
unlimited_again min max ms distinct =
    let u = unlimited ms in
    let first = members_without min_key ms in
    let without_max : members_without max_key u ≡ u = without_twice max_key first (distinct_still min_key ms distinct) in
    let without_min : members_without min_key u ≡ u =
    without_both min_key max_key refl first ∙ ap (members_without max_key) (without_twice min_key ms distinct) in
    ap (members_without max_key) (limited_without max_key min_key refl max (limited min_key min u))
    ∙ (without_limited max_key max (members_without min_key (limited min_key min u))
    ∙ (ap (members_without max_key) (without_limited min_key min u ∙ without_min) ∙ without_max))

-- A range is set in place of the one that was.
pub range_again : (min max least most : Option ℤ) (fs : Fields) → HasDistinctKeys (members_of fs)
    → with_range min max (with_range least most (object fs)) ≡ with_range min max (object fs)
range_again min max least most fs distinct =
    let ms = members_of fs in
    let is : object fs ≡ layer_with ms = sym (ap object (fields_members fs)) in
    let inner = limited max_key most (limited min_key least (unlimited ms)) in
    ap (λ t. with_range min max (with_range least most t)) is
    ∙ (ap (with_range min max) (ranged_is least most ms)
    ∙ (ranged_is min max inner
    ∙ (ap (λ xs. layer_with (limited max_key max (limited min_key min xs))) (unlimited_again least most ms distinct)
    ∙ (sym (ranged_is min max ms) ∙ ap (with_range min max) (sym is)))))
