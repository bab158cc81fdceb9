-- What is found of the members of an object of which one is put, replaced or taken away.
use Rattle.std.proofs.Common.{◌≡◌, ◌∙◌, ℕ, List, [], ◌∷◌, ◌++◌, refl, ap, sym, subst, Bool, true, false, Some}
use Rattle.std.proofs.lemmas.List.{append-nil}
use Rattle.std.proofs.lemmas.Slice.Eq.{bytes_eq-Decides}
use Rattle.std.specs.Prelude.{if◌then◌else◌}
use Rattle.std.specs.Str.{bytes_eq}
use Rattle.decimal_json.specs.Editing.{members_with, replaced_members, members_without}
use Rattle.decimal_json.specs.Sound.{LacksKey, HasDistinctKeys}
use Rattle.decimal_json.specs.Tree.{Tree, fields_of, field_at}
use Rattle.style_rules.specs.Findings.{findings_in}
use Rattle.style_rules.specs.Levels.{fields_reports}
use Rattle.style_rules.proofs.PartLaws.{differs}
use Rattle.style_rules.proofs.QuietLaws.{Reports, IsQuiet, quiet_parts, only_later, only_first}

abbrev pub Members : Type 0
Members = List (List ℕ × Tree)

module _ (report : List ℕ → Tree → Reports) where
  abbrev reported : Members → Reports
  reported ms = fields_reports report (fields_of ms)

  at_key : (k key : List ℕ) (t : Tree) → bytes_eq k key ≡ true → report k t ≡ report key t
  at_key k key t same = ap (λ x. report x t) ((bytes_eq-Decides k key).0 same)

  pub member_quiet : (key : List ℕ) (t : Tree) (ms : Members) → IsQuiet (reported ms) → field_at key (fields_of ms) ≡ Some t → IsQuiet (report key t)
  member_quiet key t [] h is = absurd (cc)
  member_quiet key t (m ∷ ms) h is =
      let parts = quiet_parts (report m.0 m.1) (reported ms) h in
      by parts.0 (member_quiet key t ms parts.1) (bytes_eq m.0 key) refl is
    where
      by : IsQuiet (report m.0 m.1) → (field_at key (fields_of ms) ≡ Some t → IsQuiet (report key t)) → (b : Bool) → bytes_eq m.0 key ≡ b →
          (if b then Some m.1 else field_at key (fields_of ms)) ≡ Some t → IsQuiet (report key t)
      by here later true same found =
          let one : m.1 ≡ t = cc in
          ap findings_in (sym (at_key m.0 key t same)) ∙ (ap (λ x. findings_in (report m.0 x)) (sym one) ∙ here)
      by here later false other found = later found

  pub put_found : (key : List ℕ) (t : Tree) (ms : Members) → IsQuiet (reported ms) → findings_in (reported (members_with key t ms)) ≡ findings_in (report key t)
  put_found key t [] h = ap findings_in (append-nil (report key t))
  put_found key t (m ∷ ms) h =
      let parts = quiet_parts (report m.0 m.1) (reported ms) h in
      by parts.0 parts.1 (put_found key t ms parts.1) (bytes_eq m.0 key) refl
    where
      by : IsQuiet (report m.0 m.1) → IsQuiet (reported ms) → findings_in (reported (members_with key t ms)) ≡ findings_in (report key t) →
          (b : Bool) → bytes_eq m.0 key ≡ b →
          findings_in (reported (if b then (m.0, t) ∷ ms else m ∷ members_with key t ms)) ≡ findings_in (report key t)
      by here rest later true same = only_first (report m.0 t) (reported ms) rest ∙ ap findings_in (at_key m.0 key t same)
      by here rest later false other = only_later (report m.0 m.1) (reported (members_with key t ms)) here ∙ later

  pub replaced_quiet : (key : List ℕ) (t : Tree) (ms : Members) → IsQuiet (reported ms) →
      ((old : Tree) → field_at key (fields_of ms) ≡ Some old → IsQuiet (report key t)) → IsQuiet (reported (replaced_members key t ms))
  replaced_quiet key t [] h quiet = refl
  replaced_quiet key t (m ∷ ms) h quiet =
      let parts = quiet_parts (report m.0 m.1) (reported ms) h in
      by parts.0 parts.1 (replaced_quiet key t ms parts.1) (bytes_eq m.0 key) refl quiet
    where
      by : IsQuiet (report m.0 m.1) → IsQuiet (reported ms) →
          (((old : Tree) → field_at key (fields_of ms) ≡ Some old → IsQuiet (report key t)) → IsQuiet (reported (replaced_members key t ms))) →
          (b : Bool) → bytes_eq m.0 key ≡ b →
          ((old : Tree) → (if b then Some m.1 else field_at key (fields_of ms)) ≡ Some old → IsQuiet (report key t)) →
          IsQuiet (reported (if b then (m.0, t) ∷ ms else m ∷ replaced_members key t ms))
      by here rest later true same quiet =
          only_first (report m.0 t) (reported ms) rest ∙ (ap findings_in (at_key m.0 key t same) ∙ quiet m.1 refl)
      by here rest later false other quiet = only_later (report m.0 m.1) (reported (replaced_members key t ms)) here ∙ later quiet

  pub without_quiet : (key : List ℕ) (ms : Members) → IsQuiet (reported ms) → IsQuiet (reported (members_without key ms))
  without_quiet key [] h = refl
  without_quiet key (m ∷ ms) h =
      let parts = quiet_parts (report m.0 m.1) (reported ms) h in
      by parts.0 parts.1 (without_quiet key ms parts.1) (bytes_eq m.0 key)
    where
      by : IsQuiet (report m.0 m.1) → IsQuiet (reported ms) → IsQuiet (reported (members_without key ms)) →
          (b : Bool) → IsQuiet (reported (if b then ms else m ∷ members_without key ms))
      by here rest later true = rest
      by here rest later false = only_later (report m.0 m.1) (reported (members_without key ms)) here ∙ later

-- ---- a member is replaced, and what is reported of it alone changes

module _ (report other : List ℕ → Tree → Reports) (key : List ℕ)
    (same : (k : List ℕ) (t : Tree) → bytes_eq k key ≡ false → other k t ≡ report k t) where
  others_same : (ms : Members) → LacksKey key ms → fields_reports other (fields_of ms) ≡ fields_reports report (fields_of ms)
  others_same [] lacks = refl
  others_same (m ∷ ms) lacks = λ i. same m.0 m.1 (differs m.0 key lacks.0) i ++ others_same ms lacks.1 i

  pub replaced_found : (t old : Tree) (ms : Members) → HasDistinctKeys ms → field_at key (fields_of ms) ≡ Some old →
      IsQuiet (fields_reports report (fields_of ms)) →
      findings_in (fields_reports other (fields_of (replaced_members key t ms))) ≡ findings_in (other key t)
  replaced_found t old [] distinct is h = absurd (cc)
  replaced_found t old (m ∷ ms) distinct is h =
      let parts = quiet_parts (report m.0 m.1) (fields_reports report (fields_of ms)) h in
      by parts.0 parts.1 (replaced_found t old ms distinct.1) (bytes_eq m.0 key) refl is
    where
      by : IsQuiet (report m.0 m.1) → IsQuiet (fields_reports report (fields_of ms)) →
          (field_at key (fields_of ms) ≡ Some old → IsQuiet (fields_reports report (fields_of ms)) →
          findings_in (fields_reports other (fields_of (replaced_members key t ms))) ≡ findings_in (other key t)) →
          (b : Bool) → bytes_eq m.0 key ≡ b → (if b then Some m.1 else field_at key (fields_of ms)) ≡ Some old →
          findings_in (fields_reports other (fields_of (if b then (m.0, t) ∷ ms else m ∷ replaced_members key t ms))) ≡ findings_in (other key t)
      by here rest later true is_key found =
          let k : m.0 ≡ key = (bytes_eq-Decides m.0 key).0 is_key in
          let kept = others_same ms (subst (λ x. LacksKey x ms) k distinct.0) in
          only_first (other m.0 t) (fields_reports other (fields_of ms)) (ap findings_in kept ∙ rest) ∙ ap (λ x. findings_in (other x t)) k
      by here rest later false not_key found =
          only_later (other m.0 m.1) (fields_reports other (fields_of (replaced_members key t ms)))
          (ap findings_in (same m.0 m.1 not_key) ∙ here) ∙ later found rest

-- ---- members that are replaced keep their keys

lacks_replaced : (k key : List ℕ) (t : Tree) (ms : Members) → LacksKey k ms → LacksKey k (replaced_members key t ms)
lacks_replaced k key t [] h = tt
lacks_replaced k key t (m ∷ ms) h = by (lacks_replaced k key t ms h.1) (bytes_eq m.0 key)
  where
    by : LacksKey k (replaced_members key t ms) → (b : Bool) → LacksKey k (if b then (m.0, t) ∷ ms else m ∷ replaced_members key t ms)
    by later true = h
    by later false = (h.0, later)

pub distinct_replaced : (key : List ℕ) (t : Tree) (ms : Members) → HasDistinctKeys ms → HasDistinctKeys (replaced_members key t ms)
distinct_replaced key t [] h = tt
distinct_replaced key t (m ∷ ms) h = by (distinct_replaced key t ms h.1) (bytes_eq m.0 key)
  where
    by : HasDistinctKeys (replaced_members key t ms) → (b : Bool) → HasDistinctKeys (if b then (m.0, t) ∷ ms else m ∷ replaced_members key t ms)
    by later true = h
    by later false = (lacks_replaced m.0 key t ms h.0, later)
