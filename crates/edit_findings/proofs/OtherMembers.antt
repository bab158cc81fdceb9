-- An edit of one member of an object leaves those at other keys.
use Rattle.std.proofs.Common.{◌≡◌, ◌∙◌, ℕ, List, [], ◌∷◌, refl, ap, sym, Bool, true, false, Some, None}
use Rattle.std.proofs.lemmas.Slice.Eq.{bytes_eq-Decides}
use Rattle.std.specs.Prelude.{if◌then◌else◌}
use Rattle.std.specs.Str.{bytes_eq}
use Rattle.decimal_json.specs.Accessors.{member}
use Rattle.decimal_json.specs.Editing.{members_with, replaced_members, members_without}
use Rattle.decimal_json.specs.Tree.{Tree, null, boolean, number, text, list, object, fields_of, field_at, members_of}
use Rattle.style_edits.specs.Objects.{object_with, object_replacing, object_without}
use Rattle.style_edits.proofs.ObjectLaws.{fields_members}
use Rattle.edit_findings.proofs.FieldLaws.{Members}

module _ (key other : List ℕ) (apart : bytes_eq key other ≡ false) where
  not_other : (k : List ℕ) → bytes_eq k key ≡ true → bytes_eq k other ≡ false
  not_other k h = ap (λ x. bytes_eq x other) ((bytes_eq-Decides k key).0 h) ∙ apart

  pub with_other : (t : Tree) (ms : Members) → field_at other (fields_of (members_with key t ms)) ≡ field_at other (fields_of ms)
  with_other t [] = ap (λ b. if b then Some t else None) apart
  with_other t (m ∷ ms) = by (with_other t ms) (bytes_eq m.0 key) refl
    where
      by : field_at other (fields_of (members_with key t ms)) ≡ field_at other (fields_of ms) → (b : Bool) → bytes_eq m.0 key ≡ b →
          field_at other (fields_of (if b then (m.0, t) ∷ ms else m ∷ members_with key t ms)) ≡ field_at other (fields_of (m ∷ ms))
      by rest true h =
          (λ i. if not_other m.0 h i then Some t else field_at other (fields_of ms))
          ∙ sym (λ i. if not_other m.0 h i then Some m.1 else field_at other (fields_of ms))
      by rest false h = λ i. if bytes_eq m.0 other then Some m.1 else rest i

  pub replaced_other : (t : Tree) (ms : Members) → field_at other (fields_of (replaced_members key t ms)) ≡ field_at other (fields_of ms)
  replaced_other t [] = refl
  replaced_other t (m ∷ ms) = by (replaced_other t ms) (bytes_eq m.0 key) refl
    where
      by : field_at other (fields_of (replaced_members key t ms)) ≡ field_at other (fields_of ms) → (b : Bool) → bytes_eq m.0 key ≡ b →
          field_at other (fields_of (if b then (m.0, t) ∷ ms else m ∷ replaced_members key t ms)) ≡ field_at other (fields_of (m ∷ ms))
      by rest true h =
          (λ i. if not_other m.0 h i then Some t else field_at other (fields_of ms))
          ∙ sym (λ i. if not_other m.0 h i then Some m.1 else field_at other (fields_of ms))
      by rest false h = λ i. if bytes_eq m.0 other then Some m.1 else rest i

  pub without_other : (ms : Members) → field_at other (fields_of (members_without key ms)) ≡ field_at other (fields_of ms)
  without_other [] = refl
  without_other (m ∷ ms) = by (without_other ms) (bytes_eq m.0 key) refl
    where
      by : field_at other (fields_of (members_without key ms)) ≡ field_at other (fields_of ms) → (b : Bool) → bytes_eq m.0 key ≡ b →
          field_at other (fields_of (if b then ms else m ∷ members_without key ms)) ≡ field_at other (fields_of (m ∷ ms))
      by rest true h = sym (λ i. if not_other m.0 h i then Some m.1 else field_at other (fields_of ms))
      by rest false h = λ i. if bytes_eq m.0 other then Some m.1 else rest i

  -- ---- objects

  pub object_with_other : (t o : Tree) → member other (object_with key t o) ≡ member other o
  object_with_other t (object fs) = with_other t (members_of fs) ∙ ap (field_at other) (fields_members fs)
  object_with_other t null = ap (λ b. if b then Some t else None) apart
  object_with_other t (boolean b) = ap (λ b. if b then Some t else None) apart
  object_with_other t (number n) = ap (λ b. if b then Some t else None) apart
  object_with_other t (text s) = ap (λ b. if b then Some t else None) apart
  object_with_other t (list ts) = ap (λ b. if b then Some t else None) apart

  pub object_replacing_other : (t o : Tree) → member other (object_replacing key t o) ≡ member other o
  object_replacing_other t (object fs) = replaced_other t (members_of fs) ∙ ap (field_at other) (fields_members fs)
  object_replacing_other t null = refl
  object_replacing_other t (boolean b) = refl
  object_replacing_other t (number n) = refl
  object_replacing_other t (text s) = refl
  object_replacing_other t (list ts) = refl

  pub object_without_other : (o : Tree) → member other (object_without key o) ≡ member other o
  object_without_other (object fs) = without_other (members_of fs) ∙ ap (field_at other) (fields_members fs)
  object_without_other null = refl
  object_without_other (boolean b) = refl
  object_without_other (number n) = refl
  object_without_other (text s) = refl
  object_without_other (list ts) = refl
