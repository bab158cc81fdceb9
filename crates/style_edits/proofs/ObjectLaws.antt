-- Objects whose member is replaced more than once, or by itself.
use Rattle.std.proofs.Common.{◌≡◌, ℕ, List, [], ◌∷◌, refl, ap, sym, ◌∙◌, Bool, true, false}
use Rattle.std.specs.Prelude.{Some, None, if◌then◌else◌}
use Rattle.std.specs.Str.{bytes_eq}
use Rattle.std.proofs.lemmas.Bool.{cond-true, cond-false}
use Rattle.decimal_json.specs.Accessors.{member}
use Rattle.decimal_json.specs.Editing.{members_with, replaced_members, members_without}
use Rattle.decimal_json.specs.Tree.{members_of, Tree, null, boolean, number, text, list, object, Fields, no_fields, field, fields_of, field_at}
use Rattle.style_edits.specs.Objects.{object_with, object_replacing, object_without}

-- ---- lists and the parts of a tree

pub members_fields : (ms : List (List ℕ × Tree)) → members_of (fields_of ms) ≡ ms
members_fields [] = refl
members_fields (m ∷ ms) = ap (λ xs. m ∷ xs) (members_fields ms)

pub fields_members : (fs : Fields) → fields_of (members_of fs) ≡ fs
fields_members no_fields = refl
fields_members (field k t fs) = ap (field k t) (fields_members fs)

-- ---- members that are replaced

module _ (key : List ℕ) (n t : Tree) where
  replaced_step : (m : List ℕ × Tree) (ms xs ys : List (List ℕ × Tree)) (same : Bool) → bytes_eq m.0 key ≡ same → replaced_members key t xs ≡ ys
      → replaced_members key t (if same then (m.0, n) ∷ ms else m ∷ xs) ≡ (if same then (m.0, t) ∷ ms else m ∷ ys)
  replaced_step m ms xs ys true e h = cond-true (bytes_eq m.0 key) _ _ e
  replaced_step m ms xs ys false e h = cond-false (bytes_eq m.0 key) _ _ e ∙ ap (λ zs. m ∷ zs) h

  replaced_again : (ms : List (List ℕ × Tree)) → replaced_members key t (replaced_members key n ms) ≡ replaced_members key t ms
  replaced_again [] = refl
  replaced_again (m ∷ ms) = replaced_step m ms (replaced_members key n ms) (replaced_members key t ms) (bytes_eq m.0 key) refl (replaced_again ms)

  put_step : (m : List ℕ × Tree) (ms xs ys : List (List ℕ × Tree)) (same : Bool) → bytes_eq m.0 key ≡ same → members_with key t xs ≡ ys
      → members_with key t (if same then (m.0, n) ∷ ms else m ∷ xs) ≡ (if same then (m.0, t) ∷ ms else m ∷ ys)
  put_step m ms xs ys true e h = cond-true (bytes_eq m.0 key) _ _ e
  put_step m ms xs ys false e h = cond-false (bytes_eq m.0 key) _ _ e ∙ ap (λ zs. m ∷ zs) h

  put_again : (ms : List (List ℕ × Tree)) → members_with key t (replaced_members key n ms) ≡ members_with key t ms
  put_again [] = refl
  put_again (m ∷ ms) = put_step m ms (replaced_members key n ms) (members_with key t ms) (bytes_eq m.0 key) refl (put_again ms)

  found_step : (k : List ℕ) (x : Tree) (fs : Fields) (xs : List (List ℕ × Tree)) (same : Bool) → bytes_eq k key ≡ same
      → (if same then Some x else field_at key fs) ≡ Some n → (field_at key fs ≡ Some n → field_at key (fields_of xs) ≡ Some t)
      → field_at key (fields_of (if same then (k, t) ∷ members_of fs else (k, x) ∷ xs)) ≡ Some t
  found_step k x fs xs true e h go = cond-true (bytes_eq k key) _ _ e
  found_step k x fs xs false e h go = cond-false (bytes_eq k key) _ _ e ∙ go h

  -- what is replaced is there
  found_replaced : (fs : Fields) → field_at key fs ≡ Some n → field_at key (fields_of (replaced_members key t (members_of fs))) ≡ Some t
  found_replaced no_fields h = absurd (cc)
  found_replaced (field k x fs) h = found_step k x fs (replaced_members key t (members_of fs)) (bytes_eq k key) refl h (found_replaced fs)

module _ (key : List ℕ) (t : Tree) where
  itself_step : (k : List ℕ) (x : Tree) (fs : Fields) (same : Bool) → (if same then Some x else field_at key fs) ≡ Some t
      → (field_at key fs ≡ Some t → replaced_members key t (members_of fs) ≡ members_of fs)
      → (if same then (k, t) ∷ members_of fs else (k, x) ∷ replaced_members key t (members_of fs)) ≡ (k, x) ∷ members_of fs
  itself_step k x fs true h go = let e : x ≡ t = cc in ap (λ y. (k, y) ∷ members_of fs) (sym e)
  itself_step k x fs false h go = ap (λ ms. (k, x) ∷ ms) (go h)

  -- a tree is replaced by itself
  itself_replaced : (fs : Fields) → field_at key fs ≡ Some t → replaced_members key t (members_of fs) ≡ members_of fs
  itself_replaced no_fields h = absurd (cc)
  itself_replaced (field k x fs) h = itself_step k x fs (bytes_eq k key) h (itself_replaced fs)

  absent_step : (k : List ℕ) (x : Tree) (fs : Fields) (same : Bool) → (if same then Some x else field_at key fs) ≡ None
      → (field_at key fs ≡ None → replaced_members key t (members_of fs) ≡ members_of fs)
      → (if same then (k, t) ∷ members_of fs else (k, x) ∷ replaced_members key t (members_of fs)) ≡ (k, x) ∷ members_of fs
  absent_step k x fs true h go = absurd (cc)
  absent_step k x fs false h go = ap (λ ms. (k, x) ∷ ms) (go h)

  -- without the key nothing is replaced
  absent_replaced : (fs : Fields) → field_at key fs ≡ None → replaced_members key t (members_of fs) ≡ members_of fs
  absent_replaced no_fields h = refl
  absent_replaced (field k x fs) h = absent_step k x fs (bytes_eq k key) h (absent_replaced fs)

-- ---- objects

pub object_replaced_again : (key : List ℕ) (n t : Tree) (o : Tree) → object_replacing key t (object_replacing key n o) ≡ object_replacing key t o
object_replaced_again key n t (object fs) =
    ap (λ ms. object (fields_of (replaced_members key t ms))) (members_fields (replaced_members key n (members_of fs)))
    ∙ ap (λ ms. object (fields_of ms)) (replaced_again key n t (members_of fs))
object_replaced_again key n t null = refl
object_replaced_again key n t (boolean b) = refl
object_replaced_again key n t (number d) = refl
object_replaced_again key n t (text s) = refl
object_replaced_again key n t (list ts) = refl

pub object_put_again : (key : List ℕ) (n t : Tree) (o : Tree) → object_with key t (object_replacing key n o) ≡ object_with key t o
object_put_again key n t (object fs) =
    ap (λ ms. object (fields_of (members_with key t ms))) (members_fields (replaced_members key n (members_of fs)))
    ∙ ap (λ ms. object (fields_of ms)) (put_again key n t (members_of fs))
object_put_again key n t null = refl
object_put_again key n t (boolean b) = refl
object_put_again key n t (number d) = refl
object_put_again key n t (text s) = refl
object_put_again key n t (list ts) = refl

pub member_replaced : (key : List ℕ) (n t : Tree) (o : Tree) → member key o ≡ Some n → member key (object_replacing key t o) ≡ Some t
member_replaced key n t (object fs) h = found_replaced key n t fs h
member_replaced key n t null h = absurd (cc)
member_replaced key n t (boolean b) h = absurd (cc)
member_replaced key n t (number d) h = absurd (cc)
member_replaced key n t (text s) h = absurd (cc)
member_replaced key n t (list ts) h = absurd (cc)

pub object_itself : (key : List ℕ) (t : Tree) (o : Tree) → member key o ≡ Some t → object_replacing key t o ≡ o
object_itself key t (object fs) h = ap (λ ms. object (fields_of ms)) (itself_replaced key t fs h) ∙ ap object (fields_members fs)
object_itself key t null h = absurd (cc)
object_itself key t (boolean b) h = absurd (cc)
object_itself key t (number d) h = absurd (cc)
object_itself key t (text s) h = absurd (cc)
object_itself key t (list ts) h = absurd (cc)

pub object_absent : (key : List ℕ) (t : Tree) (o : Tree) → member key o ≡ None → object_replacing key t o ≡ o
object_absent key t (object fs) h = ap (λ ms. object (fields_of ms)) (absent_replaced key t fs h) ∙ ap object (fields_members fs)
object_absent key t null h = refl
object_absent key t (boolean b) h = refl
object_absent key t (number d) h = refl
object_absent key t (text s) h = refl
object_absent key t (list ts) h = refl

-- ---- objects of the program

pub with_object : (key : List ℕ) (t : Tree) (ms : List (List ℕ × Tree)) → object_with key t (object (fields_of ms)) ≡ object (fields_of (members_with key t ms))
with_object key t ms = ap (λ xs. object (fields_of (members_with key t xs))) (members_fields ms)

pub replacing_object : (key : List ℕ) (t : Tree) (ms : List (List ℕ × Tree)) → object_replacing key t (object (fields_of ms)) ≡ object (fields_of (replaced_members key t ms))
replacing_object key t ms = ap (λ xs. object (fields_of (replaced_members key t xs))) (members_fields ms)

pub without_object : (key : List ℕ) (ms : List (List ℕ × Tree)) → object_without key (object (fields_of ms)) ≡ object (fields_of (members_without key ms))
without_object key ms = ap (λ xs. object (fields_of (members_without key xs))) (members_fields ms)
