-- What byte places in a text say of the positions of its scalar values.
use Rattle.std.proofs.Common.{◌≡◌, ℕ, ◌+◌, ◌-◌, ◌<◌, ◌≤◌, List, [], ◌∷◌, ◌++◌, refl, sym, ap, ◌∙◌, subst, arith, length, take, drop, append_assoc}
use Rattle.std.specs.Prelude.{Option, Some, None}
use Rattle.std.specs.Str.{chars, encode_utf8_all, IsUtf8, IsCharBoundary}
use Rattle.std.specs.Char.{encode_utf8}
use Rattle.std.specs.Str.Pattern.{FindsText}
use Rattle.std.proofs.lemmas.List.{length-append, length-drop, length-take-le, take-append-drop, take-append-le, drop-drop}
use Rattle.std.proofs.lemmas.Str.{encodes-chars, encodes-append, chars-append, IsUtf8-take, length-le-encodes, chars-nil, chars_past_char, IsUtf8-past_char, IsCharBoundary-at_seam}
use Rattle.std.proofs.Math.Seq.{take-append_seam, drop-append_seam}
use Rattle.std.specs.Str.Iter.{chars_rest, chars_steps}
use Rattle.std.specs.declared.str.Chars.{Chars}
use Rattle.text_units.specs.Position.{IsFirstPlace}

-- the bytes of a text whose values have the part among them
bytes_around : (text part before after : List ℕ) → IsUtf8 text → IsUtf8 part → chars text ≡ before ++ (chars part ++ after) → text ≡ encode_utf8_all before ++ (part ++ encode_utf8_all after)
bytes_around text part before after u v is =
    sym (encodes-chars text u) ∙ ap encode_utf8_all is ∙ encodes-append before (chars part ++ after)
    ∙ ap (λ x. encode_utf8_all before ++ x) (encodes-append (chars part) after ∙ ap (λ x. x ++ encode_utf8_all after) (encodes-chars part v))

bytes_after : (text part before after : List ℕ) → IsUtf8 text → IsUtf8 part → chars text ≡ before ++ (chars part ++ after) → drop (length (encode_utf8_all before)) text ≡ part ++ encode_utf8_all after
bytes_after text part before after u v is =
    ap (drop (length (encode_utf8_all before))) (bytes_around text part before after u v is) ∙ drop-append_seam (encode_utf8_all before) (part ++ encode_utf8_all after)

bytes_before : (text part before after : List ℕ) → IsUtf8 text → IsUtf8 part → chars text ≡ before ++ (chars part ++ after) → length (encode_utf8_all before) ≤ length text
bytes_before text part before after u v is =
    omega (arith, ap length (bytes_around text part before after u v is), length-append (encode_utf8_all before) (part ++ encode_utf8_all after))

-- a search that finds nothing
pub found_nowhere : (text part : List ℕ) → IsUtf8 text → IsUtf8 part → FindsText part text None → IsFirstPlace (chars text) (chars part) 0 None
found_nowhere text part u v lacks = λ place h stands.
    let (before, after, is, long) = stands in
    lacks (length (encode_utf8_all before)) (bytes_before text part before after u v is) (encode_utf8_all after) (bytes_after text part before after u v is)

-- the values before a byte place
values_split : (text : List ℕ) (i : ℕ) → IsUtf8 text → IsCharBoundary text i → chars text ≡ chars (take i text) ++ chars (drop i text)
values_split text i u boundary = ap chars (sym (take-append-drop i text)) ∙ chars-append (take i text) (drop i text) (IsUtf8-take text i u boundary)

-- fewer values take fewer bytes
fewer_bytes : (text before rest : List ℕ) (i : ℕ) → IsUtf8 text → IsCharBoundary text i → chars text ≡ before ++ rest → length before < length (chars (take i text)) → length (encode_utf8_all before) < i
fewer_bytes text before rest i u boundary is short =
    let values : List ℕ = chars (take i text) in
    let shorter : length before ≤ length values = omega arith in
    let front : before ≡ take (length before) values =
    sym (take-append_seam before rest) ∙ ap (take (length before)) (sym is ∙ values_split text i u boundary) ∙ take-append-le (length before) values (chars (drop i text)) shorter in
    let whole : values ≡ before ++ drop (length before) values = sym (take-append-drop (length before) values) ∙ ap (λ x. x ++ drop (length before) values) (sym front) in
    let bytes : take i text ≡ encode_utf8_all before ++ encode_utf8_all (drop (length before) values) =
    sym (encodes-chars (take i text) (IsUtf8-take text i u boundary)) ∙ ap encode_utf8_all whole ∙ encodes-append before (drop (length before) values) in
    omega (arith, ap length bytes, length-append (encode_utf8_all before) (encode_utf8_all (drop (length before) values)), length-le-encodes (drop (length before) values), length-drop (length before) values, length-take-le i text boundary.0)

-- a search that finds the part at a byte place
pub found_at : (text part : List ℕ) (i j : ℕ) → IsUtf8 text → IsUtf8 part → FindsText part text (Some (i, j)) → IsCharBoundary text i → IsFirstPlace (chars text) (chars part) 0 (Some (length (chars (take i text))))
found_at text part i j u v (lacks, at) boundary = (
  omega arith,
  (chars (take i text), chars (drop j text), values_split text i u boundary ∙ ap (λ x. chars (take i text) ++ x) (ap chars at.split ∙ chars-append part (drop j text) v), refl),
  λ place h low stands.
      let (before, after, is, long) = stands in
      lacks (length (encode_utf8_all before)) (fewer_bytes text before (chars part ++ after) i u boundary is (omega arith)) (encode_utf8_all after) (bytes_after text part before after u v is),
)

pub values_within : (text : List ℕ) (i : ℕ) → IsUtf8 text → IsCharBoundary text i → length (chars (take i text)) ≤ length (chars text)
values_within text i u boundary = omega (arith, ap length (values_split text i u boundary), length-append (chars (take i text)) (chars (drop i text)))

-- what walking over values keeps: the bytes that are left are the text's end, and have the values that are
-- left
pub record IsLeft (text rest : List ℕ) (passed : ℕ) : Type 0 where
  pub front : List ℕ
  pub cut : text ≡ front ++ rest
  pub utf8 : IsUtf8 rest
  pub values : chars rest ≡ drop passed (chars text)

-- one value more is passed, or there is none
left_step_to : (text rest next : List ℕ) (passed c : ℕ) → rest ≡ encode_utf8 c ++ next → IsLeft text rest passed → IsLeft text next (passed + 1)
left_step_to text rest next passed c is left =
    let ahead : chars rest ≡ c ∷ chars next = chars_past_char rest next c left.utf8 is in
    record {
      front = left.front ++ encode_utf8 c;
      cut = left.cut ∙ ap (λ x. left.front ++ x) is ∙ sym (append_assoc left.front (encode_utf8 c) next);
      utf8 = IsUtf8-past_char rest next c left.utf8 is;
      values = ap (drop 1) (sym ahead ∙ left.values) ∙ drop-drop 1 passed (chars text);
    }

left_step_none : (text rest : List ℕ) (passed : ℕ) → length rest ≡ 0 → IsLeft text rest passed → IsLeft text rest (passed + 1)
left_step_none text [] passed none left =
    record { front = left.front; cut = left.cut; utf8 = left.utf8; values = chars-nil ∙ ap (drop 1) (sym chars-nil ∙ left.values) ∙ drop-drop 1 passed (chars text) }
left_step_none text (c ∷ rest) passed none left = absurd (omega arith)

pub left_step : (text : List ℕ) (s t : Chars) (r : Option ℕ) (passed : ℕ) → chars_steps s r t → IsLeft text (chars_rest s) passed → IsLeft text (chars_rest t) (passed + 1)
left_step text s t None passed ((none, same), some, get) left =
    subst (λ (x : Chars). IsLeft text (chars_rest x) (passed + 1)) (sym same) (left_step_none text (chars_rest s) passed none left)
left_step text s t (Some c) passed (is, some, get) left = left_step_to text (chars_rest s) (chars_rest t) passed c is left

-- where the text is cut in front of what is left
pub left_length : (text rest : List ℕ) (passed : ℕ) → IsLeft text rest passed → length rest ≤ length text
left_length text rest passed left = omega (arith, ap length left.cut, length-append left.front rest)

left_place : (text rest : List ℕ) (passed : ℕ) (left : IsLeft text rest passed) → length text - length rest ≡ length left.front
left_place text rest passed left = omega (arith, ap length left.cut, length-append left.front rest)

pub left_boundary : (text rest : List ℕ) (passed : ℕ) → IsLeft text rest passed → IsCharBoundary text (length text - length rest)
left_boundary text rest passed left = subst (IsCharBoundary text) (sym (left_place text rest passed left)) (IsCharBoundary-at_seam text left.front rest left.cut left.utf8)

pub left_back : (text rest : List ℕ) (passed : ℕ) → IsLeft text rest passed → chars (drop (length text - length rest) text) ≡ drop passed (chars text)
left_back text rest passed left =
    ap chars (ap (λ n. drop n text) (left_place text rest passed left) ∙ ap (drop (length left.front)) left.cut ∙ drop-append_seam left.front rest) ∙ left.values

pub left_front : (text rest : List ℕ) (passed position : ℕ) → IsUtf8 text → position ≤ length (chars text) → IsLeft text rest passed → passed ≡ position → chars (take (length text - length rest) text) ≡ take position (chars text)
left_front text rest passed position u within left all =
    let place : ℕ = length text - length rest in
    let front : List ℕ = chars (take place text) in
    let both : chars text ≡ front ++ drop passed (chars text) = values_split text place u (left_boundary text rest passed left) ∙ ap (λ x. front ++ x) (left_back text rest passed left) in
    let long : length front ≡ position = omega (arith, ap length both, length-append front (drop passed (chars text)), length-drop passed (chars text)) in
    sym (ap (take position) both ∙ ap (λ n. take n (front ++ drop passed (chars text))) (sym long) ∙ take-append_seam front (drop passed (chars text)))
