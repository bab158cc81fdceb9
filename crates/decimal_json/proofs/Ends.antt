-- How a text that has begun can end, with as many letters after it as are wanted.
use Rattle.std.proofs.Common.{◌≡◌, ℕ, zero, suc, ◌≤◌, List, [], ◌∷◌, ◌++◌, length, Bool, true, false, IsUtf8, refl, append_assoc, length-append, arith, inl, inr}
use Rattle.std.specs.Prelude.{IsTrue, Option, Some, None, not, if◌then◌else◌, encode_utf8}
use Rattle.std.proofs.lemmas.Bool.{and_parts, and_from}
use Rattle.std.proofs.lemmas.Str.{IsUtf8-append, IsUtf8-nil}
use Rattle.json_tokens.specs.Rules.{Rules}
use Rattle.json_tokens.specs.Readers.{CanEnd}
use Rattle.json_tokens.specs.TextToken.{Piece, plain, escaped, SpellsPieces, is_high, is_low, paired, are_paired, meant}
use Rattle.decimal_json.specs.Follows.{is_due, FollowsLong}
use Rattle.decimal_json.proofs.Pieces.{plains, ArePlain, both_pieces}
use Rattle.decimal_json.proofs.Utf8.{ascii_then}

-- so many letters a
abbrev letters : ℕ → List ℕ
letters zero = []
letters (suc n) = 97 ∷ letters n

letters_plain : (n : ℕ) → ArePlain (letters n)
letters_plain zero = refl
letters_plain (suc n) = letters_plain n

letters_utf8 : (n : ℕ) → IsUtf8 (letters n)
letters_utf8 zero = IsUtf8-nil
letters_utf8 (suc n) = ascii_then 97 (letters n) (omega arith) (letters_utf8 n)

letters_length : (n : ℕ) → n ≤ length (letters n)
letters_length zero = omega arith
letters_length (suc n) = let h = letters_length n in omega arith

-- unescaped bytes go on a text where nothing is due at its end
pub plains_paired : (b : List ℕ) → are_paired false (plains b) ≡ true
plains_paired [] = refl
plains_paired (c ∷ b) = plains_paired b

paired_more : (due : Bool) (ps : List Piece) (b : List ℕ) → are_paired due ps ≡ true → are_paired due (ps ++ plains b) ≡ true
paired_more true [] b h = cc
paired_more false [] b h = plains_paired b
paired_more true (plain c ∷ ps) b h = cc
paired_more false (plain c ∷ ps) b h = paired_more false ps b h
paired_more true (escaped u ∷ ps) b h =
    let parts = and_parts (is_low u) (are_paired false ps) h in
    and_from (is_low u) (are_paired false (ps ++ plains b)) parts.0 (paired_more false ps b parts.1)
paired_more false (escaped u ∷ ps) b h =
    let parts = and_parts (not (is_low u)) (are_paired (is_high u) ps) h in
    and_from (not (is_low u)) (are_paired (is_high u) (ps ++ plains b)) parts.0 (paired_more (is_high u) ps b parts.1)

-- and make it longer
longer : (n : ℕ) (a b : List ℕ) → n ≤ length b → n ≤ length (a ++ b)
longer n a b h = omega (arith, length-append a b)

either_long : (n : ℕ) (b : Bool) (x y : List ℕ) → n ≤ length x → n ≤ length y → n ≤ length (if b then x else y)
either_long n true x y h k = h
either_long n false x y h k = k

one_longer : (n c : ℕ) (b : List ℕ) → n ≤ length b → n ≤ length (c ∷ b)
one_longer n c b h = omega arith

meant_letters : (n : ℕ) (b : List ℕ) → n ≤ length b → n ≤ length (meant None (plains b))
meant_letters n [] h = h
meant_letters zero (c ∷ b) h = omega arith
meant_letters (suc n) (c ∷ b) h = let k : n ≤ length b = omega arith in let m = meant_letters n b k in omega arith

letters_behind : (high n : ℕ) (b : List ℕ) → n ≤ length b → n ≤ length (meant (Some high) (plains b))
letters_behind high n [] h = omega arith
letters_behind high n (c ∷ b) h = longer n (encode_utf8 high) (c ∷ meant None (plains b)) (meant_letters n (c ∷ b) h)

meant_more : (due : Option ℕ) (ps : List Piece) (n : ℕ) (b : List ℕ) → n ≤ length b → n ≤ length (meant due (ps ++ plains b))
meant_more None [] n b h = meant_letters n b h
meant_more (Some high) [] n b h = letters_behind high n b h
meant_more None (plain c ∷ ps) n b h = one_longer n c _ (meant_more None ps n b h)
meant_more (Some high) (plain c ∷ ps) n b h = longer n (encode_utf8 high) _ (one_longer n c _ (meant_more None ps n b h))
meant_more None (escaped u ∷ ps) n b h =
    either_long n (is_high u) _ _ (meant_more (Some u) ps n b h) (longer n (encode_utf8 u) _ (meant_more None ps n b h))
meant_more (Some high) (escaped u ∷ ps) n b h =
    either_long n (is_low u) _ _ (longer n (encode_utf8 (paired high u)) _ (meant_more None ps n b h))
    (longer n (encode_utf8 high) _ (either_long n (is_high u) _ _ (meant_more (Some u) ps n b h) (longer n (encode_utf8 u) _ (meant_more None ps n b h))))

regroup : (p more tail q : List ℕ) → p ++ ((more ++ (tail ++ 34 ∷ [])) ++ q) ≡ ((p ++ more) ++ tail) ++ 34 ∷ q
regroup p more tail q = simp append_assoc

-- A text ends that pieces complete.
pub long_ends : (due : Option ℕ) (r : Rules) (least : ℕ) (p more : List ℕ) (pieces : List Piece) → SpellsPieces pieces (p ++ more) []
    → (r.utf8 ≡ true → IsUtf8 (p ++ more)) → (r.surrogate ≡ true → IsTrue (are_paired (is_due due) pieces)) → CanEnd (FollowsLong due least) r p
long_ends due r least p more pieces sp utf8 pair =
    let tail = letters least in
    let all = pieces ++ plains tail in
    let spelled : SpellsPieces all ((p ++ more) ++ tail) [] = both_pieces pieces (plains tail) (p ++ more) tail [] sp (letters_spelled least) in (
      meant due all,
      more ++ (tail ++ 34 ∷ []),
      λ q _.
          (((p ++ more) ++ tail, all, regroup p more tail q, spelled, λ z. IsUtf8-append (p ++ more) tail (utf8 z) (letters_utf8 least), λ z. paired_more (is_due due) pieces tail (pair z), refl), inl (meant_more due pieces least tail (letters_length least))),
    )
  where
    letters_spelled : (n : ℕ) → SpellsPieces (plains (letters n)) (letters n) []
    letters_spelled zero = refl
    letters_spelled (suc n) = (letters n, refl, refl, letters_spelled n)

-- A text ends at its closing mark, where it is no UTF-8.
pub mark_ends : (due : Option ℕ) (r : Rules) (least : ℕ) (p : List ℕ) (pieces : List Piece) → SpellsPieces pieces p []
    → (r.utf8 ≡ true → IsUtf8 p) → (r.surrogate ≡ true → IsTrue (are_paired (is_due due) pieces)) → (IsUtf8 (meant due pieces) → ⊥) → CanEnd (FollowsLong due least) r (p ++ 34 ∷ [])
mark_ends due r least p pieces sp utf8 pair differs =
    (meant due pieces, [], λ q _. ((p, pieces, append_assoc p (34 ∷ []) q, sp, utf8, pair, refl), inr differs))
