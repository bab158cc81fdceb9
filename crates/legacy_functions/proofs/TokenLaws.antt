-- Tokens of a text.
use Rattle.std.proofs.Common.{◌≡◌, ◌∙◌, ℕ, zero, suc, ◌+◌, ◌-◌, ◌<◌, ◌≤◌, List, [], ◌∷◌, ◌++◌, append_assoc, length, take, drop, get_or, nat_lt, arith, add-one, sym, subst, ap, refl, true, false}
use Rattle.std.proofs.lemmas.Bool.{lt-ltb, eqb-true}
use Rattle.std.proofs.Math.Dec.{eqb-suc-zero}
use Rattle.std.proofs.lemmas.List.{take-append-drop}
use Rattle.std.proofs.lemmas.Str.{IsCharBoundary-after_ascii, IsCharBoundary-before_ascii, IsUtf8-between}
use Rattle.std.specs.Prelude.{flat_map, map, IsUtf8, Bool, ◌||◌, nat_eq, if◌then◌else◌, Option, Some, None, is_some}
use Rattle.std.specs.List.{list_any}
use Rattle.std.specs.Str.{IsCharBoundary}
use Rattle.decimal_json.specs.Tree.{Tree}
use Rattle.shared_text.specs.Ranges.{IsRest}
use Rattle.tile_reader.specs.declared.tile.Feature.{Feature}
use Rattle.legacy_functions.specs.declared.tokens.TokenPiece.{TokenPiece}
use Rattle.legacy_functions.specs.declared.tokens.TokenPiece.TheVariants.{Plain, Token}
use Rattle.legacy_functions.specs.Tokens.{piece_text, token_text, piece_expression, is_brace, before_brace, closes, closed_name, token_name, token_at, with_byte, with_piece, rest_of_token, pieces_behind, pieces, is_token, has_tokens}
use Rattle.legacy_functions.specs.TokenSize.{size_of, token_size, plain_size, begins_token, any_token}

any_with_byte : (b : ℕ) (ps : List TokenPiece) → list_any is_token (with_byte b ps) ≡ list_any is_token ps
any_with_byte b [] = refl
any_with_byte b (Plain s ∷ ps) = refl
any_with_byte b (Token name ∷ ps) = refl

any_with_piece : (b : ℕ) (found : Option (List ℕ)) (bs : List ℕ) → list_any is_token (pieces_behind 0 bs) ≡ any_token bs → list_any is_token (with_piece b found (pieces_behind (rest_of_token found) bs)) ≡ (is_some found || any_token bs)
any_with_piece b (Some name) bs later = refl
any_with_piece b None bs later = any_with_byte b (pieces_behind 0 bs) ∙ later

-- a text has a token where one begins somewhere
pub tokens_anywhere : (bs : List ℕ) → has_tokens bs ≡ any_token bs
tokens_anywhere [] = refl
tokens_anywhere (b ∷ bs) = any_with_piece b (token_at b bs) bs (tokens_anywhere bs)

sized : (found : Option (List ℕ)) → nat_lt 0 (size_of found) ≡ is_some found
sized (Some name) = lt-ltb 0 (length name + 2) (omega arith)
sized None = refl

pub size_begins : (bs : List ℕ) → nat_lt 0 (token_size bs) ≡ begins_token bs
size_begins [] = refl
size_begins (b ∷ bs) = sized (token_at b bs)

any_after : (bs : List ℕ) (i : ℕ) → i < length bs → any_token (drop i bs) ≡ (begins_token (drop i bs) || any_token (drop (suc i) bs))
any_after [] i h = absurd (omega arith)
any_after (b ∷ bs) zero h = refl
any_after (b ∷ bs) (suc i) h = any_after bs i (omega arith)

-- from a place on: at it, or after it
pub any_from : (bs : List ℕ) (i : ℕ) → i < length bs → any_token (drop i bs) ≡ (begins_token (drop i bs) || any_token (drop (i + 1) bs))
any_from bs i h = any_after bs i h ∙ ap (λ n. begins_token (drop i bs) || any_token (drop n bs)) (sym (add-one i))

-- where none begins, it is one after
pub any_kept : (bs : List ℕ) (i : ℕ) (whole : Bool) → i < length bs → begins_token (drop i bs) ≡ false → any_token (drop i bs) ≡ whole → any_token (drop (i + 1) bs) ≡ whole
any_kept bs i whole h none kept = ap (λ b. b || any_token (drop (i + 1) bs)) (sym none) ∙ (sym (any_from bs i h) ∙ kept)

-- ---- the first piece of a text

-- after the rest of a token the pieces begin anew
behind : (k : ℕ) (bs : List ℕ) → pieces_behind k bs ≡ pieces_behind 0 (drop k bs)
behind zero bs = refl
behind (suc k) [] = refl
behind (suc k) (b ∷ bs) = ap (λ t. if t then with_piece b (token_at b bs) (pieces_behind (rest_of_token (token_at b bs)) bs) else pieces_behind (suc k - 1) bs) (eqb-suc-zero k) ∙ (ap (λ n. pieces_behind n bs) less ∙ behind k bs)
  where
    less : suc k - 1 ≡ k
    less = omega arith

-- what is known of the token of some bytes
abbrev pub IsTokenOf : List ℕ → List ℕ → Type 0
IsTokenOf bs name = (take (length name) bs ≡ name) × (length name < length bs) × (get_or bs (length name) 0 ≡ 125) × (0 < length name)

take_before : (bs : List ℕ) → take (length (before_brace bs)) bs ≡ before_brace bs
take_before [] = refl
take_before (b ∷ bs) = before_if (is_brace b) (take_before bs)
  where
    before_if : (t : Bool) → take (length (before_brace bs)) bs ≡ before_brace bs → take (length (if t then [] else b ∷ before_brace bs)) (b ∷ bs) ≡ (if t then [] else b ∷ before_brace bs)
    before_if true later = refl
    before_if false later = ap (λ cs. b ∷ cs) later

closes_at : (bs : List ℕ) (n : ℕ) → closes (drop n bs) ≡ true → (n < length bs) × (get_or bs n 0 ≡ 125)
closes_at [] zero h = absurd (cc)
closes_at [] (suc n) h = absurd (cc)
closes_at (b ∷ bs) zero h = (omega arith, eqb-true b 125 h)
closes_at (b ∷ bs) (suc n) h = let later = closes_at bs n h in (omega (arith, later.0), later.1)

abbrev TokenOf : List ℕ → Option (List ℕ) → Type 0
TokenOf bs (Some name) = IsTokenOf bs name
TokenOf bs None = Unit {0}

closed_is_token : (bs name : List ℕ) → take (length name) bs ≡ name → TokenOf bs (closed_name name (drop (length name) bs))
closed_is_token bs [] is = tt
closed_is_token bs (c ∷ cs) is = closed_if (closes (drop (length (c ∷ cs)) bs)) refl
  where
    closed_if : (t : Bool) → closes (drop (length (c ∷ cs)) bs) ≡ t → TokenOf bs (if t then Some (c ∷ cs) else None)
    closed_if true e = let at = closes_at bs (length (c ∷ cs)) e in (is, at.0, at.1, omega arith)
    closed_if false e = tt

name_is_token : (bs : List ℕ) → TokenOf bs (token_name bs)
name_is_token bs = closed_is_token bs (before_brace bs) (take_before bs)

-- a token at the beginning of some bytes, with its size
pub record BeginsToken (bs : List ℕ) (size : ℕ) : Type 0 where
  pub least : 3 ≤ size
  pub within : size ≤ length bs
  pub opens : get_or bs 0 0 ≡ 123
  pub closed : get_or bs (size - 1) 0 ≡ 125
  pub first : pieces bs ≡ Token (take (size - 2) (drop 1 bs)) ∷ pieces (drop size bs)

token_begins : (b : ℕ) (bs name : List ℕ) → nat_eq b 123 ≡ true → token_at b bs ≡ Some name → IsTokenOf bs name → BeginsToken (b ∷ bs) (length name + 2)
token_begins b bs name opens found is =
    let size : length name + 2 - 2 ≡ length name = omega arith in
    let last : length name + 2 - 1 ≡ suc (length name) = omega arith in
    let whole : length name + 2 ≡ suc (length name + 1) = omega arith in
    record {
      least = omega (arith, is.3);
      within = omega (arith, is.1);
      opens = eqb-true b 123 opens;
      closed = ap (λ n. get_or (b ∷ bs) n 0) last ∙ is.2;
      first =
          ap (λ t. with_piece b t (pieces_behind (rest_of_token t) bs)) found
          ∙ (ap (λ ps. Token name ∷ ps) (behind (length name + 1) bs)
          ∙ (λ i. Token (sym (ap (λ n. take n bs) size ∙ is.0) i) ∷ pieces (sym (ap (λ n. drop n (b ∷ bs)) whole) i)));
    }

pub begins : (bs : List ℕ) (size : ℕ) → size ≡ token_size bs → 0 < size → BeginsToken bs size
begins [] size is some = absurd (omega (arith, is))
begins (b ∷ bs) size is some = begins_if (nat_eq b 123) refl
  where
    begins_if : (t : Bool) → nat_eq b 123 ≡ t → BeginsToken (b ∷ bs) size
    begins_if false e =
        let none : token_at b bs ≡ None = ap (λ t. if t then token_name bs else None) e in
        let zero_size : size ≡ 0 = is ∙ ap size_of none in
        absurd (omega (arith, zero_size))
    begins_if true e = named (token_name bs) (ap (λ t. if t then token_name bs else None) e) (name_is_token bs)
      where
        named : (found : Option (List ℕ)) → token_at b bs ≡ found → TokenOf bs found → BeginsToken (b ∷ bs) size
        named (Some name) q is_token = subst (BeginsToken (b ∷ bs)) (sym (is ∙ ap size_of q)) (token_begins b bs name e q is_token)
        named None q is_token = let zero_size : size ≡ 0 = is ∙ ap size_of q in absurd (omega (arith, zero_size))

-- bytes before a token, or all
pub record BeginsPlain (bs : List ℕ) (size : ℕ) : Type 0 where
  pub some : 0 < size
  pub within : size ≤ length bs
  pub opens : size < length bs → get_or bs size 0 ≡ 123
  pub first : pieces bs ≡ Plain (take size bs) ∷ pieces (drop size bs)

-- where a token begins there is no byte before it, and the first piece is none of bytes
plain_some : (b : ℕ) (bs : List ℕ) (t : Bool) → is_some (token_at b bs) ≡ t → 0 < (if t then 0 else plain_size bs + 1) → t ≡ false
plain_some b bs true e h = absurd (omega arith)
plain_some b bs false e h = refl

no_token : (found : Option (List ℕ)) → is_some found ≡ false → found ≡ None
no_token (Some name) h = absurd (cc)
no_token None h = refl

-- a byte of no token before what follows it
byte_first : (b : ℕ) (bs : List ℕ) → token_at b bs ≡ None → pieces (b ∷ bs) ≡ with_byte b (pieces bs)
byte_first b bs none = ap (λ t. with_piece b t (pieces_behind (rest_of_token t) bs)) none

-- the byte that begins a token
opening : (b : ℕ) (bs : List ℕ) → is_some (token_at b bs) ≡ true → b ≡ 123
opening b bs h = opening_if (nat_eq b 123) refl h
  where
    opening_if : (t : Bool) → nat_eq b 123 ≡ t → is_some (if t then token_name bs else None) ≡ true → b ≡ 123
    opening_if true e h = eqb-true b 123 e
    opening_if false e h = absurd (cc)

-- one byte of no token, and then a token or nothing
one_byte : (b : ℕ) (bs : List ℕ) → token_at b bs ≡ None → plain_size bs ≡ 0 → BeginsPlain (b ∷ bs) 1
one_byte b [] none h = record { some = omega arith; within = omega arith; opens = λ k. absurd (omega arith); first = byte_first b [] none }
one_byte b (c ∷ cs) none h = next (token_at c cs) refl
  where
    next : (found : Option (List ℕ)) → token_at c cs ≡ found → BeginsPlain (b ∷ c ∷ cs) 1
    next (Some name) q = record {
      some = omega arith;
      within = omega arith;
      opens = λ k. opening c cs (ap is_some q);
      first = byte_first b (c ∷ cs) none ∙ (ap (λ ps. with_byte b ps) token_first ∙ sym (ap (λ ps. Plain (b ∷ []) ∷ ps) token_first));
    }
      where
        token_first : pieces (c ∷ cs) ≡ Token name ∷ pieces_behind (rest_of_token (Some name)) cs
        token_first = ap (λ t. with_piece c t (pieces_behind (rest_of_token t) cs)) q
    next None q = absurd (let some : plain_size (c ∷ cs) ≡ plain_size cs + 1 = ap (λ t. if is_some t then 0 else plain_size cs + 1) q in omega (arith, h, some))

-- a byte of no token, and more of them
more_bytes : (b : ℕ) (bs : List ℕ) (size : ℕ) → token_at b bs ≡ None → BeginsPlain bs size → BeginsPlain (b ∷ bs) (suc size)
more_bytes b bs size none later = record {
  some = omega arith;
  within = omega (arith, later.within);
  opens = λ k. later.opens (omega arith);
  first = byte_first b bs none ∙ ap (λ ps. with_byte b ps) later.first;
}

pub begins_plain : (bs : List ℕ) (size : ℕ) → size ≡ plain_size bs → 0 < size → BeginsPlain bs size
begins_plain [] size is some = absurd (omega (arith, is))
begins_plain (b ∷ bs) size is some = plain_if (is_some (token_at b bs)) refl (begins_plain bs)
  where
    plain_if : (t : Bool) → is_some (token_at b bs) ≡ t → ((n : ℕ) → n ≡ plain_size bs → 0 < n → BeginsPlain bs n) → BeginsPlain (b ∷ bs) size
    plain_if true e later = absurd (let none : size ≡ 0 = is ∙ ap (λ t. if t then 0 else plain_size bs + 1) e in omega (arith, none))
    plain_if false e later =
        let more : size ≡ suc (plain_size bs) = is ∙ (ap (λ t. if t then 0 else plain_size bs + 1) e ∙ add-one (plain_size bs)) in
        subst (BeginsPlain (b ∷ bs)) (sym more) (plain_by (plain_size bs) refl (no_token (token_at b bs) e))
      where
        plain_by : (n : ℕ) → plain_size bs ≡ n → token_at b bs ≡ None → BeginsPlain (b ∷ bs) (suc n)
        plain_by zero q none = one_byte b bs none q
        plain_by (suc n) q none = more_bytes b bs (suc n) none (later (suc n) (sym q) (omega arith))

-- bytes of no token begin with one
pub plain_positive : (bs : List ℕ) → token_size bs ≡ 0 → 0 < length bs → 0 < plain_size bs
plain_positive [] h some = absurd (omega arith)
plain_positive (b ∷ bs) h some = positive (token_at b bs) refl
  where
    positive : (found : Option (List ℕ)) → token_at b bs ≡ found → 0 < plain_size (b ∷ bs)
    positive (Some name) q = absurd (let size : token_size (b ∷ bs) ≡ length name + 2 = ap size_of q in omega (arith, h, size))
    positive None q = let size : plain_size (b ∷ bs) ≡ plain_size bs + 1 = ap (λ t. if is_some t then 0 else plain_size bs + 1) q in omega (arith, size)

plain_after : (bs : List ℕ) (i : ℕ) → i < length bs → plain_size (drop i bs) ≡ (if begins_token (drop i bs) then 0 else plain_size (drop (suc i) bs) + 1)
plain_after [] i h = absurd (omega arith)
plain_after (b ∷ bs) zero h = refl
plain_after (b ∷ bs) (suc i) h = plain_after bs i (omega arith)

-- from a place on: no byte where a token begins there, else one more than after it
pub plain_from : (bs : List ℕ) (i : ℕ) → i < length bs → plain_size (drop i bs) ≡ (if begins_token (drop i bs) then 0 else plain_size (drop (i + 1) bs) + 1)
plain_from bs i h = plain_after bs i h ∙ ap (λ n. if begins_token (drop i bs) then 0 else plain_size (drop n bs) + 1) (sym (add-one i))

-- one piece fewer after the first
pub fewer_after_token : (bs : List ℕ) (size : ℕ) → size ≡ token_size bs → 0 < size → length (pieces bs) ≡ length (pieces (drop size bs)) + 1
fewer_after_token bs size is some = ap length (begins bs size is some).first ∙ sym (add-one (length (pieces (drop size bs))))

pub fewer_after_plain : (bs : List ℕ) (size : ℕ) → token_size bs ≡ 0 → 0 < length bs → size ≡ plain_size bs → (0 < size) × (length (pieces bs) ≡ length (pieces (drop size bs)) + 1)
fewer_after_plain bs size none any is =
    let some : 0 < size = omega (arith, is, plain_positive bs none any) in
    (some, ap length (begins_plain bs size is some).first ∙ sym (add-one (length (pieces (drop size bs)))))

-- what follows some bytes of what is left is left too
pub left_after : (rest document : List ℕ) (n : ℕ) → IsRest rest document → IsRest (drop n rest) document
left_after rest document n (front, cut) =
    (front ++ take n rest, cut ∙ (ap (λ bs. front ++ bs) (sym (take-append-drop n rest)) ∙ sym (append_assoc front (take n rest) (drop n rest))))

-- the name in a token is a text
pub name_is_text : (bs : List ℕ) (size : ℕ) → IsUtf8 bs → BeginsToken bs size → IsUtf8 (take (size - 2) (drop 1 bs))
name_is_text bs size utf8 token =
    let opens = token.opens in
    let closed = token.closed in
    let less : size - 1 - 1 ≡ size - 2 = omega arith in
    let from : IsCharBoundary bs (0 + 1) = IsCharBoundary-after_ascii bs 0 utf8 (omega (arith, token.least, token.within)) (omega (arith, opens)) in
    let to : IsCharBoundary bs (size - 1) = IsCharBoundary-before_ascii bs (size - 1) (omega (arith, token.least, token.within)) (omega (arith, closed)) in
    subst (λ n. IsUtf8 (take n (drop 1 bs))) less (IsUtf8-between bs 1 (size - 1) utf8 (omega (arith, token.least)) from to)

-- a piece that was added, before the pieces of what follows
pub piece_added : (old new : List Tree) (p : TokenPiece) (made : Tree) (rest later : List ℕ) → new ≡ old ++ made ∷ [] → made ≡ piece_expression p → pieces rest ≡ p ∷ pieces later → new ++ map piece_expression (pieces later) ≡ old ++ map piece_expression (pieces rest)
piece_added old new p made rest later e is f =
    ap (λ ts. ts ++ map piece_expression (pieces later)) (e ∙ ap (λ t. old ++ t ∷ []) is)
    ∙ (append_assoc old (piece_expression p ∷ []) (map piece_expression (pieces later)) ∙ ap (λ ps. old ++ map piece_expression ps) (sym f))

-- the text of a piece that was added, before that of what follows
pub text_added : (old new : List ℕ) (p : TokenPiece) (rest later : List ℕ) (feature : Feature) → new ≡ old ++ piece_text feature p → pieces rest ≡ p ∷ pieces later → new ++ token_text later feature ≡ old ++ token_text rest feature
text_added old new p rest later feature e f =
    ap (λ (bs : List ℕ). bs ++ token_text later feature) e
    ∙ (append_assoc old (piece_text feature p) (token_text later feature) ∙ ap (λ (ps : List TokenPiece). old ++ flat_map (piece_text feature) ps) (sym f))
