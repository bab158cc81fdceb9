-- White space and strings, as they are gone through.
use Rattle.std.proofs.Common.{◌≡◌, ◌∙◌, refl, ap, ℕ, List, [], ◌∷◌, ◌++◌, Bool, true, false, arith, append_assoc}
use Rattle.std.specs.Prelude.{Some, IsTrue, ◌==◌}
use Rattle.std.specs.List.{list_all}
use Rattle.std.proofs.lemmas.Bool.{and_parts, cond-true, cond-false}
use Rattle.json_tokens.specs.Rules.{Rules}
use Rattle.json_tokens.specs.Runs.{Stops}
use Rattle.json_tokens.specs.Sequence.{Spaces, is_space}
use Rattle.json_tokens.specs.TextToken.{IsEscape, by_letter, by_digits, Piece, plain, escaped, SpellsPieces, SpellsText, hex_value, is_unescaped}
use Rattle.text_places.specs.Skipping.{after_closing, after_spaces}

-- ---- white space

space_step : (c : ℕ) (b : List ℕ) → is_space c ≡ true → after_spaces (c ∷ b) ≡ after_spaces b
space_step c b e = cond-true (is_space c) (after_spaces b) (c ∷ b) e

over_spaces : (spaces q : List ℕ) → IsTrue (list_all is_space spaces) → after_spaces (spaces ++ q) ≡ after_spaces q
over_spaces [] q h = refl
over_spaces (c ∷ spaces) q h =
    let parts = and_parts (is_space c) (list_all is_space spaces) h in
    space_step c (spaces ++ q) parts.0 ∙ over_spaces spaces q parts.1

pub after_all_spaces : (b q : List ℕ) → Spaces b q → after_spaces b ≡ after_spaces q
after_all_spaces b q (spaces, e, h) = ap after_spaces e ∙ over_spaces spaces q h

pub none_before : (b : List ℕ) → Stops is_space b → after_spaces b ≡ b
none_before [] h = refl
none_before (c ∷ b) h = cond-false (is_space c) (after_spaces b) (c ∷ b) h

pub spaces_end : (b q : List ℕ) → Spaces b q → Stops is_space q → after_spaces b ≡ q
spaces_end b q h tight = after_all_spaces b q h ∙ none_before q tight

-- ---- strings

plain_step : (c : ℕ) (b : List ℕ) → (c == 34) ≡ false → (c == 92) ≡ false → after_closing false (c ∷ b) ≡ after_closing false b
plain_step c b ends escapes =
    cond-false (c == 34) b (after_closing (c == 92) b) ends ∙ ap (λ (e : Bool). after_closing e b) escapes

is_plain : (c : ℕ) → IsTrue (is_unescaped c) → ((c == 34) ≡ false) × ((c == 92) ≡ false)
is_plain c h = (grind arith, grind arith)

is_plain_digit : (c d : ℕ) → hex_value c ≡ Some d → ((c == 34) ≡ false) × ((c == 92) ≡ false)
is_plain_digit c d h = (grind arith, grind arith)

digit_step : (c d : ℕ) (b : List ℕ) → hex_value c ≡ Some d → after_closing false (c ∷ b) ≡ after_closing false b
digit_step c d b h = let plain = is_plain_digit c d h in plain_step c b plain.0 plain.1

over_escape : (unit : ℕ) (code q : List ℕ) → IsEscape unit code → after_closing false (code ++ q) ≡ after_closing false q
over_escape unit code q (by_letter c u e) = refl
over_escape unit code q (by_digits c3 c2 c1 c0 d3 d2 d1 d0 e3 e2 e1 e0) =
    digit_step c3 d3 (c2 ∷ c1 ∷ c0 ∷ q) e3 ∙ (digit_step c2 d2 (c1 ∷ c0 ∷ q) e2 ∙ (digit_step c1 d1 (c0 ∷ q) e1 ∙ digit_step c0 d0 q e0))

over_pieces : (pieces : List Piece) (inner q : List ℕ) → SpellsPieces pieces inner [] → after_closing false (inner ++ 34 ∷ q) ≡ q
over_pieces [] inner q h = ap (λ (b : List ℕ). after_closing false (b ++ 34 ∷ q)) h
over_pieces (plain c ∷ pieces) inner q (rest, e, is, h) =
    let free = is_plain c is in
    ap (λ (b : List ℕ). after_closing false (b ++ 34 ∷ q)) e
    ∙ (plain_step c (rest ++ 34 ∷ q) free.0 free.1 ∙ over_pieces pieces rest q h)
over_pieces (escaped unit ∷ pieces) inner q (code, rest, e, is, h) =
    ap (λ (b : List ℕ). after_closing false (b ++ 34 ∷ q)) e
    ∙ (ap (after_closing false) (append_assoc code rest (34 ∷ q))
    ∙ (over_escape unit code (rest ++ 34 ∷ q) is ∙ over_pieces pieces rest q h))

pub over_text : (r : Rules) (s b q : List ℕ) → SpellsText r s b q → after_closing false b ≡ q
over_text r s b q (inner, pieces, e, spelled, utf8, paired, is) = ap (after_closing false) e ∙ over_pieces pieces inner q spelled
