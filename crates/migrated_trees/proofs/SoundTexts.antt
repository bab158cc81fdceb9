-- The expression of a token text is sound: the pieces of a UTF-8 text that is cut at its braces are UTF-8.
use Rattle.std.proofs.Common.{◌≡◌, ◌∙◌, ℕ, zero, suc, ◌-◌, ◌<◌, ◌≤◌, List, [], ◌∷◌, length, drop, get_or}
use Rattle.std.proofs.Common.{refl, ap, sym, subst, arith, ◌⊎◌, inl, inr, true, false}
use Rattle.std.proofs.lemmas.List.{length-drop}
use Rattle.std.proofs.lemmas.Str.{IsUtf8-take, IsUtf8-drop, IsCharBoundary-end, IsCharBoundary-before_ascii}
use Rattle.std.proofs.lemmas.Str.{IsCharBoundary-after_ascii}
use Rattle.std.specs.Char.{is_ascii}
use Rattle.std.specs.List.{list_all}
use Rattle.std.specs.Prelude.{map, codes, IsUtf8}
use Rattle.std.specs.Str.{IsCharBoundary}
use Rattle.decimal_json.specs.Sound.{IsSound, AreSound}
use Rattle.decimal_json.specs.Tree.{Tree, text, trees_of}
use Rattle.legacy_functions.specs.Tokens.{call, token_expression}
use Rattle.legacy_functions.specs.TokenSize.{token_size, plain_size}
use Rattle.legacy_functions.proofs.PieceViews.{Part, part_of, parts, part_expression, expression_by_parts}
use Rattle.legacy_functions.proofs.TokenLaws.{BeginsToken, begins, BeginsPlain, begins_plain, plain_positive}
use Rattle.migrated_trees.proofs.AsciiTexts.{ascii_is_utf8}

-- a call whose arguments are sound
pub called : (name : List ℕ) (k : ℕ) (ts : List Tree) → list_all is_ascii name ≡ true → k < 64
    → AreSound (suc k) (trees_of ts) → IsSound k (call name ts)
called name k ts letters deep h = (deep, (ascii_is_utf8 name letters, h))

-- ---- pieces

abbrev AreParts : List Part → Type 0
AreParts [] = Unit {0}
AreParts (p ∷ ps) = IsUtf8 p.1 × AreParts ps

abbrev AreOfShorter : ℕ → Type 0
AreOfShorter n = (bs : List ℕ) → length bs ≤ n → IsUtf8 bs → AreParts (parts bs)

token_cut : (bs : List ℕ) (size n : ℕ) → length bs ≤ suc n → IsUtf8 bs → BeginsToken bs size → AreOfShorter n
    → AreParts (parts bs)
token_cut bs size n short letters is later =
    let least = is.least in
    let within = is.within in
    let opened : get_or bs 0 0 < 128 = omega (arith, is.opens) in
    let closed : get_or bs (size - 1) 0 < 128 = omega (arith, is.closed) in
    let inside = IsUtf8-drop bs 1 letters (IsCharBoundary-after_ascii bs 0 letters
    (omega (arith, least, within)) opened) in
    let ended : IsCharBoundary bs size =
    subst (IsCharBoundary bs) (omega (arith, least))
    (IsCharBoundary-after_ascii bs (size - 1) letters (omega (arith, least, within)) closed) in
    let rest = IsUtf8-drop bs size letters ended in
    let name = IsUtf8-take (drop 1 bs) (size - 2) inside (name_ends bs size least within is.closed) in
    subst AreParts (sym (ap (map part_of) is.first))
    (name, later (drop size bs) (omega (arith, length-drop size bs, least, short)) rest)
  where
    name_ends : (bs : List ℕ) (size : ℕ) → 3 ≤ size → size ≤ length bs → get_or bs (size - 1) 0 ≡ 125
        → IsCharBoundary (drop 1 bs) (size - 2)
    name_ends [] size least within h = absurd (omega (arith, least, within))
    name_ends (b ∷ bs) size least within h =
        let at : size - 1 ≡ suc (size - 2) = omega (arith, least) in
        let here : get_or bs (size - 2) 0 ≡ 125 = ap (λ n. get_or (b ∷ bs) n 0) (sym at) ∙ h in
        IsCharBoundary-before_ascii bs (size - 2) (omega (arith, least, within)) (omega (arith, here))

end_or_before : (m n : ℕ) → m ≤ n → (m ≡ n) ⊎ (m < n)
end_or_before zero zero h = inl refl
end_or_before zero (suc n) h = inr (omega arith)
end_or_before (suc m) zero h = absurd (omega (arith, h))
end_or_before (suc m) (suc n) h = elim (end_or_before m n (omega (arith, h))) [
  | inl same ↦ inl (ap suc same)
  | inr less ↦ inr (omega (arith, less))
]

plain_cut : (bs : List ℕ) (size n : ℕ) → length bs ≤ suc n → IsUtf8 bs → BeginsPlain bs size → AreOfShorter n
    → AreParts (parts bs)
plain_cut bs size n short letters is later =
    let some = is.some in
    let within = is.within in
    let rest = IsUtf8-drop bs size letters boundary in
    let front = IsUtf8-take bs size letters boundary in
    subst AreParts (sym (ap (map part_of) is.first))
    (front, later (drop size bs) (omega (arith, length-drop size bs, some, short)) rest)
  where
    ends : (size ≡ length bs) ⊎ (size < length bs) → IsCharBoundary bs size
    ends (inl whole) = subst (IsCharBoundary bs) (sym whole) (IsCharBoundary-end bs)
    ends (inr before) = IsCharBoundary-before_ascii bs size before (omega (arith, is.opens before))

    boundary : IsCharBoundary bs size
    boundary = ends (end_or_before size (length bs) is.within)

pieces_are : (n : ℕ) → AreOfShorter n
pieces_are n [] short letters = tt
pieces_are zero (b ∷ bs) short letters = absurd (omega (arith, short))
pieces_are (suc n) (b ∷ bs) short letters = cut (pieces_are n) (token_size (b ∷ bs)) refl
  where
    cut : AreOfShorter n → (size : ℕ) → size ≡ token_size (b ∷ bs) → AreParts (parts (b ∷ bs))
    cut later zero is =
        let some = plain_positive (b ∷ bs) (sym is) (omega arith) in
        plain_cut (b ∷ bs) (plain_size (b ∷ bs)) n short letters
        (begins_plain (b ∷ bs) (plain_size (b ∷ bs)) refl some) later
    cut later (suc size) is =
        token_cut (b ∷ bs) (suc size) n short letters (begins (b ∷ bs) (suc size) is (omega arith)) later

-- ---- the expression

part_elements : (k : ℕ) (ps : List Part) → k ≤ 60 → AreParts ps → AreSound k (trees_of (map part_expression ps))
part_elements k [] low h = tt
part_elements k ((false, s) ∷ ps) low h = (h.0, part_elements k ps low h.1)
part_elements k ((true, name) ∷ ps) low h =
    (called (codes "get") k (text name ∷ []) refl (omega (arith, low)) (h.0, tt), part_elements k ps low h.1)

pub tokens_sound : (s : List ℕ) (k : ℕ) → k ≤ 50 → IsUtf8 s → IsSound k (token_expression s)
tokens_sound s k low letters =
    let ps = pieces_are (length s) s (omega arith) letters in
    subst (IsSound k) (sym (expression_by_parts s))
    (called (codes "concat") k (map part_expression (parts s)) refl (omega (arith, low))
    (part_elements (suc k) (parts s) (omega (arith, low)) ps))
