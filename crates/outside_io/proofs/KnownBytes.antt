-- Bytes that a writer is known to hold or a reader to have left, over several calls.
use Rattle.std.proofs.Common.{◌≡◌, ℕ, ◌+◌, ◌-◌, ◌<◌, List, [], ◌++◌, length, take, drop, sym, ap, subst, ◌∙◌, append_assoc, append-nil, arith, length-append, length-drop}
use Rattle.std.proofs.Math.Seq.{take-add}
use Rattle.std.proofs.lemmas.List.{take_all}
use Rattle.std.specs.Prelude.{Option, Some, None}
use Rattle.std.specs.Io.{StartsWith, appended_bytes}
use Rattle.std.specs.Io.KnownBytes.{Appends, Consumes, IsAtEnd}
use Rattle.std.proofs.KnownBytes.{Consumes-nil, Consumes-trans, starts_with_rest}
use Rattle.outside_io.specs.Reading.{IsContent, IsLongerIfTold}

appends_both : (a b c : Option (List ℕ)) (x y : List ℕ) → Appends a b x → Appends b c y → Appends a c (x ++ y)
appends_both None b c x y first second = tt
appends_both (Some xs) None c x y first second = absurd first
appends_both (Some xs) (Some ys) None x y first second = absurd second
appends_both (Some xs) (Some ys) (Some zs) x y first second = second ∙ ap (λ held. held ++ y) first ∙ append_assoc xs x y

-- the bytes of a piece before one place, and then some of those from there to its end
pub appends_more : (a b c : Option (List ℕ)) (at more : ℕ) (piece : List ℕ)
    → Appends a b (take at piece) → Appends b c (take more (take (length piece - at) (drop at piece))) → Appends a c (take (at + more) piece)
appends_more a b c at more piece first second =
    let P : List ℕ → Type 0 = λ text. Appends a c text in
    let to_end : take (length piece - at) (drop at piece) ≡ drop at piece = take_all (length piece - at) (drop at piece) (omega (arith, length-drop at piece)) in
    subst P (sym (take-add at more piece ∙ ap (λ rest. take at piece ++ take more rest) (sym to_end)))
    (appends_both a b c (take at piece) (take more (take (length piece - at) (drop at piece))) first second)

-- a reader that gave nothing yet
pub consumes_none : (a : Option (List ℕ)) (got : List ℕ) → got ≡ [] → Consumes a a got
consumes_none a got none = subst (Consumes a a) (sym none) (Consumes-nil a)

-- what a reader gave before, and what it gave in one turn more
pub consumes_turn : (a b c : Option (List ℕ)) (old new : List ℕ) → StartsWith new old → Consumes a b old → Consumes b c (appended_bytes old new) → Consumes a c new
consumes_turn a b c old new starts before turn = subst (Consumes a c) (sym (starts_with_rest new old starts)) (Consumes-trans a b c old (drop (length old) new) before turn)

-- a reader that is at its end gave all that it had
pub content_at_end : (a b : Option (List ℕ)) (got : List ℕ) → Consumes a b got → IsAtEnd b → IsContent a got
content_at_end None b got consumed over = tt
content_at_end (Some xs) None got consumed over = absurd consumed
content_at_end (Some xs) (Some ys) got consumed over = sym (consumed ∙ ap (λ rest. got ++ rest) over ∙ append-nil got)

-- a reader had at least what it gave
pub longer_than : (a b : Option (List ℕ)) (got : List ℕ) (n : ℕ) → Consumes a b got → n < length got → IsLongerIfTold a n
longer_than None b got n consumed more = tt
longer_than (Some xs) None got n consumed more = absurd consumed
longer_than (Some xs) (Some ys) got n consumed more = omega (arith, more, ap length consumed, length-append got ys)
