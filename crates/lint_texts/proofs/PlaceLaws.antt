-- Lines and the text at their places.
use Rattle.std.proofs.Common.{◌≡◌, ◌∙◌, ap, arith, ℕ, ◌+◌, ◌-◌, List, ◌++◌, take, length}
use Rattle.std.proofs.lemmas.List.{length-append}
use Rattle.std.proofs.Math.Seq.{take-append_seam}
use Rattle.text_places.specs.LineColumn.{after_bytes, first_place}
use Rattle.text_places.specs.TextPlace.{place_before}
use Rattle.text_places.specs.PlaceLaw.{PlacesSpellTheirValues}
use Rattle.text_places.specs.ValuePlace.{from_place}
use Rattle.lint_texts.specs.DiagnosticLine.{diagnostic_path}
use Rattle.lint_texts.specs.PlaceLaw.{IsRest, LinesSpellTheirValues}
use Rattle.lint_texts.proofs.Ends.{IsEnd, place_end}

front_taken : (text front rest : List ℕ) → text ≡ front ++ rest → take (length text - length rest) text ≡ front
front_taken text front rest same =
    let long : length text ≡ length front + length rest = ap length same ∙ length-append front rest in
    let left : length text - length rest ≡ length front = omega (arith, long) in
    ap (λ (n : ℕ). take n text) left ∙ (ap (take (length front)) same ∙ take-append_seam front rest)

rest_at : (text rest : List ℕ) → IsEnd rest text → IsRest text (place_before text (length rest)) rest
rest_at text rest (front, same) = (front, same, ap (after_bytes first_place) (front_taken text front rest same))

pub lines_spell : PlacesSpellTheirValues → LinesSpellTheirValues
lines_spell law text t v d spelled leads =
    let path = diagnostic_path d in
    let rest = from_place text t path in
    (rest, rest_at text rest (place_end text t path), law text t v path spelled leads)
