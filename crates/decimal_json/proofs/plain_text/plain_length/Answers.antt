use Rattle.std.proofs.Common.{◌≡◌, ℕ, List, length, take, ◌-◌, sym, ap, ◌∙◌, subst, IsUtf8}
use Rattle.std.specs.Prelude.{Some}
use Rattle.decimal_json.specs.PlainTexts.{IsPlainText}
use Rattle.decimal_json.proofs.Pieces.{ArePlain}
use Rattle.decimal_json.proofs.PlainRuns.{passed_text, passed_more}
use Rattle.decimal_json.proofs.plain_text.plain_length.Goals as goal

pub returns-then-byte-eq34 : goal.returns-then-byte-eq34
returns-then-byte-eq34 c =
    subst (λ w. IsPlainText w (length c.rest-all.result.now - length c.rest.result.now)) c.rest-all.ensures (passed_text c.rest-all.result.now c.loop-byte.ahead _ c.loop-byte.invariant (sym c.in-Some.ensures ∙ ap Some c.if-byte-eq34.true) (ap (λ w. length c.rest-all.result.now - length w) c.rest.ensures))

pub loop-byte-preserved : goal.loop-byte-preserved
loop-byte-preserved c =
    let left = c.loop-byte.ahead in
    let n = c.plain_step-count.result in
    let P : List ℕ → Type 0 = λ w. ArePlain (take n w) in
    let Q : List ℕ → Type 0 = λ w. IsUtf8 (take n w) in
    let same = c.rest-in-loop-byte.ensures in
    let front = c.take_front.result.now in
    let is_front : front ≡ take n left = c.take_front.ensures.front in
    passed_more c.rest-all.result.now left front c.take_front.new.self c.loop-byte.invariant c.take_front.ensures.split (subst ArePlain (sym is_front) (subst P same c.plain_step-count.ensures.plain)) (subst IsUtf8 (sym is_front) (subst Q same c.plain_step-count.ensures.utf8))
