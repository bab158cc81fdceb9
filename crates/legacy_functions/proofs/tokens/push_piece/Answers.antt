use Rattle.std.proofs.Common.{◌≡◌, ◌<◌, ◌+◌, ◌-◌, ◌∙◌, ◌∷◌, ap, sym, subst, arith, take, drop, IsUtf8}
use Rattle.std.proofs.lemmas.List.{take_rest}
use Rattle.std.proofs.lemmas.Str.{IsCharBoundary-after_ascii, IsUtf8-take}
use Rattle.std.specs.Str.{IsCharBoundary}
use Rattle.decimal_json.specs.View.{tree_of}
use Rattle.shared_text.specs.Ranges.{IsRest}
use Rattle.legacy_functions.specs.TokenSize.{token_size, plain_size}
use Rattle.legacy_functions.specs.Tokens.{pieces}
use Rattle.legacy_functions.specs.declared.tokens.TokenPiece.TheVariants.{Plain, Token}
use Rattle.legacy_functions.proofs.TokenLaws.{BeginsToken, begins, BeginsPlain, begins_plain, plain_positive, left_after, name_is_text, piece_added}
use Rattle.legacy_functions.proofs.tokens.push_piece.Goals as goal

pub of_rest-requires-clause-left : goal.of_rest-requires-clause-left
of_rest-requires-clause-left c =
    let bytes = c.as_bytes-bytes.result.now in
    subst (λ bs. IsRest bs c.args.document.now) (sym (take_rest bytes 1 ∙ ap (drop 1) c.as_bytes-bytes.ensures.value)) (left_after c.args.rest.now c.args.document.now 1 c.requires.left)

pub of_rest-requires-clause-utf8 : goal.of_rest-requires-clause-utf8
of_rest-requires-clause-utf8 c =
    let text = c.args.rest.now in
    let bytes = c.as_bytes-bytes.result.now in
    let size = c.token_length-size.result in
    let token : BeginsToken text size = begins text size (c.token_length-size.ensures.size ∙ ap token_size c.as_bytes-bytes.ensures.value) c.if-size-gt0.true in
    subst (λ bs. IsUtf8 (take (size - 2) bs)) (sym (take_rest bytes 1 ∙ ap (drop 1) c.as_bytes-bytes.ensures.value)) (name_is_text text size c.utf8.rest token)

pub range_from-requires : goal.range_from-requires
range_from-requires c =
    let text = c.args.rest.now in
    let size = c.token_length-size.result in
    let token : BeginsToken text size = begins text size (c.token_length-size.ensures.size ∙ ap token_size c.as_bytes-bytes.ensures.value) c.if-size-gt0.true in
    let closed = token.closed in
    let next : size - 1 + 1 ≡ size = omega (arith, token.least) in
    λ some. subst (IsCharBoundary text) next (IsCharBoundary-after_ascii text (size - 1) c.utf8.rest (omega (arith, token.least, token.within)) (omega arith))

pub of_rest-requires-else-size-gt0-clause-utf8 : goal.of_rest-requires-else-size-gt0-clause-utf8
of_rest-requires-else-size-gt0-clause-utf8 c =
    let text = c.args.rest.now in
    let size = c.plain_length-size.result in
    let none : token_size text ≡ 0 = sym (c.token_length-size.ensures.size ∙ ap token_size c.as_bytes-bytes.ensures.value) ∙ omega arith in
    let is : size ≡ plain_size text = c.plain_length-size.ensures.count ∙ ap plain_size c.as_bytes-bytes.ensures.value in
    let some : 0 < plain_size text = plain_positive text none c.requires.some in
    let plain : BeginsPlain text size = begins_plain text size is (omega (arith, is, some)) in
    let ends : IsCharBoundary text size = (plain.within, λ h high. absurd (let opens = plain.opens h in omega (arith, opens, high))) in
    subst (λ bs. IsUtf8 (take size bs)) (sym c.as_bytes-bytes.ensures.value) (IsUtf8-take text size c.utf8.rest ends)

pub range_from-requires-else-size-gt0 : goal.range_from-requires-else-size-gt0
range_from-requires-else-size-gt0 c =
    let text = c.args.rest.now in
    let size = c.plain_length-size.result in
    let none : token_size text ≡ 0 = sym (c.token_length-size.ensures.size ∙ ap token_size c.as_bytes-bytes.ensures.value) ∙ omega arith in
    let is : size ≡ plain_size text = c.plain_length-size.ensures.count ∙ ap plain_size c.as_bytes-bytes.ensures.value in
    let some : 0 < plain_size text = plain_positive text none c.requires.some in
    let plain : BeginsPlain text size = begins_plain text size is (omega (arith, is, some)) in
    λ positive. (plain.within, λ h high. absurd (let opens = plain.opens h in omega (arith, opens, high)))

pub returns-in_ok-push-clause-pieces : goal.returns-in_ok-push-clause-pieces
returns-in_ok-push-clause-pieces c =
    let text = c.args.rest.now in
    let bytes = c.as_bytes-bytes.result.now in
    let size = c.token_length-size.result in
    let token : BeginsToken text size = begins text size (c.token_length-size.ensures.size ∙ ap token_size c.as_bytes-bytes.ensures.value) c.if-size-gt0.true in
    let name : c.in_ok-name.name ≡ take (size - 2) (drop 1 text) = c.in_ok-name.ensures ∙ ap (take (size - 2)) (take_rest bytes 1 ∙ ap (drop 1) c.as_bytes-bytes.ensures.value) in
    let later : pieces text ≡ Token c.in_ok-name.name ∷ pieces c.range_from.result.now = token.first ∙ (λ i. Token (sym name i) ∷ pieces (sym c.range_from.ensures.value i)) in
    piece_added c.args.items.now c.push.new.self (Token c.in_ok-name.name) (tree_of c.in_ok-piece_expression.field-0) text c.range_from.result.now c.in_ok-push.ensures.ok c.in_ok-piece_expression.ensures later

pub returns-in_ok-push-clause-left : goal.returns-in_ok-push-clause-left
returns-in_ok-push-clause-left c =
    subst (λ bs. IsRest bs c.args.document.now) (sym c.range_from.ensures.value) (left_after c.args.rest.now c.args.document.now c.token_length-size.result c.requires.left)

pub returns-in_ok-push-2-clause-pieces : goal.returns-in_ok-push-2-clause-pieces
returns-in_ok-push-2-clause-pieces c =
    let text = c.args.rest.now in
    let size = c.plain_length-size.result in
    let none : token_size text ≡ 0 = sym (c.token_length-size.ensures.size ∙ ap token_size c.as_bytes-bytes.ensures.value) ∙ omega arith in
    let is : size ≡ plain_size text = c.plain_length-size.ensures.count ∙ ap plain_size c.as_bytes-bytes.ensures.value in
    let some : 0 < plain_size text = plain_positive text none c.requires.some in
    let plain : BeginsPlain text size = begins_plain text size is (omega (arith, is, some)) in
    let part : c.in_ok-part.part ≡ take size text = c.in_ok-part.ensures ∙ ap (take size) c.as_bytes-bytes.ensures.value in
    let later : pieces text ≡ Plain c.in_ok-part.part ∷ pieces c.range_from-else-size-gt0.result.now = plain.first ∙ (λ i. Plain (sym part i) ∷ pieces (sym c.range_from-else-size-gt0.ensures.value i)) in
    piece_added c.args.items.now c.push-else-size-gt0.new.self (Plain c.in_ok-part.part) (tree_of c.in_ok-piece_expression-2.field-0) text c.range_from-else-size-gt0.result.now c.in_ok-push-2.ensures.ok c.in_ok-piece_expression-2.ensures later

pub returns-in_ok-push-2-clause-left : goal.returns-in_ok-push-2-clause-left
returns-in_ok-push-2-clause-left c =
    subst (λ bs. IsRest bs c.args.document.now) (sym c.range_from-else-size-gt0.ensures.value) (left_after c.args.rest.now c.args.document.now c.plain_length-size.result c.requires.left)
