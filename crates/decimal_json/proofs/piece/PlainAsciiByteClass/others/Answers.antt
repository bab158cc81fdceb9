use Rattle.std.proofs.Common.{ℕ, cond, eqb, ltb, leb, bit_or, not, refl, arith}
use Rattle.std.proofs.lemmas.Simd.{zip2_splat, zip2_splat_left}
use Rattle.json_tokens.proofs.Lanes.{joined, mask_of}
use Rattle.decimal_json.specs.Chars.{is_plain_ascii}
use Rattle.decimal_json.proofs.piece.PlainAsciiByteClass.others.Goals as goal

abbrev equal : ℕ → ℕ → ℕ
equal a b = cond (eqb a b) 255 0

abbrev less : ℕ → ℕ → ℕ
less a b = cond (ltb a b) 255 0

abbrev at_most : ℕ → ℕ → ℕ
at_most a b = cond (leb a b) 255 0

pub returns : goal.returns
returns c =
    let v = c.args.lanes in
    let long = c.fits-lanes.0 in
    mask_of _ (λ b. not (is_plain_ascii b)) refl v _ (omega arith) c.fits-lanes.1
    (joined bit_or _ _ v (joined bit_or _ _ v (joined bit_or _ _ v (zip2_splat less v 16 32 long) (zip2_splat_left at_most 128 16 v long)) (zip2_splat equal v 16 34 long)) (zip2_splat equal v 16 92 long))
