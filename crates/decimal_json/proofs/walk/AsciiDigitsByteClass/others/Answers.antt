use Rattle.std.proofs.Common.{ℕ, ◌+◌, ◌-◌, ◌%◌, cond, leb, not, refl, arith}
use Rattle.std.specs.Char.{is_ascii_digit}
use Rattle.std.proofs.lemmas.Simd.{zip2_splat}
use Rattle.json_tokens.proofs.Lanes.{splat_before, mask_of}
use Rattle.decimal_json.proofs.walk.AsciiDigitsByteClass.others.Goals as goal

abbrev at_most : ℕ → ℕ → ℕ
at_most a b = cond (leb a b) 255 0

pub returns : goal.returns
returns c =
    let v = c.args.lanes in
    let long = c.fits-lanes.0 in
    mask_of _ (λ b. not (is_ascii_digit b)) refl v _ (omega arith) c.fits-lanes.1
    (splat_before at_most _ 10 16 v long (zip2_splat (λ a b. (a + (256 - b)) % 256) v 16 48 long))
