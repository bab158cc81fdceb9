use Rattle.std.proofs.Common.{◌≡◌, ◌≢◌, ℕ, List, ℤ, refl, sym}
use Rattle.std.specs.Prelude.{Result, Ok, Err, IfErr}
use Rattle.fixed_num.specs.Decimal.{read_text}
use Rattle.fixed_num.specs.declared.decimal.NumFault.{NumFault}
use Rattle.fixed_num.specs.declared.decimal.NumFault.TheVariants.{NotNumber, Range}
use Rattle.prop_values.proofs.copying.number_from.Goals as goal

-- a text that is no fault of the other kind
range_alone : (text : List ℕ) (r : Result ℤ NumFault) → read_text text ≢ Err NotNumber → r ≡ read_text text → IfErr r (λ fault. fault ≡ Range)
range_alone text (Ok z) h e = tt
range_alone text (Err Range) h e = refl
range_alone text (Err NotNumber) h e = absurd (h (sym e))

pub returns-clause-range : goal.returns-clause-range
returns-clause-range c =
    let read : c.read_decimal.result ≡ read_text c.args.number.now = cc in
    range_alone c.args.number.now c.read_decimal.result (c.json_numbers_are_read.ensures.read c.args.number.now c.as_str.ensures.number) read
