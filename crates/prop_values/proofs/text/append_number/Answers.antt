use Rattle.std.proofs.Common.{sym, subst, arith}
use Rattle.std.specs.Str.{IsAscii}
use Rattle.prop_values.proofs.Ascii.{number_ascii}
use Rattle.prop_values.proofs.text.append_number.Goals as goal

pub ascii_text-requires : goal.ascii_text-requires
ascii_text-requires c = subst IsAscii (sym c.write-length.ensures.text) (number_ascii c.args.number (omega arith))
