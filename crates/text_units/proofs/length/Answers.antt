use Rattle.std.proofs.Common.{rules}
use Rattle.std.proofs.lemmas.Str.{chars_from_encodes}
use Rattle.text_units.proofs.length.Goals as goal

pub returns-clause-values : goal.returns-clause-values
returns-clause-values c = search (rules, chars_from_encodes)
