-- What the codes that contracts see say of the judgement of an expression.
use base.Stored.{Coded, coded×}
use Rattle.prop_values.specs.contracts.kinds.Want as want
use Rattle.expr_syntax.specs.TermCode.{term_code}
use Rattle.expr_types.specs.Judged.{Judged}

abbrev pub judged_code : Coded Judged
judged_code = coded× term_code want.the_row.coded
