use Rattle.std.proofs.Common.{rules}
use Rattle.expr_syntax.proofs.NameIndexLaws.{last_within}
use Rattle.expr_syntax.proofs.bound_names.Names.last_place.Goals as goal

pub returns-then-len-le-FIRST-clause-within : goal.returns-then-len-le-FIRST-clause-within
returns-then-len-le-FIRST-clause-within c = last_within c.args.self.now c.args.name.now c.walked_place.result (search rules)

pub returns-else-len-le-FIRST-clause-within : goal.returns-else-len-le-FIRST-clause-within
returns-else-len-le-FIRST-clause-within c = last_within c.args.self.now c.args.name.now c.number_of_text.result (search rules)
