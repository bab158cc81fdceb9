use Rattle.std.proofs.Common.{rules}
use Rattle.expr_syntax.proofs.names.Name.row.Goals as goal

pub returns : goal.returns
returns c = search rules
