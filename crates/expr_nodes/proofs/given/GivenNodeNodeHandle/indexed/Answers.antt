use Rattle.std.proofs.Common.{map, ap}
use Rattle.std.proofs.lemmas.Option.{IfSome_then}
use Rattle.prop_values.specs.ViewParts.{evaluated_of}
use Rattle.expr_nodes.specs.Filled.{filled}
use Rattle.expr_nodes.proofs.given.GivenNodeNodeHandle.indexed.Goals as goal

pub returns : goal.returns
returns g c = IfSome_then c.indexed.result c.indexed.ensures (λ items e. ap (filled (map evaluated_of c.args.self.now.given.now)) e)
