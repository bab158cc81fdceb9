use Rattle.std.proofs.Common.{map, ◌∙◌}
use Rattle.prop_values.specs.ViewParts.{evaluated_of}
use Rattle.expr_nodes.proofs.FilledLaws.{filled_count}
use Rattle.expr_nodes.proofs.given.GivenNodeNodeHandle.count.Goals as goal

pub returns : goal.returns
returns g c = c.count.ensures ∙ filled_count (map evaluated_of c.args.self.now.given.now) (g.N.NodeHandle.node c.args.self.now.node)
