-- What resolving promises.
use Rattle.std.specs.Prelude.{◌≡◌, ◌+◌, ◌≤◌, List, [], length, Bool}
use Rattle.prop_values.specs.declared.kinds.Want.{Want}
use Rattle.expr_syntax.specs.Term.{Term}
use Rattle.expr_syntax.specs.TermSize.{nodes}
use Rattle.eval_face.specs.Meaning.{mean}
use Rattle.eval_face.specs.World.{World}
use Rattle.expr_nodes.specs.Node.{Node, size, total_size}
use Rattle.expr_nodes.specs.Outcome.{outcome, promises}
use Rattle.expr_nodes.specs.Limits.{AsksBelow, AskEarlier}
use Rattle.expr_nodes.specs.Resolving.{resolve}
use Rattle.expr_nodes.specs.Marks.{MarksHold}

-- A node and its bindings represent an expression under a want: they give what the expression means in every world,
-- they can be evaluated from the first binding to the last, and they have no more nodes. Own.
pub record Represents (t : Term) (want : Want) (root : Node) (bindings : List Node) : Type 0 where
  pub meaning : (world : World) → mean t want [] world ≡ outcome root (promises bindings world) world
  pub below : AsksBelow (length bindings) root
  pub earlier : AskEarlier bindings
  pub sized : size root + total_size bindings ≤ nodes t

abbrev pub ResolvedExpressionsMeanTheSame : Type 0
ResolvedExpressionsMeanTheSame =
    (t : Term) (want : Want) → Represents t want (resolve t want [] [] []).0 (resolve t want [] [] []).1

-- The same where the tests of marked nodes are left out, if these change nothing in any world.
abbrev pub MarkedExpressionsMeanTheSame : Type 0
MarkedExpressionsMeanTheSame =
    (t : Term) (want : Want) (marks : List Bool) → ((world : World) → MarksHold t want marks [] world) →
    Represents t want (resolve t want marks [] []).0 (resolve t want marks [] []).1
