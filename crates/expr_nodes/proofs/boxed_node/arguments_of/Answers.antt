use Rattle.std.proofs.Common.{◌∙◌, ap, sym, map}
use Rattle.expr_nodes.specs.Node.{children}
use Rattle.expr_nodes.specs.Boxed.{boxed_node}
use Rattle.expr_nodes.proofs.BoxedLaws.{boxed_children}
use Rattle.expr_nodes.proofs.boxed_node.arguments_of.Goals as goal

pub returns-in-Inner : goal.returns-in-Inner
returns-in-Inner c =
    ap (λ b. children (boxed_node b)) c.in-Inner.is ∙ (boxed_children c.in-Inner.field-1 c.in-Inner.field-0 c.in-Inner.arguments ∙ ap (map boxed_node) (sym c.as_slice.ensures.value))
