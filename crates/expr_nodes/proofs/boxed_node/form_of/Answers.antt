use Rattle.std.proofs.Common.{◌≡◌, subst, sym}
use Rattle.expr_nodes.specs.Node.{inner, children, children_of}
use Rattle.expr_nodes.specs.Boxed.{boxed_node}
use Rattle.expr_nodes.specs.declared.boxed_node.BoxedNode.{BoxedNode}
use Rattle.expr_nodes.proofs.BoxedLaws.{boxed_form}
use Rattle.expr_nodes.proofs.boxed_node.form_of.Goals as goal

pub returns-in-Inner : goal.returns-in-Inner
returns-in-Inner c =
    let P : BoxedNode → Type 0 = λ b. boxed_node b ≡ inner c.in-Inner.op c.in-Inner.want (children_of (children (boxed_node b))) in
    subst P (sym c.in-Inner.is) (boxed_form c.in-Inner.op c.in-Inner.want c.in-Inner.field-2)
