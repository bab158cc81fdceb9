-- What a boxed node is to a definition.
use Rattle.std.specs.Prelude.{◌≡◌, List, map, Ok, Err}
use Rattle.std.proofs.Common.{ap, sym, ◌∙◌}
use Rattle.std.specs.declared.vec.Vec.{Vec}
use Rattle.std.specs.declared.alloc.Global.{Global}
use Rattle.prop_values.specs.declared.kinds.Want.{Want}
use Rattle.expr_syntax.specs.declared.expression.Operator.{Operator}
use Rattle.expr_nodes.specs.Node.{Node, constant, asked, property, inner, children_of}
use Rattle.expr_nodes.specs.declared.boxed_node.BoxedNode.{BoxedNode, fold-BoxedNode}
use Rattle.expr_nodes.specs.declared.boxed_node.BoxedNode.TheOpen.{BoxedNode-F}
use Rattle.expr_nodes.specs.declared.boxed_node.BoxedNode.TheVariants.{Inner, rolls-Inner}
use Rattle.expr_nodes.specs.declared.boxed_node.BoxedNode.TheFolds.{fold-roll-BoxedNode}

abbrev pub boxed_step : BoxedNode-F Node → Node
boxed_step (BoxedNode-F.Constant literal) = constant (Ok literal)
boxed_step (BoxedNode-F.Faulty fault) = constant (Err fault)
boxed_step (BoxedNode-F.Asked slot want) = asked slot want
boxed_step (BoxedNode-F.Property key want) = property key want
boxed_step (BoxedNode-F.Inner want op nodes) = inner op want (children_of nodes.items)

abbrev pub boxed_node : BoxedNode → Node
boxed_node = fold-BoxedNode Node boxed_step

abbrev pub boxed_nodes : List BoxedNode → List Node
boxed_nodes = map boxed_node

pub boxed_inner : (op : Operator) (want : Want) (nodes : Vec BoxedNode Global) →
    boxed_node (Inner want op nodes) ≡ inner op want (children_of (boxed_nodes nodes.items))
boxed_inner op want nodes =
    ap boxed_node (sym (rolls-Inner want op nodes)) ∙ fold-roll-BoxedNode Node boxed_step
    (BoxedNode-F.Inner want op nodes)
