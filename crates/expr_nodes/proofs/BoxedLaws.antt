-- Boxed nodes and their arguments.
use Rattle.std.proofs.Common.{◌≡◌, ◌∙◌, ℕ, ◌<◌, List, [], ◌∷◌, map, length, Some, zero, suc, ap, sym, arith, get_or}
use Rattle.std.specs.List.{slice_get}
use Rattle.std.specs.declared.vec.Vec.{Vec}
use Rattle.std.specs.declared.alloc.Global.{Global}
use Rattle.prop_values.specs.declared.kinds.Want.{Want}
use Rattle.expr_syntax.specs.declared.expression.Operator.{Operator}
use Rattle.expr_nodes.specs.Node.{inner, children_of, children}
use Rattle.expr_nodes.specs.Boxed.{boxed_node, boxed_inner}
use Rattle.expr_nodes.specs.declared.boxed_node.BoxedNode.{BoxedNode}
use Rattle.expr_nodes.specs.declared.boxed_node.BoxedNode.TheVariants.{Inner}
use Rattle.expr_nodes.proofs.NodeLaws.{listed_again}

pub boxed_children : (op : Operator) (want : Want) (ns : Vec BoxedNode Global) → children (boxed_node (Inner want op ns)) ≡ map boxed_node ns.items
boxed_children op want ns = ap children (boxed_inner op want ns) ∙ listed_again (map boxed_node ns.items)

pub boxed_form : (op : Operator) (want : Want) (ns : Vec BoxedNode Global) → boxed_node (Inner want op ns) ≡ inner op want (children_of (children (boxed_node (Inner want op ns))))
boxed_form op want ns = boxed_inner op want ns ∙ ap (λ xs. inner op want (children_of xs)) (sym (boxed_children op want ns))

pub boxed_at : (ns : List BoxedNode) (k : ℕ) (n : BoxedNode) → n ≡ get_or ns k n → k < length ns → slice_get (map boxed_node ns) k ≡ Some (boxed_node n)
boxed_at [] k n e h = absurd (omega arith)
boxed_at (x ∷ ns) zero n e h = ap (λ y. Some (boxed_node y)) (sym e)
boxed_at (x ∷ ns) (suc k) n e h = boxed_at ns k n e (omega arith)
