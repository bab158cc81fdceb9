use Rattle.std.proofs.Common.{◌∙◌, ap}
use Rattle.expr_syntax.specs.TermView.{term_of}
use Rattle.expr_nodes.specs.Boxed.{boxed_node, boxed_nodes}
use Rattle.expr_nodes.specs.Evaluators.{sized_node}
use Rattle.expr_resolving.proofs.BoxingLaws.{evaluable, means_term}
use Rattle.expr_resolving.proofs.boxing.boxed_marked.Goals as goal

pub new-requires : goal.new-requires
new-requires c =
    evaluable (term_of c.args.expression) c.args.want c.args.marks.now (boxed_node c.in_ok-root.root)
    (boxed_nodes c.in_ok-root.bindings.items) c.in-Some.nodes (c.marked_expressions_mean_the_same.ensures (term_of c.args.expression) c.args.want c.args.marks.now c.requires) c.in_ok-root.ensures c.in-Some.ensures.some

pub returns : goal.returns
returns c =
    ap sized_node c.new.ensures
    ∙ means_term (term_of c.args.expression) c.args.want c.args.marks.now (boxed_node c.in_ok-root.root)
    (boxed_nodes c.in_ok-root.bindings.items) c.in-Some.nodes (c.marked_expressions_mean_the_same.ensures (term_of c.args.expression) c.args.want c.args.marks.now c.requires) c.in_ok-root.ensures c.in-Some.ensures.some
