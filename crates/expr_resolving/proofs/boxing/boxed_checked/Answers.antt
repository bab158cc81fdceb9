use Rattle.std.proofs.Common.{◌∙◌, List, [], Bool, sym, subst, ap}
use Rattle.expr_syntax.specs.TermView.{term_of}
use Rattle.expr_nodes.specs.Marks.{MarksHold}
use Rattle.fit_laws.specs.MarkedNodes.{marks_of}
use Rattle.expr_resolving.proofs.boxing.boxed_checked.Goals as goal

pub boxed_marked-requires : goal.boxed_marked-requires
boxed_marked-requires c = λ world.
    subst (λ (ms : List Bool). MarksHold (term_of c.args.expression) c.args.want ms [] world)
    (sym (c.as_slice.ensures.value ∙ (c.in_ok-marks.ensures ∙ ap marks_of c.requires.places)))
    (c.checked_nodes_fit.ensures (term_of c.args.expression) c.args.want world c.requires.read)
