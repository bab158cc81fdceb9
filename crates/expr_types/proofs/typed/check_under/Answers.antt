use Rattle.std.specs.Prelude.{Ok, Err}
use Rattle.std.proofs.Common.{◌≡◌, ap, sym, ◌∙◌, []}
use Rattle.expr_syntax.specs.TermView.{term_of}
use Rattle.expr_types.specs.Typing.{typed}
use Rattle.expr_types.specs.TypedView.{root_of, added}
use Rattle.expr_types.proofs.FoundLaws.{ok_of}
use Rattle.expr_types.proofs.JudgedLaws.{kind_found, may_found, places_found, judged_found, judged_fault}
use Rattle.expr_types.proofs.typed.check_under.Goals as goal

pub invariant_of-result : goal.invariant_of-result
invariant_of-result c =
    let is : Ok c.in-Ok.node ≡ root_of (typed (term_of c.args.expression.now) c.args.want.now [] []) = sym c.in-Ok.is ∙ c.in_ok-node.ensures.node in
    let places : Ok c.check_expression.new.self.places.items ≡ added [] (typed (term_of c.args.expression.now) c.args.want.now [] []) = ok_of c.in_ok-node.field-0 c.in-Ok.node c.in-Ok.is c.in_ok-node.ensures.places ∙ ap (λ ps. added ps (typed (term_of c.args.expression.now) c.args.want.now [] [])) c.in_ok-with_capacity.ensures.items in
    (kind_found (typed (term_of c.args.expression.now) c.args.want.now [] []) c.in-Ok.node is, (may_found (typed (term_of c.args.expression.now) c.args.want.now [] []) c.in-Ok.node is, places_found (typed (term_of c.args.expression.now) c.args.want.now [] []) c.check_expression.new.self.places.items places))

pub returns-in-Ok : goal.returns-in-Ok
returns-in-Ok c = judged_found (typed (term_of c.args.expression.now) c.args.want.now [] []) c.in-Ok.node (term_of c.args.expression.now, c.args.want.now) (sym c.in-Ok.is ∙ c.in_ok-node.ensures.node)

pub returns : goal.returns
returns c = judged_fault (typed (term_of c.args.expression.now) c.args.want.now [] []) c.in-Err.fault (term_of c.args.expression.now, c.args.want.now) (sym c.in-Err.is ∙ c.in_ok-node.ensures.node)
