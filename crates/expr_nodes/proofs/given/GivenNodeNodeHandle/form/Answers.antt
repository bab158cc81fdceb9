use Rattle.std.proofs.Common.{map, subst}
use Rattle.prop_values.specs.ViewParts.{evaluated_of}
use Rattle.expr_nodes.specs.NodeForms.{IsForm}
use Rattle.expr_nodes.specs.declared.access.NodeForm.{NodeForm}
use Rattle.expr_nodes.proofs.FilledLaws.{filled_asked, filled_form}
use Rattle.expr_nodes.proofs.given.GivenNodeNodeHandle.form.Goals as goal

pub returns-in-Asked : goal.returns-in-Asked
returns-in-Asked g c =
    let n = g.N.NodeHandle.node c.args.self.now.node in
    let F : NodeForm → Type 0 = λ f. IsForm f n in
    filled_asked (map evaluated_of c.args.self.now.given.now) n c.in-Asked.slot c.in-Asked.want c.form_at.result (subst F c.in-Asked.is c.form.ensures) c.form_at.ensures

pub returns-in_default : goal.returns-in_default
returns-in_default g c =
    filled_form (map evaluated_of c.args.self.now.given.now) (g.N.NodeHandle.node c.args.self.now.node) c.form.result c.in_default.not-Asked c.form.ensures
