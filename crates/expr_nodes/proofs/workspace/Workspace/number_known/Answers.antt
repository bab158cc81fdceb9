use Rattle.std.proofs.Common.{◌∙◌, ap, sym, subst}
use Rattle.std.specs.Prelude.{Some}
use Rattle.std.proofs.lemmas.Option.{IfSome_then}
use Rattle.prop_values.specs.Data.{Data}
use Rattle.expr_nodes.specs.NodeForms.{IsForm}
use Rattle.expr_nodes.specs.Outcome.{outcome, promises}
use Rattle.expr_nodes.specs.declared.access.NodeForm.{NodeForm}
use Rattle.expr_nodes.proofs.BindingParts.{asked_number, constant_asked, slot_within}
use Rattle.expr_nodes.proofs.NodeLaws.{asked_below}
use Rattle.expr_nodes.proofs.workspace.Workspace.number_known.Goals as goal

pub kept-requires : goal.kept-requires
kept-requires g c =
    let n = g.N.NodeHandle.node c.args.node.now in
    let F : NodeForm → Type 0 = λ f. IsForm f n in
    slot_within c.in-Asked.slot (asked_below c.args.around.now.limit n c.in-Asked.slot c.in-Asked.want (subst F c.in-Asked.is c.form.ensures) c.requires.below) c.requires.ready

pub returns-in-Given : goal.returns-in-Given
returns-in-Given g c =
    let n = g.N.NodeHandle.node c.args.node.now in
    let bs = g.B.Bindings.listed c.args.around.now.bindings.now in
    let world = g.W.WorldView.world c.args.around.now.world.now in
    let F : NodeForm → Type 0 = λ f. IsForm f n in
    IfSome_then c.number_given.result c.number_given.ensures
    (λ z is. ap (λ x. outcome x (promises bs world) world) (subst F c.in-Given.is c.form.ensures) ∙ is)

pub returns-in-Some : goal.returns-in-Some
returns-in-Some g c =
    let n = g.N.NodeHandle.node c.args.node.now in
    let F : NodeForm → Type 0 = λ f. IsForm f n in
    IfSome_then c.number_in_value-in-Some.result c.number_in_value-in-Some.ensures
    (λ z is. asked_number n c.in-Asked.slot c.in-Asked.want z (subst F c.in-Asked.is c.form.ensures) c.requires.ready
    (ap (λ (d : Data). Some d) (sym is) ∙ c.in-Some.ensures)
    (c.takes_numbers.ensures c.if-takes_numbers.true z))

pub returns-in-None : goal.returns-in-None
returns-in-None g c =
    let n = g.N.NodeHandle.node c.args.node.now in
    let bs = g.B.Bindings.listed c.args.around.now.bindings.now in
    let world = g.W.WorldView.world c.args.around.now.world.now in
    let F : NodeForm → Type 0 = λ f. IsForm f n in
    IfSome_then c.constant_number.result c.constant_number.ensures
    (λ z gives. constant_asked n (g.N.NodeHandle.node c.binding.result) c.in-Asked.slot c.in-Asked.want z (subst F c.in-Asked.is c.form.ensures) c.binding.ensures c.requires.ready
    (gives (promises bs world) world)
    (c.takes_numbers.ensures c.if-takes_numbers.true z))
