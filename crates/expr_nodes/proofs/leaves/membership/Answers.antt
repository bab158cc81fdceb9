use Rattle.std.proofs.Common.{◌∙◌, subst}
use Rattle.std.specs.Prelude.{Bool}
use Rattle.prop_values.specs.Data.{boolean}
use Rattle.prop_values.specs.View.{data_of}
use Rattle.property_tables.specs.Fitting.{fit}
use Rattle.operator_values.specs.Evaluated.{GivesValue}
use Rattle.expr_nodes.proofs.SearchLaws.{found_among}
use Rattle.expr_nodes.proofs.leaves.membership.Goals as goal

pub returns : goal.returns
returns c =
    let P : Bool → Type 0 = λ b. GivesValue c.fitted.result (fit c.args.want.now (boolean b)) in
    subst P (c.has.ensures ∙ found_among (data_of c.args.value.now) c.args.items.now) c.fitted.ensures
