use Rattle.std.proofs.Common.{◌∙◌, List, ℕ, ap, sym, subst}
use Rattle.std.specs.Prelude.{Option}
use Rattle.prop_values.specs.Data.{Data, pairs_of}
use Rattle.prop_values.specs.Equality.{at_key}
use Rattle.property_tables.specs.Fitting.{fit}
use Rattle.operator_values.specs.Evaluated.{GivesValue, then_value}
use Rattle.legacy_functions.specs.FunctionView.{default_on, rule_in}
use Rattle.legacy_functions.specs.Meaning.{plain_by, rule_result}
use Rattle.legacy_functions.specs.View.{row_of}
use Rattle.legacy_functions.proofs.MeaningLaws.{rule_is_fitted}
use Rattle.legacy_functions.proofs.meaning.plain_value.Goals as goal

pub returns-in-Some : goal.returns-in-Some
returns-in-Some c =
    let f = c.args.function.now in
    let feature = c.args.feature.now in
    let row = row_of f in
    let default = default_on f feature in
    let rule = rule_in f c.args.rule.now in
    let pairs = pairs_of feature.properties in
    let named = ap (λ (p : Option (List ℕ)). then_value (plain_by p row default c.args.zoom feature rule) (fit row.want)) c.in-Some.is in
    let given = rule_is_fitted row default feature (at_key c.in-Some.name pairs) rule in
    let found = ap (λ (d : Option Data). rule_result row default feature d rule) (sym (c.get-found.ensures.value ∙ ap (λ (n : List ℕ). at_key n pairs) c.as_str.ensures)) in
    subst (GivesValue c.rule_value.result) (sym (named ∙ given ∙ found)) c.rule_value.ensures
