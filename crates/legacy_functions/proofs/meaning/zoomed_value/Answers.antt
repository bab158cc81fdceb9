use Rattle.std.proofs.Common.{◌≡◌, ◌∙◌, ◌-◌, ℕ, ℤ, List, ap, sym, subst}
use Rattle.std.specs.Prelude.{if◌then◌else◌}
use Rattle.interpolate_fixed.specs.Places.{count_not_above}
use Rattle.operator_values.specs.Evaluated.{GivesValue}
use Rattle.legacy_functions.specs.Function.{Way, even, stepped}
use Rattle.legacy_functions.specs.Meaning.{way_result, zoom_way, rule_zooms, step_result, result_at}
use Rattle.legacy_functions.specs.FunctionView.{rules_in, zoom_results_in}
use Rattle.legacy_functions.specs.View.{row_of, way_seen}
use Rattle.legacy_functions.specs.Zooms.{zooms_seen}
use Rattle.legacy_functions.proofs.ClimbLaws.{zooms_of_rules}
use Rattle.legacy_functions.proofs.meaning.zoomed_value.Goals as goal

pub returns-then-function : goal.returns-then-function
returns-then-function c =
    let f = c.args.function.now in
    let rules = c.args.rules.now in
    let results = zoom_results_in f c.args.feature.now rules in
    let r = c.zoom_ramp_value.result in
    let way : zoom_way (row_of f) ≡ even = ap (λ b. if b then even else stepped) c.if-function.true in
    let zooms : rule_zooms (rules_in f rules) ≡ zooms_seen rules = zooms_of_rules (way_seen f.way) rules in
    subst (λ (w : Way). GivesValue r (way_result w (rule_zooms (rules_in f rules)) results c.args.zoom)) (sym way)
    (subst (λ (zs : List ℤ). GivesValue r (way_result even zs results c.args.zoom)) (sym zooms) c.zoom_ramp_value.ensures)

pub returns-else-function : goal.returns-else-function
returns-else-function c =
    let f = c.args.function.now in
    let rules = c.args.rules.now in
    let results = zoom_results_in f c.args.feature.now rules in
    let r = c.zoom_value.result in
    let way : zoom_way (row_of f) ≡ stepped = ap (λ b. if b then even else stepped) c.if-function.false in
    let zooms : rule_zooms (rules_in f rules) ≡ zooms_seen rules = zooms_of_rules (way_seen f.way) rules in
    let place : c.place_in_force-place.result ≡ count_not_above c.args.zoom (zooms_seen rules) - 1 =
    c.place_in_force-place.ensures.place ∙ ap (λ (zs : List ℤ). count_not_above c.args.zoom zs - 1) c.zooms.ensures.zooms in
    subst (λ (w : Way). GivesValue r (way_result w (rule_zooms (rules_in f rules)) results c.args.zoom)) (sym way)
    (subst (λ (zs : List ℤ). GivesValue r (step_result zs results c.args.zoom)) (sym zooms)
    (subst (λ (k : ℕ). GivesValue r (result_at results k)) place c.zoom_value.ensures))
