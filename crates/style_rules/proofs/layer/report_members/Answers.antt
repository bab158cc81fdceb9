use Rattle.std.specs.Prelude.{OnOk}
use Rattle.std.proofs.Common.{◌≡◌, ◌++◌, sym, subst, ◌∙◌}
use Rattle.decimal_json.specs.View.{path_of, fields}
use Rattle.style_rules.specs.CodeView.{fields_at, context_seen, has_name, parts_seen}
use Rattle.style_rules.proofs.LayerLaws.{broken_layer, sound_layer}
use Rattle.style_rules.proofs.layer.report_members.Goals as goal

pub returns-in-Some : goal.returns-in-Some
returns-in-Some c =
    subst (λ x. OnOk c.report_broken.result (c.report_broken.new.self ≡ c.args.reports.now ++ x))
    (broken_layer (fields_at c.args.sources) (has_name c.args.used.now) (path_of c.args.here.now) (fields c.args.members.now)
    (context_seen c.context_of-context.result) (parts_seen c.parts_of-parts.result) c.in-Some.rule c.parts_of-parts.ensures c.context_of-context.ensures (sym c.in-Some.is ∙ c.layer_rule.ensures))
    c.report_broken.ensures

pub returns-in-None : goal.returns-in-None
returns-in-None c =
    subst (λ x. OnOk c.report_each_member.result (c.report_each_member.new.reports ≡ c.args.reports.now ++ x))
    (sound_layer (fields_at c.args.sources) (has_name c.args.used.now) (path_of c.args.here.now) (fields c.args.members.now)
    (context_seen c.context_of-context.result) (parts_seen c.parts_of-parts.result) c.parts_of-parts.ensures c.context_of-context.ensures (sym c.in-None.is ∙ c.layer_rule.ensures))
    c.report_each_member.ensures
