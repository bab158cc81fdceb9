use Rattle.std.proofs.Common.{sym, subst, ◌∙◌}
use Rattle.decimal_json.specs.Tree.{object, fields_of}
use Rattle.style_rules.specs.Levels.{AreMembers}
use Rattle.style_rules.proofs.LevelLaws.{each_is_found, root_reports}
use Rattle.style_rules.proofs.document.examine_root.Goals as goal

pub report_root_members-requires-clause-members : goal.report_root_members-requires-clause-members
report_root_members-requires-clause-members c =
    subst (AreMembers (object (fields_of c.args.root.now))) (sym c.as_slice-members.ensures.members) (each_is_found c.args.root.now c.as_slice-members.ensures.distinct)

pub returns : goal.returns
returns c =
    root_reports c.args.root.now c.as_slice-members.result.now c.new-reports.result c.report_root_members.new.reports c.as_slice-members.ensures.members c.as_slice-members.ensures.distinct
    (sym c.has_root_members.ensures ∙ c.if-not-has_root_members.false) c.new-reports.ensures c.in_ok-report_root_members.ensures
