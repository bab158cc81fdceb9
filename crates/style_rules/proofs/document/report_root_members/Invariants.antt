use Rattle.std.proofs.Common.{◌≡◌, ◌++◌, drop}
use Rattle.decimal_json.specs.Tree.{object, fields_of}
use Rattle.decimal_json.specs.View.{fields, members_view}
use Rattle.style_rules.specs.Levels.{AreMembers, fields_reports, root_member_reports}
use Rattle.style_rules.proofs.document.report_root_members.Given as goal

abbrev pub invariant-loop-member : goal.invariant-loop-member
invariant-loop-member l =
    AreMembers (object (fields_of l.root)) (members_view (drop l.member-index l.members))
    × (l.reports ++ fields_reports (root_member_reports (object (fields_of l.root))) (fields (drop l.member-index l.members))
    ≡ l.fn.reports ++ fields_reports (root_member_reports (object (fields_of l.root))) (fields l.members))
